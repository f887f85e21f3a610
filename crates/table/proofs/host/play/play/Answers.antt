-- `table::host::play::play` meets its contract: each answer by the tests that led to it and what its callees ensure.
-- Assumes nothing.
use Rattle.table.proofs.Octets.RowLaws.{table_long}
use Rattle.table.proofs.Octets.RuledLaws.{plays_short, plays_tick, tick_room}
use mathlib.Core.Path.{◌∙◌, sym}
use native.Mathlib.Omega.{arith}
use Rattle.table.proofs.host.play.play.Goals as goal

pub returns-then-out-room : goal.returns-then-out-room
returns-then-out-room c = λ i q h.
    let a = c.args in
    rw c.refusal.ensures (plays_short a.table.now a.s a.e a.octets.now a.out.now (λ k. (c.type_inv.table k).fits) i (rw c.room.ensures at c.if-out-room.true))

pub returns-then-table-ne1536 : goal.returns-then-table-ne1536
returns-then-table-ne1536 c = λ i q h. absurd (c.if-table-ne1536.true (table_long c.args.table.now i))

pub returns-then-ticks : goal.returns-then-ticks
returns-then-ticks c = λ i q h.
    let a = c.args in
    let p = plays_tick a.table.now a.s a.e a.octets.now a.out.now (rw c.room.ensures at c.if-out-room.false) (sym c.ticks.ensures ∙ c.if-ticks.true) _ c.step_in.ensures in
    (c.ticked.ensures.0 ∙ p.0, c.ticked.ensures.1 i ∙ p.1, c.ticked.ensures.2 ∙ p.2)
