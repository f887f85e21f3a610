-- `table::records::play::play` meets its contract: each answer by the tests that led to it and what its callees ensure.
-- Assumes nothing.
use Rattle.table.proofs.Octets.RuledLaws.{tick_room}
use Rattle.table.proofs.Theorems.RuledRecords.{rules_change, rules_short, rules_tick}
use mathlib.Core.Path.{◌∙◌, sym}
use native.Mathlib.Omega.{arith}
use Rattle.table.proofs.records.play.play.Goals as goal

pub returns-then-out-room : goal.returns-then-out-room
returns-then-out-room c =
    let a = c.args in
    rw c.refusal.ensures (rules_short a.s a.t a.e a.frame.now a.out.now (rw c.room.ensures at c.if-out-room.true))

pub returns-then-ticks : goal.returns-then-ticks
returns-then-ticks c =
    let a = c.args in
    let p = rules_tick a.s a.t a.e a.frame.now a.out.now (rw c.room.ensures at c.if-out-room.false) (sym c.ticks.ensures ∙ c.if-ticks.true) in
    (c.ticked.ensures.0 ∙ rw c.step_in.ensures p.0, c.ticked.ensures.1 ∙ rw c.step_in.ensures p.1)

pub returns : goal.returns
returns c =
    let a = c.args in
    let p = rules_change a.s a.t a.e a.frame.now a.out.now (rw c.room.ensures at c.if-out-room.false) (sym c.ticks.ensures ∙ c.if-ticks.false) in
    let m = c.met.ensures ∙ c.changed-c.ensures in
    (c.finish.ensures.0 ∙ rw m p.0, c.finish.ensures.1 ∙ rw m p.1)
