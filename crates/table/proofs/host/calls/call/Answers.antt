-- `table::host::calls::call` meets its contract: each answer by the tests that led to it and what its callees ensure.
-- Assumes nothing.
use Rattle.std.proofs.Common.{rules}
use Rattle.std.proofs.lemmas.Bool.{not-false, not-true}
use Rattle.octets.proofs.Branch.{and_right}
use Rattle.table.proofs.Octets.HostLaws.{ill_formed, no_room, no_table, not_long, rows_table}
use Rattle.table.proofs.Octets.RuledLaws.{plays_gives}
use Rattle.table.specs.Fit.{well_formed}
use Rattle.table.specs.Rows.{numbered_at, records_of}
use mathlib.Core.Path.{◌∙◌, sym}
use Rattle.table.proofs.host.calls.call.Goals as goal

pub returns-then-out-room : goal.returns-then-out-room
returns-then-out-room c =
    let a = c.args in
    rw c.refusal.ensures (no_room a.table.now a.s a.e a.octets.now a.out.now (λ k. (c.type_inv.table k).fits) (rw c.room.ensures at c.if-out-room.true))

pub returns-then-table-ne1536 : goal.returns-then-table-ne1536
returns-then-table-ne1536 c =
    let a = c.args in
    rw c.refusal-then-table-ne1536.ensures (no_table a.table.now a.s a.e a.octets.now a.out.now (not_long a.table.now c.if-table-ne1536.true) (rw c.room.ensures at c.if-out-room.false))

pub returns-then-not-v : goal.returns-then-not-v
returns-then-not-v c =
    let a = c.args in
    rw c.refusal-then-not-v.ensures (ill_formed a.table.now a.s a.e a.octets.now a.out.now (λ k. search rules) c.if-table-ne1536.false (rw c.room.ensures at c.if-out-room.false) (sym c.survey-v.ensures.0 ∙ not-true _ c.if-not-v.true))

pub returns : goal.returns
returns c =
    let a = c.args in
    let xs = a.table.now in
    let w = sym c.survey-v.ensures.0 ∙ not-false _ c.if-not-v.false in
    let i = rows_table a.s xs c.if-table-ne1536.false w in
    let f = and_right (numbered_at 32 0 xs) (well_formed a.s (records_of xs)) w in
    let v = c.survey-v.ensures.1 (not-false _ c.if-not-v.false) in
    plays_gives xs a.s a.e a.octets.now a.out.now i f _ _ _ (c.play.ensures i v.1 (λ y. v.0))
