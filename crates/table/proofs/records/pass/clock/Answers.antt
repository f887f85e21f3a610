-- `table::records::pass::clock` meets its contract: what is written and what is still to be written are all reports; the places passed are as they must be.
-- Assumes nothing.
use Prim.Native.Nat.{ℕ}
use Rattle.peer.specs.Record.{free_of}
use Rattle.table.proofs.Passes.Ticks.{kept_rows, kept_step, report_short, told_bytes, told_count, told_none}
use Rattle.table.specs.Pass.{clocked_of, report_for}
use borrow.Author.Rules.{rules}
use lib.ListN.{get_or}
use mathlib.Core.List.{List}
use mathlib.Core.Path.{refl}
use Rattle.peer.specs.declared.record.Record.{Record}
use Rattle.table.proofs.records.pass.clock.Goals as goal

pub loop-i-preserved : goal.loop-i-preserved
loop-i-preserved c =
    let here : Record = get_or c.loop-i.p-items c.loop-i.i free_of in
    let told : List ℕ = report_for c.loop-i.i c.tick-q.result.report here.address in
    kept_step _ _ _ _ _ _ _ _ c.loop-i.invariant c.loop-i-test.true c.tick-q.result.peer told (rw c.tick-q.ensures) (rw c.tick-q.ensures) (report_short _ _ _) _ c.put_report-n.ensures.0 _ c.put_report-n.ensures.1

pub returns : goal.returns
unfolding clocked_of
returns c =
    let k = c.loop-i.invariant in
    let over = c.loop-i-test.false in
    (rw (← kept_rows _ _ _ _ _ _ _ _ k over, ← told_count _ _ _ _ _ _ _ k.told over), told_bytes _ _ _ _ _ _ _ k.told over)
