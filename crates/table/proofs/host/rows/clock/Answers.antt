-- `table::host::rows::clock` meets its contract: the places passed hold what they must, the others what they held, and what ended is told.
-- Assumes nothing.
use Rattle.peer.proofs.Links.{tick_links}
use Rattle.peer.specs.declared.tick.Ticked.{Ticked}
use Rattle.table.proofs.Octets.RowLaws.{at_place, length_records}
use Rattle.table.proofs.Octets.RowStores.{record_unread, rewritten_all, rewritten_head, rewritten_none, rewritten_same}
use Rattle.table.proofs.Passes.Ticks.{report_short, told_bytes, told_count, told_none, told_nothing, told_step}
use Rattle.table.specs.Pass.{after_of, clocked_of, report_for}
use Rattle.table.specs.Rows.{row_numbered}
use borrow.Author.Tests.{lt-ltb}
use mathlib.Core.Path.{◌∙◌, ap, sym}
use native.Mathlib.Omega.{arith}
use Rattle.table.proofs.host.rows.clock.Goals as goal
use Rattle.table.proofs.host.rows.clock.Goals.{then-not-resting, else-not-resting}

pub loop-i-init : goal.loop-i-init
loop-i-init c = (c.requires.0, c.requires.1, (λ k. (c.type_inv.table k).fits), rewritten_none (after_of c.args.s c.args.d) _, told_none _ _ _ _ (length_records 32 0 _))

pub put_report-n-requires : goal.put_report-n-requires
put_report-n-requires c = omega (arith, c.loop-i.invariant.1, c.loop-i.invariant.4.low, c.loop-i.invariant.4.same, c.loop-i-test.true)

pub loop-i-preserved : goal.loop-i-preserved
loop-i-preserved c =
    let start = c.loop-i.invariant in
    let l = c.loop-i-test.true in
    let row = c.row_at.ensures in
    elim c.if-not-resting.branch [
      | then-not-resting w ↦
          let told = w.put_report-n.ensures in
          let ticked = w.tick-q in
          let read = w.look-p in
          let here = read.ensures ∙ record_unread (after_of _ _) _ start.0 _ _ l start.3 in (
            start.0,
            start.1,
            start.2,
            w.table-is ∙ w.store_head.ensures ∙ rw (lt-ltb _ _ l) (rewritten_head (after_of _ _) _ start.0 _ _ l start.3 start.2 (λ q. tick_links _ q _) _ (rw (ticked.ensures, here))),
            told_step _ _ _ _ _ _ _ start.4 l (report_for c.loop-i.i ticked.result.report read.result.address) (rw (ticked.ensures, here)) (report_short _ _ _) _ (w.n-is ∙ told.0) _ (w.out-is ∙ told.1),
          )
      | else-not-resting w ↦
          let rests = c.resting.ensures w.if-not-resting.false in (
            start.0,
            start.1,
            start.2,
            w.table-is ∙ rewritten_same (after_of _ _) _ start.0 _ _ l start.3 start.2 (ap row_numbered (sym row) ∙ rests.0) (rw (← row) (ap (λ (t : Ticked). t.peer) (rests.1 _ _))),
            rw (w.n-is, w.out-is) (told_nothing _ _ _ _ _ _ _ start.4 l (rw (← record_unread (after_of _ _) _ start.0 _ _ l start.3, ← at_place _ _ l, ← row) (ap (λ (t : Ticked). t.report) (rests.1 _ _)))),
          )
    ]

pub overflow_cast-result : goal.overflow_cast-result
overflow_cast-result c = omega (arith, c.loop-i.invariant.4.low, c.loop-i.invariant.4.place)

pub returns : goal.returns
unfolding clocked_of
returns c = (told_count _ _ _ _ _ _ _ c.loop-i.invariant.4 c.loop-i-test.false, rewritten_all (after_of _ _) _ c.loop-i.invariant.0 _ _ c.loop-i.invariant.4.place c.loop-i-test.false c.loop-i.invariant.3, told_bytes _ _ _ _ _ _ _ c.loop-i.invariant.4 c.loop-i-test.false)
