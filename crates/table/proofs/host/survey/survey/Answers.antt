-- `table::host::survey::survey` meets its contract: every place passed is well formed, and what is counted of them is all there is at the end.
-- Assumes nothing.
use Prim.Native.Nat.{◌-◌}
use Rattle.peer.specs.Fit.{links_fit}
use Rattle.table.specs.Fit.{links_apart}
use Rattle.table.specs.Places.{addresses_of, all_of, link_addresses_of}
use Rattle.table.specs.Rows.{records_of}
use Rattle.table.proofs.Octets.Surveys.{same_address, says_nothing, surveyed_all, surveyed_free, surveyed_from, surveyed_plain, surveyed_used, unfit_row, unfit_settings}
use borrow.Author.Rules.{rules}
use lib.ListN.{length-set}
use mathlib.Core.Bool.{true, ◌&&◌}
use mathlib.Core.Path.{◌≡◌, ◌∙◌, refl, sym}
use native.Mathlib.Omega.{arith}
use Rattle.table.proofs.host.survey.survey.Goals as goal
use Rattle.table.proofs.host.survey.survey.Goals.{then-sparse, else-sparse}

pub returns-then-table-ne1536 : goal.returns-then-table-ne1536
returns-then-table-ne1536 c = absurd (c.if-table-ne1536.true c.requires)

pub returns-then-not-fit : goal.returns-then-not-fit
returns-then-not-fit c = says_nothing _ _ c.ill-then-not-fit.ensures (unfit_settings _ _ (sym c.fit.ensures ∙ c.if-not-fit.true))

pub loop-i-init : goal.loop-i-init
loop-i-init c = (sym c.fit.ensures ∙ c.if-not-fit.false, search rules, surveyed_from _ _ c.requires _ (search rules) (32 - c.used-n.result) _ (omega (arith, c.used-n.ensures.0)) c.used-n.ensures.2)

pub returns-then-i-gt32 : goal.returns-then-i-gt32
returns-then-i-gt32 c = absurd (omega (arith, c.if-i-gt32.true, c.loop-i.invariant.2.tally.low))

pub loop-i-2-init : goal.loop-i-2-init
loop-i-2-init c = (c.loop-i.invariant.0, omega arith, c.loop-i.invariant.1, c.loop-i.invariant.2)

pub clear-requires : goal.clear-requires
clear-requires c = (c.loop-i-2.invariant.0, c.loop-i-2.invariant.3.tally.low, c.loop-i-2.invariant.2)

pub overflow_sub-i : goal.overflow_sub-i
overflow_sub-i c = omega (arith, (c.clear.ensures c.loop-i-2-test.true).0)

pub overflow_mul-i : goal.overflow_mul-i
overflow_mul-i c = omega (arith, c.loop-i-2.invariant.3.tally.low)

pub bounds-marks-mark : goal.bounds-marks-mark
bounds-marks-mark c = omega (arith, c.mark.ensures)

pub counted-joined-requires : goal.counted-joined-requires
counted-joined-requires c = omega (arith, c.loop-i-2.invariant.3.tally.few, (c.clear.ensures c.loop-i-2-test.true).0)

pub loop-i-2-smaller : goal.loop-i-2-smaller
loop-i-2-smaller c = omega (arith, (c.clear.ensures c.loop-i-2-test.true).0)

pub loop-i-2-preserved : goal.loop-i-2-preserved
loop-i-2-preserved c =
    let at = c.loop-i-2 in
    let k = c.clear.ensures c.loop-i-2-test.true in
    let row = c.row_at-r.ensures in
    let m = c.mark.ensures in
    (at.invariant.0, omega (arith, at.invariant.1), length-set at.marks c.mark.result true ∙ at.invariant.2, surveyed_plain _ _ _ _ _ _ _ at.invariant.3 k.0 _ row (rw row k.1) _ m (rw (m, row) k.3) (rw row k.2) _ c.first_joined-associated.ensures _ c.counted-joined.ensures)

pub overflow_mul-i-then-i-gt0 : goal.overflow_mul-i-then-i-gt0
overflow_mul-i-then-i-gt0 c = omega (arith, c.loop-i-2.invariant.3.tally.low)

pub loop-i-preserved-then-blank_at : goal.loop-i-preserved-then-blank_at
loop-i-preserved-then-blank_at c = (c.loop-i-2.invariant.0, c.loop-i-2.invariant.2, surveyed_free _ _ _ _ _ _ _ c.loop-i-2.invariant.3 c.if-i-gt0.true (sym c.blank_at.ensures ∙ c.if-blank_at.true))

pub overflow_mul-i-else-blank_at : goal.overflow_mul-i-else-blank_at
overflow_mul-i-else-blank_at c = omega (arith, c.loop-i-2.invariant.3.tally.low)

pub row_standing-x-requires : goal.row_standing-x-requires
row_standing-x-requires c = c.loop-i-2.invariant.0

pub returns-else-x : goal.returns-else-x
returns-else-x c = says_nothing _ _ c.ill-else-x.ensures (unfit_row _ _ _ _ _ _ _ c.loop-i-2.invariant.3 c.if-i-gt0.true _ c.row_at-r-else-blank_at.ensures (sym c.blank_at.ensures ∙ c.if-blank_at.false) (sym c.row_standing-x.ensures.0 ∙ c.if-x.false))

pub bounds-marks-m : goal.bounds-marks-m
bounds-marks-m c = omega (arith, c.mark-m.ensures)

pub alone-requires : goal.alone-requires
alone-requires c = omega (arith, c.loop-i-2.invariant.3.tally.low, c.if-i-gt0.true)

pub returns-else-alone : goal.returns-else-alone
returns-else-alone c = says_nothing _ _ c.ill-else-alone.ensures (same_address _ _ _ _ _ _ _ c.loop-i-2.invariant.3 c.if-i-gt0.true _ c.row_at-r-else-blank_at.ensures (sym c.row_standing-x.ensures.0 ∙ c.if-x.true) _ c.mark-m.ensures (sym c.alone.ensures ∙ c.if-alone.false))

pub bounds-marks-m-else-blank_at : goal.bounds-marks-m-else-blank_at
bounds-marks-m-else-blank_at c = omega (arith, c.mark-m.ensures)

pub counted-joined-requires-else-blank_at : goal.counted-joined-requires-else-blank_at
counted-joined-requires-else-blank_at c = omega (arith, c.loop-i-2.invariant.3.tally.few, c.if-i-gt0.true)

pub counted-associating-requires : goal.counted-associating-requires
counted-associating-requires c = omega (arith, c.loop-i-2.invariant.3.tally.few', c.if-i-gt0.true)

pub loop-i-smaller-else-blank_at : goal.loop-i-smaller-else-blank_at
loop-i-smaller-else-blank_at c = omega (arith, c.loop-i-2.invariant.1, c.if-i-gt0.true)

pub loop-i-preserved-else-blank_at : goal.loop-i-preserved-else-blank_at
loop-i-preserved-else-blank_at c =
    let at = c.loop-i-2 in
    let row = c.row_at-r-else-blank_at.ensures in
    let stand = c.row_standing-x.ensures in
    let fit = c.if-x.true in
    (at.invariant.0, length-set at.marks c.mark-m.result true ∙ at.invariant.2, surveyed_used _ _ _ _ _ _ _ at.invariant.3 c.if-i-gt0.true _ row (sym stand.0 ∙ fit) _ c.mark-m.ensures (sym c.alone.ensures ∙ c.if-alone.true) _ c.first_joined-associated-else-blank_at.ensures _ c.counted-joined-else-blank_at.ensures _ (stand.1 fit) _ c.counted-associating.ensures)

pub loop-i-preserved : goal.loop-i-preserved
loop-i-preserved c = (c.loop-i-2.invariant.0, c.loop-i-2.invariant.2, c.loop-i-2.invariant.3)

pub any_linked-linked-requires : goal.any_linked-linked-requires
any_linked-linked-requires c = (c.loop-i.invariant.2.long, c.used-n.ensures.0, c.used-n.ensures.1, c.used-n.ensures.2)

pub links_well-requires : goal.links_well-requires
links_well-requires c = (c.loop-i.invariant.2.long, c.any_linked-linked.ensures)

pub returns : goal.returns
returns c =
    let rows = records_of c.args.table.now in
    let well : c.if-sparse.result ≡ (c.sparse.result && (all_of (links_fit c.args.s) rows && links_apart (link_addresses_of rows) (addresses_of rows))) =
    elim c.if-sparse.branch [ then-sparse w ↦ w.result-is ∙ rw w.if-sparse.true w.links_well.ensures | else-sparse w ↦ w.result-is ∙ rw w.if-sparse.false ] in
    let f = surveyed_all _ _ _ _ _ _ _ c.loop-i.invariant.2 c.loop-i-test.false c.loop-i.invariant.0 _ c.any_linked-linked.ensures _ c.sparse.ensures _ refl _ well in
    (f.0, λ t. (c.others.ensures _ (f.1 t).0 (f.1 t).1, (f.1 t).2))
