-- `table::host::others::others_in` meets its contract: what is found in the places passed is all there is at the end.
-- Assumes nothing.
use Rattle.table.proofs.Octets.RowLaws.{blank_free, length_records}
use Rattle.table.proofs.Passes.Tallies.{tallied_all, tallied_free, tallied_more, tallied_none}
use Rattle.table.specs.Others.{others_of}
use mathlib.Core.Path.{◌∙◌, refl, sym}
use native.Mathlib.Omega.{arith}
use Rattle.octets.proofs.Branch.{tests}
use Rattle.table.proofs.host.others.others_in.Goals as goal

pub returns-then-answers : goal.returns-then-answers
unfolding others_of
returns-then-answers c = c.nobody.ensures ∙ search (tests, c.if-answers.true, ← c.answers.ensures)

pub loop-i-init : goal.loop-i-init
loop-i-init c = tallied_none _ (length_records 32 0 _) _ refl

pub loop-i-preserved-then-blank_at : goal.loop-i-preserved-then-blank_at
loop-i-preserved-then-blank_at c = tallied_free _ _ _ _ _ c.loop-i.invariant c.loop-i-test.true (sym (blank_free _ _ (omega (arith, c.loop-i.invariant.low, c.loop-i-test.true)) (sym c.blank_at.ensures ∙ c.if-blank_at.true)))

pub loop-i-preserved : goal.loop-i-preserved
loop-i-preserved c = tallied_more _ _ _ _ _ c.loop-i.invariant c.loop-i-test.true _ c.look-p.ensures _ (c.first_joined-associated.ensures ∙ rw c.is_joined-on.ensures) _ (c.counted-joined.ensures ∙ rw c.is_joined-on.ensures) _ (c.counted-associating.ensures ∙ rw c.is_associating.ensures)

pub returns : goal.returns
returns c = let e = tallied_all _ _ _ _ _ c.loop-i.invariant c.loop-i-test.false in c.others.ensures _ e.0 e.1
