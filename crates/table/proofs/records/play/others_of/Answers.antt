-- `table::records::play::others_of` meets its contract: what is found in the places passed is all there is at the end.
-- Assumes nothing.
use Rattle.octets.proofs.Branch.{tests}
use Rattle.table.proofs.Passes.Tallies.{tallied_all, tallied_more, tallied_none}
use Rattle.table.specs.Others.{others_of}
use borrow.Author.Rules.{rules}
use mathlib.Core.Path.{◌∙◌, refl}
use native.Mathlib.Omega.{arith}
use Rattle.table.proofs.records.play.others_of.Goals as goal

pub returns-then-answers : goal.returns-then-answers
unfolding others_of
returns-then-answers c = c.nobody.ensures ∙ search (tests, c.if-answers.true, ← c.answers.ensures)

pub loop-i-init : goal.loop-i-init
loop-i-init c = tallied_none _ (search rules) _ refl

pub loop-i-preserved : goal.loop-i-preserved
loop-i-preserved c = tallied_more _ _ _ _ _ c.loop-i.invariant c.loop-i-test.true _ refl _ (c.first_joined-associated.ensures ∙ rw c.is_joined-on.ensures) _ (c.counted-joined.ensures ∙ rw c.is_joined-on.ensures) _ (c.counted-associating.ensures ∙ rw c.is_associating.ensures)

pub returns : goal.returns
returns c = let e = tallied_all _ _ _ _ _ c.loop-i.invariant c.loop-i-test.false in c.others.ensures _ e.0 e.1
