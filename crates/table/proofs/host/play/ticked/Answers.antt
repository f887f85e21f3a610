-- `table::host::play::ticked` meets its contract: each answer by the tests that led to it and what its callees ensure.
-- Assumes nothing.
use Rattle.table.specs.Ruled.{ticked_in, ticked_of}
use borrow.Author.Tests.{eq-eqb, ne_eqb}
use mathlib.Core.Path.{◌∙◌, refl, sym}
use Rattle.table.proofs.Octets.RowLaws.{octets_of_records}
use Rattle.table.proofs.host.play.ticked.Goals as goal

pub returns-then-step-eq0 : goal.returns-then-step-eq0
unfolding ticked_of ticked_in
returns-then-step-eq0 c = rw (eq-eqb _ _ c.if-step-eq0.true) (c.refusal.ensures, (λ i. sym (octets_of_records _ (λ k. (c.type_inv.table k).fits) i)), refl)

pub returns : goal.returns
unfolding ticked_of ticked_in
returns c = rw (ne_eqb _ _ c.if-step-eq0.false) (c.count.ensures ∙ rw (c.refusal-2.ensures, c.clock-written.ensures.0), (λ i. c.clock-written.ensures.1), c.clock-written.ensures.2)
