-- `table::records::pass::ticked` meets its contract: each answer by the tests that led to it and what its callees ensure.
-- Assumes nothing.
use Rattle.table.specs.Ruled.{ticked_in, ticked_of}
use borrow.Author.Tests.{eq-eqb, ne_eqb}
use mathlib.Core.Path.{refl}
use Rattle.table.proofs.records.pass.ticked.Goals as goal

pub returns-then-d-eq0 : goal.returns-then-d-eq0
unfolding ticked_of ticked_in
returns-then-d-eq0 c = rw (eq-eqb _ _ c.if-d-eq0.true, ← c.refusal.ensures) (refl, refl)

pub returns : goal.returns
unfolding ticked_of ticked_in
returns c = rw (ne_eqb _ _ c.if-d-eq0.false) (rw (← c.clock-c.ensures.0, c.count.ensures, c.refusal-2.ensures), c.clock-c.ensures.1)
