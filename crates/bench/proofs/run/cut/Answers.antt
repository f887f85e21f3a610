-- `bench::run::cut` meets its contract: by its two tests.
-- Assumes nothing.
use Rattle.std.proofs.lemmas.Bool.{not-false, not-true}
use Rattle.bench.specs.Run.{end_output}
use Rattle.bench.specs.Turn.{took, wanted}
use borrow.Author.Tests.{eq-eqb, ne_eqb}
use mathlib.Core.Path.{refl}
use Rattle.bench.proofs.run.cut.Goals as goal

pub returns-then-not-r : goal.returns-then-not-r
returns-then-not-r g c = λ ts. wanted refl (not-true _ c.if-not-r.true) c.refill.ensures refl refl

pub returns-then-r : goal.returns-then-r
unfolding end_output
returns-then-r g c = λ ts. took (refl, not-false _ c.if-not-r.false, rw (eq-eqb _ _ c.if-r.true) c.finish.ensures, rw (eq-eqb _ _ c.if-r.true)) refl

pub returns-else-r : goal.returns-else-r
unfolding end_output
returns-else-r g c = λ ts. took (refl, not-false _ c.if-not-r.false, rw (ne_eqb _ _ c.if-r.false) c.stop.ensures.0, rw (ne_eqb _ _ c.if-r.false) c.stop.ensures.1) refl
