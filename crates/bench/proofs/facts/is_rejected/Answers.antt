-- `bench::facts::is_rejected` meets its contract: by its tests.
-- Assumes nothing.
use Rattle.std.proofs.lemmas.Bool.Decides.{nat_tests}
use native.Mathlib.Omega.{arith}
use Rattle.bench.specs.Facts.{is_rejected}
use Rattle.bench.proofs.facts.is_rejected.Goals as goal

pub returns-else-a-ne0 : goal.returns-else-a-ne0
unfolding is_rejected
returns-else-a-ne0 c = grind (arith, nat_tests)

pub returns-then-a-eq-ASSOCIATION_CONFIRM : goal.returns-then-a-eq-ASSOCIATION_CONFIRM
unfolding is_rejected
returns-then-a-eq-ASSOCIATION_CONFIRM c = grind (arith, nat_tests)

pub returns-else-a-eq-ASSOCIATION_CONFIRM : goal.returns-else-a-eq-ASSOCIATION_CONFIRM
unfolding is_rejected
returns-else-a-eq-ASSOCIATION_CONFIRM c = grind (arith, nat_tests)
