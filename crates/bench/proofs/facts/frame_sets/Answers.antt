-- `bench::facts::frame_sets` meets its contract: by its tests.
-- Assumes nothing.
use Rattle.std.proofs.lemmas.Bool.Decides.{nat_tests}
use native.Mathlib.Omega.{arith}
use Rattle.bench.specs.Facts.{frame_sets}
use Rattle.bench.proofs.facts.frame_sets.Goals as goal

pub returns-then-is_rejected : goal.returns-then-is_rejected
unfolding frame_sets
returns-then-is_rejected c = grind (arith, nat_tests)

pub returns-else-is_rejected : goal.returns-else-is_rejected
unfolding frame_sets
returns-else-is_rejected c = grind (arith, nat_tests)

pub returns-else-role-eq-STATION : goal.returns-else-role-eq-STATION
unfolding frame_sets
returns-else-role-eq-STATION c = grind (arith, nat_tests)
