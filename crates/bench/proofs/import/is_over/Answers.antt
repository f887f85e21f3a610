-- `bench::import::is_over` meets its contract: by the stage.
-- Assumes nothing.
use Rattle.std.proofs.lemmas.Bool.Decides.{nat_tests}
use native.Mathlib.Omega.{arith}
use Rattle.bench.specs.Importer.{is_over}
use Rattle.bench.proofs.import.is_over.Goals as goal

pub returns-in-Over : goal.returns-in-Over
unfolding is_over
returns-in-Over c = grind (arith, nat_tests)

pub returns-in_default : goal.returns-in_default
unfolding is_over
returns-in_default c = grind (arith, nat_tests)
