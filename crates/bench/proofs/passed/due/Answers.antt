-- `bench::passed::due` meets its contract: where the latest time is the earlier one, nothing is due.
-- Assumes nothing.
use Rattle.std.proofs.lemmas.Bool.Decides.{nat_tests}
use native.Mathlib.Omega.{arith}
use Rattle.bench.specs.Import.{due_of}
use Rattle.bench.proofs.passed.due.Goals as goal

pub returns : goal.returns
unfolding due_of
returns c = grind (arith, nat_tests)
