-- `bench::passed::counted` meets its contract: by its one test, and what `one_more` ensures.
-- Assumes nothing.
use Rattle.std.proofs.lemmas.Bool.Decides.{nat_tests}
use native.Mathlib.Omega.{arith}
use Rattle.bench.specs.Import.{counted_of}
use Rattle.bench.proofs.passed.counted.Goals as goal

pub returns-then-kept : goal.returns-then-kept
unfolding counted_of
returns-then-kept c = grind (arith, nat_tests)

pub returns-else-kept : goal.returns-else-kept
unfolding counted_of
returns-else-kept c = grind (arith, nat_tests)
