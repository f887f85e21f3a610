-- `bench::capture::is_numbered` meets its contract: by the number in one order, then in the other.
-- Assumes nothing.
use Rattle.std.proofs.lemmas.Bool.Decides.{nat_tests}
use native.Mathlib.Omega.{arith}
use Rattle.bench.specs.Capture.{numbered}
use Rattle.bench.proofs.capture.is_numbered.Goals as goal

pub returns-then-is_big : goal.returns-then-is_big
unfolding numbered
returns-then-is_big c = grind (arith, nat_tests)

pub returns-else-is_big : goal.returns-else-is_big
unfolding numbered
returns-else-is_big c = grind (arith, nat_tests)
