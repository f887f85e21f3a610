-- `bench::capture::is_kept` meets its contract: by its tests.
-- Assumes nothing.
use Rattle.std.proofs.lemmas.Bool.Decides.{nat_tests}
use native.Mathlib.Omega.{arith}
use Rattle.bench.specs.Capture.{keeps_of}
use Rattle.bench.proofs.capture.is_kept.Goals as goal

pub returns-then-original-captured : goal.returns-then-original-captured
unfolding keeps_of
returns-then-original-captured c = grind (arith, nat_tests)

pub returns-else-original-captured : goal.returns-else-original-captured
unfolding keeps_of
returns-else-original-captured c = grind (arith, nat_tests)
