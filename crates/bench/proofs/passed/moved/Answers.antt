-- `bench::passed::moved` meets its contract: by its test; the later of two times is the larger.
-- Assumes nothing.
use Rattle.std.proofs.lemmas.Bool.Decides.{nat_tests}
use native.Mathlib.Omega.{arith}
use Rattle.bench.specs.Import.{moved_of}
use Rattle.bench.proofs.passed.moved.Goals as goal

pub returns-then-not-c : goal.returns-then-not-c
unfolding moved_of
returns-then-not-c c = grind (arith, nat_tests)

pub returns : goal.returns
unfolding moved_of
returns c = grind (arith, nat_tests)
