-- `bench::passed::one_more` meets its contract: the sum stops at the highest number.
-- Assumes nothing.
use Rattle.std.proofs.lemmas.Bool.Decides.{nat_tests}
use native.Mathlib.Omega.{arith}
use Rattle.bench.specs.Play.{number_after}
use Rattle.bench.proofs.passed.one_more.Goals as goal

pub returns : goal.returns
unfolding number_after
returns c = grind (arith, nat_tests)
