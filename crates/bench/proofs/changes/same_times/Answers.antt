-- `bench::changes::same_times` meets its contract: by the exchange, the time left and the hold.
-- Assumes nothing.
use Rattle.std.proofs.lemmas.Bool.Decides.{nat_tests}
use native.Mathlib.Omega.{arith}
use Rattle.bench.specs.Changes.{same_times}
use Rattle.bench.proofs.changes.same_times.Goals as goal

pub returns-then-p-q : goal.returns-then-p-q
unfolding same_times
returns-then-p-q c = grind (arith, nat_tests)

pub returns-else-p-q : goal.returns-else-p-q
unfolding same_times
returns-else-p-q c = grind (arith, nat_tests)
