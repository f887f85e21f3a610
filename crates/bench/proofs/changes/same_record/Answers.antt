-- `bench::changes::same_record` meets its contract: by each part in turn.
-- Assumes nothing.
use Rattle.std.proofs.lemmas.Bool.Decides.{nat_tests}
use native.Mathlib.Omega.{arith}
use Rattle.bench.specs.Changes.{same_record}
use Rattle.bench.proofs.changes.same_record.Goals as goal

pub returns-then-same_query : goal.returns-then-same_query
unfolding same_record
returns-then-same_query c = grind (arith, nat_tests)

pub returns-else-same_query : goal.returns-else-same_query
unfolding same_record
returns-else-same_query c = grind (arith, nat_tests)
