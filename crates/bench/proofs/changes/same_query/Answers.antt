-- `bench::changes::same_query` meets its contract: by the identifier, the number and what is left.
-- Assumes nothing.
use Rattle.std.proofs.lemmas.Bool.Decides.{nat_tests}
use native.Mathlib.Omega.{arith}
use Rattle.bench.specs.Changes.{same_query}
use Rattle.bench.proofs.changes.same_query.Goals as goal

pub returns-then-query_number : goal.returns-then-query_number
unfolding same_query
returns-then-query_number c = grind (arith, nat_tests)

pub returns-else-query_number : goal.returns-else-query_number
unfolding same_query
returns-else-query_number c = grind (arith, nat_tests)
