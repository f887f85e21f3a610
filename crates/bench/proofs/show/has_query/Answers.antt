-- `bench::show::has_query` meets its contract: by the identifier, or by the query's number.
-- Assumes nothing.
use Rattle.std.proofs.lemmas.Bool.Decides.{nat_tests}
use native.Mathlib.Omega.{arith}
use Rattle.bench.specs.Trace.{has_query}
use Rattle.bench.proofs.show.has_query.Goals as goal

pub returns-then-p-ne0 : goal.returns-then-p-ne0
unfolding has_query
returns-then-p-ne0 c = grind (arith, nat_tests)

pub returns-else-p-ne0 : goal.returns-else-p-ne0
unfolding has_query
returns-else-p-ne0 c = grind (arith, nat_tests)
