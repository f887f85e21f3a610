-- `table::rules::read::for_us` meets its contract: each answer by the tests that led to it and what its callees ensure.
-- Assumes nothing.
use Rattle.octets.proofs.Branch.{tests}
use Rattle.table.specs.Read.{for_us}
use Rattle.table.proofs.rules.read.for_us.Goals as goal

pub returns-then-to-own : goal.returns-then-to-own
unfolding for_us
returns-then-to-own c = search tests

pub returns-else-to-own : goal.returns-else-to-own
unfolding for_us
returns-else-to-own c = search (tests, ← c.group.ensures)
