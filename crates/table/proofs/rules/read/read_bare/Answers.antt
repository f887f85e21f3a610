-- `table::rules::read::read_bare` meets its contract: each answer by the tests that led to it and what its callees ensure.
-- Assumes nothing.
use Rattle.octets.proofs.Branch.{tests}
use Rattle.table.specs.Read.{read_bare}
use Rattle.table.proofs.rules.read.read_bare.Goals as goal

pub returns-then-for_us : goal.returns-then-for_us
unfolding read_bare
returns-then-for_us c = search (tests, c.if-for_us.true, ← c.for_us.ensures, ← c.address_at.ensures)

pub returns-else-for_us : goal.returns-else-for_us
unfolding read_bare
returns-else-for_us c = search (tests, c.if-for_us.false, ← c.for_us.ensures, ← c.address_at.ensures)
