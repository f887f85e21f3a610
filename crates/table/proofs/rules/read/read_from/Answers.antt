-- `table::rules::read::read_from` meets its contract: each answer by the tests that led to it and what its callees ensure.
-- Assumes nothing.
use Rattle.octets.proofs.Branch.{tests}
use Rattle.table.specs.Read.{read_from}
use Rattle.table.proofs.rules.read.read_from.Goals as goal

pub returns-then-broken : goal.returns-then-broken
unfolding read_from
returns-then-broken c = search (tests, c.if-broken.true, ← c.broken.ensures)

pub returns : goal.returns
unfolding read_from
returns c =
    search (tests, ← c.read.ensures, ← c.sorted.ensures, ← c.group.ensures, c.if-broken.false, ← c.broken.ensures)
