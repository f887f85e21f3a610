-- `table::rules::read::read_full` meets its contract: each answer by the tests that led to it and what its callees ensure.
-- Assumes nothing.
use Rattle.octets.proofs.Branch.{tests}
use Rattle.table.specs.Read.{read_full}
use Rattle.table.proofs.rules.read.read_full.Goals as goal

pub returns-then-not-for_us : goal.returns-then-not-for_us
unfolding read_full
returns-then-not-for_us c = search (tests, c.if-not-for_us.true, ← c.for_us.ensures, ← c.address_at-to.ensures)

pub returns-then-peer-own : goal.returns-then-peer-own
unfolding read_full
returns-then-peer-own c = search (tests, ← c.address_at-peer.ensures, c.if-not-for_us.false, ← c.for_us.ensures, ← c.address_at-to.ensures)

pub returns-then-valid : goal.returns-then-valid
unfolding read_full
returns-then-valid c = search (tests, ← c.read_from.ensures, c.if-valid.true, ← c.valid.ensures, ← c.address_at-peer.ensures, c.if-not-for_us.false, ← c.for_us.ensures, ← c.address_at-to.ensures)

pub returns-else-valid : goal.returns-else-valid
unfolding read_full
returns-else-valid c = search (tests, c.if-valid.false, ← c.valid.ensures, ← c.address_at-peer.ensures, c.if-not-for_us.false, ← c.for_us.ensures, ← c.address_at-to.ensures)
