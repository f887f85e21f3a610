-- `table::host::input::event_at` meets its contract: each answer by the tests that led to it and what its callees ensure.
-- Assumes nothing.
use Rattle.table.specs.Input.{event_at}
use Rattle.octets.proofs.Branch.{tests}
use Rattle.table.proofs.host.input.event_at.Goals as goal

pub returns-in-1 : goal.returns-in-1
unfolding event_at
returns-in-1 c = search (tests, ← c.u16_at.ensures, ← c.address_at.ensures, ← c.octet_at.ensures, c.in-1.is)

pub returns-in-2 : goal.returns-in-2
unfolding event_at
returns-in-2 c = search (tests, c.in-2.is)

pub returns-in-3 : goal.returns-in-3
unfolding event_at
returns-in-3 c = search (tests, ← c.u16_at-in-3.ensures, c.in-3.is)

pub returns-in_default : goal.returns-in_default
unfolding event_at
returns-in_default c = search tests
