-- `table::host::input::is_miscounted` meets its contract: by the kind, then by the length and the count.
-- Assumes nothing.
use Rattle.table.specs.Input.{miscounted}
use Rattle.octets.proofs.Branch.{tests}
use Rattle.table.proofs.host.input.is_miscounted.Goals as goal

pub returns-then-octet_at-eq4 : goal.returns-then-octet_at-eq4
unfolding miscounted
returns-then-octet_at-eq4 c = search (tests, ← c.octet_at.ensures, ← c.u16_at.ensures, ← c.octet_at-then-octet_at-eq4.ensures)

pub returns-else-octet_at-eq4 : goal.returns-else-octet_at-eq4
unfolding miscounted
returns-else-octet_at-eq4 c = search (tests, ← c.octet_at.ensures)
