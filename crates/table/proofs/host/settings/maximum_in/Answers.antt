-- `table::host::settings::maximum_in` meets its contract: by the length.
-- Assumes nothing.
use Rattle.octets.proofs.Branch.{tests}
use Rattle.table.specs.Boundary.{maximum_in}
use Rattle.table.proofs.host.settings.maximum_in.Goals as goal

pub returns-then-s-lt18 : goal.returns-then-s-lt18
unfolding maximum_in
returns-then-s-lt18 c = search tests

pub returns-else-s-lt18 : goal.returns-else-s-lt18
unfolding maximum_in
returns-else-s-lt18 c = search (tests, ← c.u16_at.ensures)
