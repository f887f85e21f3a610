-- `table::host::settings::retry_in` meets its contract: by the length.
-- Assumes nothing.
use Rattle.octets.proofs.Branch.{tests}
use Rattle.table.specs.Boundary.{retry_in}
use Rattle.table.proofs.host.settings.retry_in.Goals as goal

pub returns-then-s-lt18 : goal.returns-then-s-lt18
unfolding retry_in
returns-then-s-lt18 c = search tests

pub returns-else-s-lt18 : goal.returns-else-s-lt18
unfolding retry_in
returns-else-s-lt18 c = search (tests, ← c.u16_at.ensures)
