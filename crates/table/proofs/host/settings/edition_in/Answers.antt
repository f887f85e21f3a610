-- `table::host::settings::edition_in` meets its contract: by the length.
-- Assumes nothing.
use Rattle.octets.proofs.Branch.{tests}
use Rattle.table.specs.Boundary.{edition_in}
use Rattle.table.proofs.host.settings.edition_in.Goals as goal

pub returns-then-s-lt14 : goal.returns-then-s-lt14
unfolding edition_in
returns-then-s-lt14 c = search tests

pub returns-else-s-lt14 : goal.returns-else-s-lt14
unfolding edition_in
returns-else-s-lt14 c = search (tests, ← c.octet_at.ensures)
