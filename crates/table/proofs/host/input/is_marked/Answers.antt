-- `table::host::input::is_marked` meets its contract: by its one test.
-- Assumes nothing.
use Rattle.table.specs.Input.{marked}
use Rattle.octets.proofs.Branch.{tests}
use Rattle.table.proofs.host.input.is_marked.Goals as goal

pub returns : goal.returns
unfolding marked
returns c = search (tests, ← c.u16_at.ensures)
