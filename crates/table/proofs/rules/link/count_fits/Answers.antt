-- `table::rules::link::count_fits` meets its contract: each answer by the tests that led to it and what its callees ensure.
-- Assumes nothing.
use Rattle.octets.proofs.Branch.{tests}
use Rattle.table.specs.Link.{count_fits}
use Rattle.table.proofs.rules.link.count_fits.Goals as goal

pub returns-then-n-le4 : goal.returns-then-n-le4
unfolding count_fits
returns-then-n-le4 c = search (tests, ← c.count_in-n.ensures)

pub returns-else-n-le4 : goal.returns-else-n-le4
unfolding count_fits
returns-else-n-le4 c = search (tests, ← c.count_in-n.ensures)
