-- `table::host::settings::settings_length` meets its contract: each answer by the tests that led to it.
-- Assumes nothing.
use Rattle.octets.proofs.Branch.{tests}
use Rattle.table.specs.Boundary.{settings_length}
use Rattle.table.proofs.host.settings.settings_length.Goals as goal

pub returns-then-n-eq12 : goal.returns-then-n-eq12
unfolding settings_length
returns-then-n-eq12 c = search tests

pub returns-then-n-eq14 : goal.returns-then-n-eq14
unfolding settings_length
returns-then-n-eq14 c = search tests

pub returns-then-n-eq18 : goal.returns-then-n-eq18
unfolding settings_length
returns-then-n-eq18 c = search tests

pub returns : goal.returns
unfolding settings_length
returns c = search tests
