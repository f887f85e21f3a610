-- `octets::address::group` meets its contract: by its one test.
-- Assumes nothing.
use Rattle.octets.proofs.Branch.{tests}
use Rattle.octets.specs.Address.{group_of}
use Rattle.octets.proofs.address.group.Goals as goal

pub returns : goal.returns
unfolding group_of
returns c = search tests
