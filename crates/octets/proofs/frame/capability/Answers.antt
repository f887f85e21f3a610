-- `octets::frame::capability` meets its contract: by its one test.
-- Assumes nothing.
use Rattle.octets.proofs.Branch.{tests}
use Rattle.octets.specs.Frame.{capability_of}
use Rattle.octets.proofs.frame.capability.Goals as goal

pub returns-then-rsna-eq1 : goal.returns-then-rsna-eq1
unfolding capability_of
returns-then-rsna-eq1 c = search tests

pub returns-else-rsna-eq1 : goal.returns-else-rsna-eq1
unfolding capability_of
returns-else-rsna-eq1 c = search tests
