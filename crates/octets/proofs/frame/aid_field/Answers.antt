-- `octets::frame::aid_field` meets its contract: by its one test.
-- Assumes nothing.
use Rattle.octets.proofs.Branch.{tests}
use Rattle.octets.specs.Frame.{aid_field}
use Rattle.octets.proofs.frame.aid_field.Goals as goal

pub returns-then-aid-eq0 : goal.returns-then-aid-eq0
unfolding aid_field
returns-then-aid-eq0 c = search tests

pub returns-else-aid-eq0 : goal.returns-else-aid-eq0
unfolding aid_field
returns-else-aid-eq0 c = search tests
