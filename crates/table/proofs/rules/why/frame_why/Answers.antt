-- `table::rules::why::frame_why` meets its contract: the length beside 3 alone.
-- Assumes nothing.
use Rattle.octets.proofs.Branch.{tests}
use Rattle.table.specs.Why.{frame_why}
use Rattle.table.proofs.rules.why.frame_why.Goals as goal

pub returns-then-refusal-eq3 : goal.returns-then-refusal-eq3
unfolding frame_why
returns-then-refusal-eq3 c = search tests

pub returns : goal.returns
unfolding frame_why
returns c = search tests
