-- `table::rules::why::why_passed` meets its contract: a step of 0, or another.
-- Assumes nothing.
use Rattle.octets.proofs.Branch.{tests}
use Rattle.table.specs.Why.{why_passed}
use Rattle.table.proofs.rules.why.why_passed.Goals as goal

pub returns-then-step-eq0 : goal.returns-then-step-eq0
unfolding why_passed
returns-then-step-eq0 c = search tests

pub returns : goal.returns
unfolding why_passed
returns c = search tests
