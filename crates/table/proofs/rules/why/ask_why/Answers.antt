-- `table::rules::why::ask_why` meets its contract: a value beside 7 and 8 alone.
-- Assumes nothing.
use Rattle.octets.proofs.Branch.{tests}
use Rattle.table.specs.Why.{ask_why}
use Rattle.table.proofs.rules.why.ask_why.Goals as goal

pub returns-then-refusal-eq0 : goal.returns-then-refusal-eq0
unfolding ask_why
returns-then-refusal-eq0 c = search tests

pub returns-then-refusal-eq7 : goal.returns-then-refusal-eq7
unfolding ask_why
returns-then-refusal-eq7 c = search tests

pub returns-then-refusal-eq8 : goal.returns-then-refusal-eq8
unfolding ask_why
returns-then-refusal-eq8 c = search tests

pub returns : goal.returns
unfolding ask_why
returns c = search tests
