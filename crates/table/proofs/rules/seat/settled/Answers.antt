-- `table::rules::seat::settled` meets its contract: each answer by the tests that led to it and what its callees ensure.
-- Assumes nothing.
use Rattle.table.specs.Answer.{settled_of}
use Rattle.table.proofs.rules.seat.settled.Goals as goal

pub returns : goal.returns
unfolding settled_of
returns c = λ t. c.kept.ensures t
