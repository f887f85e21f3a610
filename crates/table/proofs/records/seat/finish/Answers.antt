-- `table::records::seat::finish` meets its contract: each answer by the tests that led to it and what its callees ensure.
-- Assumes nothing.
use Rattle.table.specs.Answer.{stepped_of}
use Rattle.table.proofs.records.seat.finish.Goals as goal

pub returns : goal.returns
unfolding stepped_of
returns c = (rw c.answered.ensures.0, c.answered.ensures.1)
