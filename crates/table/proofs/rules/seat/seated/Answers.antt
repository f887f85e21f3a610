-- `table::rules::seat::seated` meets its contract: each answer by the tests that led to it and what its callees ensure.
-- Assumes nothing.
use Rattle.table.specs.Seat.{met_of, seated_of}
use Rattle.table.proofs.rules.seat.seated.Goals as goal

pub returns : goal.returns
unfolding met_of seated_of
returns c = λ t. rw c.turn.ensures
