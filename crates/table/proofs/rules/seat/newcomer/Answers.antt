-- `table::rules::seat::newcomer` meets its contract: each answer by the tests that led to it and what its callees ensure.
-- Assumes nothing.
use Rattle.table.specs.Seat.{newcomer_of}
use Rattle.table.proofs.rules.seat.newcomer.Goals as goal

pub returns-in-None : goal.returns-in-None
unfolding newcomer_of
returns-in-None c = λ t. rw (← c.starts.ensures, c.if-starts.true, c.in-None.is) (c.stranger.ensures t)

pub returns-in-Some : goal.returns-in-Some
unfolding newcomer_of
returns-in-Some c = λ t. rw (← c.starts.ensures, c.if-starts.true, c.in-Some.is) (c.seated.ensures t)

pub returns-else-starts : goal.returns-else-starts
unfolding newcomer_of
returns-else-starts c = λ t. rw (← c.starts.ensures, c.if-starts.false) (c.stranger-else-starts.ensures t)
