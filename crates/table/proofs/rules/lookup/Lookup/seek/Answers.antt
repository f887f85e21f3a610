-- `table::rules::lookup::Lookup::seek` meets its contract: each answer by the tests that led to it and what its callees ensure.
-- Assumes nothing.
use Rattle.table.specs.Places.{seek_of}
use Rattle.table.proofs.rules.lookup.Lookup.seek.Goals as goal

pub returns-in-Some : goal.returns-in-Some
unfolding seek_of
returns-in-Some g c = λ e. rw (← c.find_link.ensures e, c.in-Some.is)

pub returns-in-None : goal.returns-in-None
unfolding seek_of
returns-in-None g c = λ e. rw (← c.find_link.ensures e, c.in-None.is) c.find.ensures
