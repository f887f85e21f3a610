-- `table::rules::lookup::Lookup::state_at` meets its contract: a fresh record is in State 1.
-- Assumes nothing.
use Rattle.peer.specs.Record.{fresh_of}
use Rattle.table.proofs.rules.lookup.Lookup.state_at.Goals as goal

pub returns-in-None : goal.returns-in-None
unfolding fresh_of
returns-in-None g c = λ a. rw c.in-None.is
