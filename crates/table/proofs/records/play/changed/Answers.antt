-- `table::records::play::changed` meets its contract: by what its callees ensure.
-- Assumes nothing.
use Rattle.table.proofs.records.play.changed.Goals as goal

pub returns : goal.returns
returns c = c.change.ensures tt c.others_for.ensures
