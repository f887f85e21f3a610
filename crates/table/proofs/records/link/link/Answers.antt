-- `table::records::link::link` meets its contract: each answer by the tests that led to it and what its callees ensure.
-- Assumes nothing.
use Rattle.table.proofs.records.link.link.Goals as goal

pub returns : goal.returns
returns c = rw (← c.linked-c.ensures, ← c.met.ensures) c.finish.ensures
