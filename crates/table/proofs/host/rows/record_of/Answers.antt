-- `table::host::rows::record_of` meets its contract: each answer by the tests that led to it and what its callees ensure.
-- Assumes nothing.
use Rattle.table.specs.Rows.{record_of}
use Rattle.table.proofs.host.rows.record_of.Goals as goal

pub returns : goal.returns
unfolding record_of
returns c = rw (c.exchange_of.ensures, c.query_of.ensures)
