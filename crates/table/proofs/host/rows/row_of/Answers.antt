-- `table::host::rows::row_of` meets its contract: each answer by the tests that led to it and what its callees ensure.
-- Assumes nothing.
use Rattle.table.specs.Rows.{row_of}
use native.Mathlib.Omega.{arith}
use Rattle.table.proofs.host.rows.row_of.Goals as goal

pub returns : goal.returns
unfolding row_of
returns c = rw (c.exchange_number.ensures, c.query_left.ensures, c.query_number.ensures)
