-- `table::host::rows::resting` meets its contract: where all tests are passed, no time falls, no query runs, and State 1, which may be freed,
-- is not there; else the promise says nothing.
-- Assumes nothing.
use Rattle.table.proofs.Octets.Resting.{rests}
use Rattle.table.specs.Rows.{query_numbered, row_numbered}
use borrow.Author.Tests.{ne_eqb}
use Rattle.table.proofs.host.rows.resting.Goals as goal

pub returns : goal.returns
unfolding row_numbered query_numbered
returns c = λ t. (rw (c.if-r-ne0-3.false, c.if-r-ne0-4.false, t), rests c.args.r c.if-r-ne0.false c.if-r-ne0-2.false (ne_eqb _ _ c.if-r-eq-STATE_1.false) c.if-r-ne0-3.false)
