-- `table::host::rows::met` meets its contract: each answer by the tests that led to it and what its callees ensure.
-- Assumes nothing.
use Rattle.table.proofs.Octets.RowLaws.{octets_of_records, table_long}
use Rattle.table.specs.Seat.{met_of}
use mathlib.Core.Path.{sym}
use Rattle.table.proofs.host.rows.met.Goals as goal

pub returns-then-table-ne1536 : goal.returns-then-table-ne1536
unfolding met_of
returns-then-table-ne1536 c = λ e same. absurd (c.if-table-ne1536.true (table_long c.args.table.now e))

pub returns-in-None : goal.returns-in-None
unfolding met_of
returns-in-None c = λ e same. rw c.in-None.is (sym (octets_of_records c.args.table.now (λ k. (c.type_inv.table k).fits) e))

pub returns-in-Some : goal.returns-in-Some
unfolding met_of
returns-in-Some c = λ e same. rw c.in-Some.is (c.stored.ensures e (λ z. rw c.in-Some.is at (same z)))
