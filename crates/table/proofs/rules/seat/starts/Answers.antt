-- `table::rules::seat::starts` meets its contract: each answer by the tests that led to it and what its callees ensure.
-- Assumes nothing.
use Rattle.table.specs.Seat.{starts_of}
use borrow.Author.Tests.{eq-eqb, ne_eqb}
use Rattle.table.proofs.rules.seat.starts.Goals as goal

pub returns-then-under_way-ne0 : goal.returns-then-under_way-ne0
unfolding starts_of
returns-then-under_way-ne0 c = rw (← c.under_way.ensures, ne_eqb _ _ c.if-under_way-ne0.true)

pub returns-else-under_way-ne0 : goal.returns-else-under_way-ne0
unfolding starts_of
returns-else-under_way-ne0 c = rw (← c.under_way.ensures, eq-eqb _ _ c.if-under_way-ne0.false, ← c.is_none.ensures)
