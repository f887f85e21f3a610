-- `table::records::seat::stored` meets its contract: each answer by the tests that led to it and what its callees ensure.
-- Assumes nothing.
use Rattle.table.proofs.records.seat.stored.Goals as goal

pub returns-then-sole : goal.returns-then-sole
returns-then-sole c = rw (c.if-sole.true, ← c.part_all.ensures) c.store.ensures

pub returns-else-sole : goal.returns-else-sole
returns-else-sole c = rw c.if-sole.false c.store-else-sole.ensures
