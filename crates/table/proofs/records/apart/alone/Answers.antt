-- `table::records::apart::alone` meets its contract: of 0, and else by what both lists hold.
-- Assumes nothing.
use Rattle.std.proofs.Common.{eq-eqb, ne_eqb}
use Rattle.table.proofs.Passes.Listed.{absent_listed}
use Rattle.table.specs.Fit.{alone_in}
use Rattle.table.proofs.records.apart.alone.Goals as goal

pub returns-then-l-eq0 : goal.returns-then-l-eq0
unfolding alone_in
returns-then-l-eq0 c = rw (eq-eqb _ _ c.if-l-eq0.true)

pub returns-then-not-contains : goal.returns-then-not-contains
unfolding alone_in
returns-then-not-contains c = rw (ne_eqb _ _ c.if-l-eq0.false, absent_listed, absent_listed, ← c.contains.ensures.value, ← c.contains-then-not-contains.ensures.value, c.if-not-contains.true)

pub returns-else-not-contains : goal.returns-else-not-contains
unfolding alone_in
returns-else-not-contains c = rw (ne_eqb _ _ c.if-l-eq0.false, absent_listed, ← c.contains.ensures.value, c.if-not-contains.false)
