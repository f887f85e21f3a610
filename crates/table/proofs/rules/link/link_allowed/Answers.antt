-- `table::rules::link::link_allowed` meets its contract: each answer by the tests that led to it and what its callees ensure.
-- Assumes nothing.
use Rattle.table.specs.Link.{link_allowed}
use borrow.Author.Tests.{eq-eqb, ne_eqb}
use Rattle.table.proofs.rules.link.link_allowed.Goals as goal

pub returns-then-not-valid : goal.returns-then-not-valid
unfolding link_allowed
returns-then-not-valid c = rw (← c.valid.ensures, c.if-not-valid.true)

pub returns-then-l-s : goal.returns-then-l-s
unfolding link_allowed
returns-then-l-s c = rw (← c.valid.ensures, c.if-not-valid.false, ne_eqb _ _ c.if-l-s.true, ← c.used_elsewhere.ensures)

pub returns-else-l-s : goal.returns-else-l-s
unfolding link_allowed
returns-else-l-s c = rw (← c.valid.ensures, c.if-not-valid.false, eq-eqb _ _ c.if-l-s.false)
