-- `table::rules::ask::may_ask` meets its contract: each answer by the tests that led to it and what its callees ensure.
-- Assumes nothing.
use Rattle.table.specs.Ask.{may_ask}
use borrow.Author.Tests.{eq-eqb, ne_eqb}
use Rattle.table.proofs.rules.ask.may_ask.Goals as goal

pub returns-then-not-code_allowed : goal.returns-then-not-code_allowed
unfolding may_ask
returns-then-not-code_allowed c = rw (← c.code_allowed.ensures, c.if-not-code_allowed.true)

pub returns-then-address-s : goal.returns-then-address-s
unfolding may_ask
returns-then-address-s c = rw (← c.code_allowed.ensures, c.if-not-code_allowed.false, ne_eqb _ _ c.if-address-s.true) c.valid.ensures

pub returns-else-address-s : goal.returns-else-address-s
unfolding may_ask
returns-else-address-s c = rw (← c.code_allowed.ensures, c.if-not-code_allowed.false, eq-eqb _ _ c.if-address-s.false)
