-- `octets::class::class` meets its contract: each answer by the tests that led to it and what its callees ensure.
-- Assumes nothing.
use Rattle.octets.proofs.Branch.{tests}
use Rattle.octets.specs.Class.{class_of, listed_class}
use borrow.Author.Tests.{eq-eqb}
use Rattle.octets.proofs.class.class.Goals as goal

pub returns-then-first-ne0 : goal.returns-then-first-ne0
unfolding class_of
returns-then-first-ne0 c = search (tests, ← c.octet_at-first.ensures)

pub public_action-requires : goal.public_action-requires
public_action-requires c = c.octet_at-first.ensures

pub returns-then-public_action : goal.returns-then-public_action
unfolding class_of
returns-then-public_action c = search (tests, ← c.octet_at-first.ensures, c.if-public_action.true, ← c.public_action.ensures)

pub returns : goal.returns
unfolding class_of listed_class
returns c =
    rw (← c.octet_at-first.ensures, eq-eqb _ _ c.if-first-ne0.false, ← c.public_action.ensures, c.if-public_action.false)
    c.listed.ensures
