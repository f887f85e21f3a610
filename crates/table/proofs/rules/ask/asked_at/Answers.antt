-- `table::rules::ask::asked_at` meets its contract: each answer by the tests that led to it and what its callees ensure.
-- Assumes nothing.
use Rattle.table.specs.Refusals.{unless}
use borrow.Author.Tests.{eq-eqb, ne_eqb}
use Rattle.table.proofs.rules.ask.asked_at.Goals as goal

pub returns-then-n-ne0 : goal.returns-then-n-ne0
unfolding unless
returns-then-n-ne0 c = λ t. rw (← c.refusal-n.ensures, ne_eqb _ _ c.if-n-ne0.true) (c.refused.ensures t)

pub returns : goal.returns
unfolding unless
returns c = λ t. rw (← c.refusal-n.ensures, eq-eqb _ _ c.if-n-ne0.false, ← c.aid.ensures, ← c.ask.ensures, ← c.spoken_at.ensures, ← c.towards-turn.ensures) (c.turn_in.ensures t)
