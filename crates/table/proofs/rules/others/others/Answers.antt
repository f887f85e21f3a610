-- `table::rules::others::others` meets its contract: each answer by the tests that led to it and what its callees ensure.
-- Assumes nothing.
use Rattle.table.specs.Others.{others_of}
use Rattle.table.proofs.rules.others.others.Goals as goal

pub returns-then-answers : goal.returns-then-answers
unfolding others_of
returns-then-answers c = λ t ea ec. rw (← c.answers.ensures, c.if-answers.true) c.nobody.ensures

pub returns : goal.returns
unfolding others_of
returns c = λ t ea ec. rw (← c.answers.ensures, c.if-answers.false, ← ea, ← ec)
