-- `table::rules::seat::refused` meets its contract: each answer by the tests that led to it and what its callees ensure.
-- Assumes nothing.
use Rattle.table.specs.Answer.{refused_of}
use mathlib.Core.Path.{◌∙◌}
use Rattle.table.proofs.rules.seat.refused.Goals as goal

pub returns : goal.returns
unfolding refused_of
returns c = λ t. c.settled.ensures t ∙ rw c.refusal.ensures
