-- `table::rules::seat::stranger` meets its contract: each answer by the tests that led to it and what its callees ensure.
-- Assumes nothing.
use Rattle.table.specs.Seat.{stranger_of}
use mathlib.Core.Path.{◌∙◌}
use Rattle.table.proofs.rules.seat.stranger.Goals as goal

pub returns : goal.returns
unfolding stranger_of
returns c = λ t. c.kept.ensures t ∙ rw c.turn.ensures
