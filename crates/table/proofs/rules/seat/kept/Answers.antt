-- `table::rules::seat::kept` meets its contract: each answer by the tests that led to it and what its callees ensure.
-- Assumes nothing.
use Rattle.table.specs.Seat.{met_of}
use mathlib.Core.Path.{refl}
use Rattle.table.proofs.rules.seat.kept.Goals as goal

pub returns : goal.returns
unfolding met_of
returns c = λ t. refl
