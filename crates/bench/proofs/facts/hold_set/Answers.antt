-- `bench::facts::hold_set` meets its contract: by the notice, and by the comeback.
-- Assumes nothing.
use Rattle.bench.specs.Facts.{hold_set}
use mathlib.Core.Path.{◌∙◌}
use Rattle.octets.proofs.Branch.{tests}
use Rattle.bench.proofs.facts.hold_set.Goals as goal

pub returns-then-is_parted : goal.returns-then-is_parted
unfolding hold_set
returns-then-is_parted c = search (tests, ← c.is_parted.ensures, c.if-is_parted.true)

pub returns : goal.returns
unfolding hold_set
returns c = rw (← c.is_parted.ensures, c.if-is_parted.false) (c.comeback_hold.ensures ∙ rw c.first_comeback.ensures)
