-- `bench::facts::hold_of` meets its contract: by its test.
-- Assumes nothing.
use Rattle.bench.specs.Facts.{hold_of}
use Rattle.octets.proofs.Branch.{tests}
use Rattle.bench.proofs.facts.hold_of.Goals as goal

pub returns-then-set : goal.returns-then-set
unfolding hold_of
returns-then-set c = search (tests, ← c.hold_set.ensures, c.if-set.true)

pub returns-else-set : goal.returns-else-set
unfolding hold_of
returns-else-set c = search (tests, c.if-set.false)
