-- `bench::check::check_round` meets its contract: the three calls, one behind the other.
-- Assumes nothing.
use Rattle.bench.specs.Check.{off, on}
use Rattle.bench.proofs.check.check_round.Goals as goal

pub returns-then-a : goal.returns-then-a
returns-then-a c = off c.if-a.true

pub returns-then-b : goal.returns-then-b
returns-then-b c = off c.if-b.true

pub returns : goal.returns
returns c = on c.ours_on-a.result c.log_on-b.result c.ours_on-a.ensures c.if-a.false c.log_on-b.ensures c.if-b.false c.beside.ensures
