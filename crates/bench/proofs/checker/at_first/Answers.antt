-- `bench::checker::at_first` meets its contract: the definition's values.
-- Assumes nothing.
use Rattle.bench.specs.Check.{check_at_first}
use Rattle.bench.proofs.checker.at_first.Goals as goal

pub returns : goal.returns
unfolding check_at_first
returns c = rw (c.new.ensures, c.start.ensures)
