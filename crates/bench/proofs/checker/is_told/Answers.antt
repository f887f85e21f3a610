-- `bench::checker::is_told` meets its contract: by what `is_settled` promises.
-- Assumes nothing.
use Rattle.bench.specs.Check.{is_settled}
use Rattle.bench.proofs.checker.is_told.Goals as goal

pub returns : goal.returns
unfolding is_settled
returns c = c.is_settled.ensures
