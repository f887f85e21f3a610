-- `bench::checker::with_run` meets its contract: the definition's values.
-- Assumes nothing.
use mathlib.Core.Path.{refl}
use Rattle.bench.specs.Check.{with_run}
use Rattle.bench.proofs.checker.with_run.Goals as goal

pub returns : goal.returns
unfolding with_run
returns c = refl
