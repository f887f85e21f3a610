-- `bench::run::finish` meets its contract: field by field.
-- Assumes nothing.
use Rattle.bench.specs.Run.{done_of}
use mathlib.Core.Path.{refl}
use Rattle.bench.proofs.run.finish.Goals as goal

pub returns : goal.returns
unfolding done_of
returns c = refl
