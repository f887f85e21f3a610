-- `bench::run::Run::new` meets its contract: field by field.
-- Assumes nothing.
use Rattle.bench.specs.Run.{start_of}
use mathlib.Core.Path.{refl}
use Rattle.bench.proofs.run.Run.new.Goals as goal

pub returns : goal.returns
unfolding start_of
returns c = refl
