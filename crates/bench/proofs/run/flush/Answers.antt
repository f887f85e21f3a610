-- `bench::run::flush` meets its contract: the lines end at 0, and the run goes on or is done.
-- Assumes nothing.
use Rattle.bench.specs.Run.{done_of, flushed_of}
use Rattle.bench.specs.Turn.{unwritten, written}
use mathlib.Core.Path.{refl}
use native.Mathlib.Omega.{arith}
use Rattle.bench.proofs.run.flush.Goals as goal

pub returns-then-is_ok : goal.returns-then-is_ok
unfolding flushed_of
returns-then-is_ok g c = written (omega arith) refl

pub returns : goal.returns
unfolding flushed_of done_of
returns g c = unwritten c.finish.ensures
