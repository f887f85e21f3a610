-- `bench::run::begin` meets its contract: field by field.
-- Assumes nothing.
use Rattle.bench.specs.Run.{begun_of}
use Rattle.bench.proofs.run.begin.Goals as goal

pub returns : goal.returns
unfolding begun_of
returns c = rw (c.behind.ensures, c.fit.ensures)
