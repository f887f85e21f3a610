-- `bench::checker::said` meets its contract: by what `ending` promises of the two parts.
-- Assumes nothing.
use Rattle.bench.proofs.checker.said.Goals as goal

pub returns : goal.returns
returns c = rw (← c.part.ensures, ← c.part-2.ensures) c.ending.ensures
