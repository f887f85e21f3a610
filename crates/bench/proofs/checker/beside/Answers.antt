-- `bench::checker::beside` meets its contract: by what `compare` promises of the two parts.
-- Assumes nothing.
use Rattle.bench.specs.Check.{beside_on}
use Rattle.bench.proofs.checker.beside.Goals as goal

pub returns : goal.returns
unfolding beside_on
returns c = rw (c.behind.ensures, c.behind-2.ensures, c.compare-p.ensures, c.part.ensures, c.part-2.ensures)
