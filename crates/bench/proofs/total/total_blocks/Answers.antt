-- `bench::total::total_blocks` meets its contract: its pieces go one behind the other.
-- Assumes nothing.
use borrow.Author.Rules.{rules}
use Rattle.bench.proofs.Came.{came_none, came_on}
use Rattle.bench.proofs.total.total_blocks.Goals as goal

pub loop-init : goal.loop-init
loop-init c = (search rules, came_none _ _ c.empty.ensures c.start.ensures)

pub loop-preserved : goal.loop-preserved
loop-preserved c = (search rules, came_on _ _ _ c.loop.invariant.1 c.add_on-a.ensures)
