-- `bench::block::write_holds` meets its contract: three lines, and the mean behind them.
-- Assumes nothing.
use Rattle.bench.proofs.Blocks.{four_lines}
use Rattle.bench.proofs.block.write_holds.Goals as goal

pub returns : goal.returns
returns c = four_lines _ _ _ _ _ _ _ _ _ c.write_row-p1.ensures c.write_row-p2.ensures c.write_row-p3.ensures (rw (← c.mean_hold.ensures) c.write_mean.ensures)
