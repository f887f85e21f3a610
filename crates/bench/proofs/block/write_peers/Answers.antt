-- `bench::block::write_peers` meets its contract: three lines, one behind the other.
-- Assumes nothing.
use Rattle.bench.proofs.Blocks.{three_lines}
use Rattle.bench.proofs.block.write_peers.Goals as goal

pub returns : goal.returns
returns c = three_lines _ _ _ _ _ _ _ c.write_row-p1.ensures c.write_row-p2.ensures c.write_row.ensures
