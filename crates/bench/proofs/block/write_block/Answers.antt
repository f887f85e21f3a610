-- `bench::block::write_block` meets its contract: its three parts, one behind the other.
-- Assumes nothing.
use Rattle.bench.specs.Block.{block_lines}
use Rattle.bench.proofs.Outputs.{all_three}
use Rattle.bench.proofs.block.write_block.Goals as goal

pub returns : goal.returns
unfolding block_lines
returns c = all_three _ _ _ _ _ _ _ c.write_events-p1.ensures c.write_peers-p2.ensures c.write_holds.ensures
