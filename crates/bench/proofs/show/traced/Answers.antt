-- `bench::show::traced` meets its contract: three lists of lines, one behind the other.
-- Assumes nothing.
use Rattle.bench.proofs.Outputs.{all_three}
use Rattle.bench.specs.Trace.{trace_lines}
use Rattle.bench.proofs.show.traced.Goals as goal

pub returns : goal.returns
unfolding trace_lines
returns c = all_three _ _ _ _ _ _ _ c.trace_octets-at.ensures c.trace_current-next.ensures c.trace_table.ensures
