-- `bench::changes::changed` meets its contract: four lists of lines, one behind the other.
-- Assumes nothing.
use Rattle.bench.proofs.Outputs.{all_four}
use Rattle.bench.specs.Changes.{changes_lines}
use Rattle.bench.proofs.changes.changed.Goals as goal

pub returns : goal.returns
unfolding changes_lines
returns c = all_four _ _ _ _ _ _ _ _ _ c.trace_octets-at.ensures c.trace_current-next.ensures c.show_because-behind.ensures c.show_changed.ensures
