-- `octets::row::links_at` meets its contract: four fields of six octets, one behind the other.
-- Assumes nothing.
use Rattle.octets.specs.Links.{links_at}
use Rattle.octets.proofs.row.links_at.Goals as goal

pub returns : goal.returns
unfolding links_at
returns c = rw (← c.six.ensures, ← c.six-2.ensures, ← c.six-3.ensures, ← c.six-4.ensures)
