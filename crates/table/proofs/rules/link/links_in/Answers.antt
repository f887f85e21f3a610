-- `table::rules::link::links_in` meets its contract: each answer by the tests that led to it and what its callees ensure.
-- Assumes nothing.
use Rattle.octets.specs.Links.{links_at}
use Rattle.table.proofs.rules.link.links_in.Goals as goal

pub returns : goal.returns
unfolding links_at
returns c = rw (← c.address_at.ensures, ← c.address_at-2.ensures, ← c.address_at-3.ensures, ← c.address_at-4.ensures)
