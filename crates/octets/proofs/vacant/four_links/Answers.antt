-- `octets::vacant::four_links` meets its contract: the links of four rows, the last first.
-- Assumes nothing.
use Rattle.octets.proofs.vacant.four_links.Goals as goal

pub returns : goal.returns
returns c = rw (← c.rest.ensures, ← c.rest-2.ensures, ← c.either-first.ensures, ← c.rest-3.ensures, ← c.rest-4.ensures, ← c.either.ensures) c.either-2.ensures
