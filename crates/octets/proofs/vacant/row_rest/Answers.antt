-- `octets::vacant::row_rest` meets its contract: twice 24 octets.
-- Assumes nothing.
use Rattle.octets.proofs.vacant.row_rest.Goals as goal

pub returns : goal.returns
returns c = rw (← c.rest.ensures, ← c.rest-2.ensures) c.either.ensures
