-- `octets::vacant::four_rest` meets its contract: four rows, the last first.
-- Assumes nothing.
use Rattle.octets.proofs.vacant.four_rest.Goals as goal

pub returns : goal.returns
returns c = rw (← c.row_rest.ensures, ← c.row_rest-2.ensures, ← c.either-first.ensures, ← c.row_rest-3.ensures, ← c.row_rest-4.ensures, ← c.either.ensures) c.either-2.ensures
