-- `octets::vacant::rest` meets its contract: three numbers of eight octets.
-- Assumes nothing.
use Rattle.octets.specs.Row.{empty_at}
use Rattle.octets.proofs.vacant.rest.Goals as goal

pub returns : goal.returns
unfolding empty_at
returns c = rw (← c.long.ensures, ← c.long-2.ensures, ← c.long-3.ensures, ← c.either.ensures) c.either-2.ensures
