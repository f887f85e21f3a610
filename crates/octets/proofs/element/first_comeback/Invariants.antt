-- `octets::element::first_comeback` meets its contract: the walk over what is left is the walk from octet 30 on.
-- Assumes nothing.
use Rattle.octets.specs.Element.{comeback_of, walk}
use lib.ListN.{length}
use mathlib.Core.Path.{◌≡◌}
use Rattle.octets.proofs.element.first_comeback.Given as goal

abbrev pub invariant-loop-id : goal.invariant-loop-id
invariant-loop-id l = walk l.rest 0 ≡ comeback_of l.s

abbrev pub decreases-loop-id : goal.decreases-loop-id
decreases-loop-id l = length l.rest
