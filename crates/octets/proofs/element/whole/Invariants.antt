-- `octets::element::whole` meets its contract: whether the walk over what is left ends with the frame is whether that from octet 30 on does.
-- Assumes nothing.
use Rattle.octets.specs.Element.{ends}
use lib.ListN.{drop, length}
use mathlib.Core.Path.{◌≡◌}
use Rattle.octets.proofs.element.whole.Given as goal

abbrev pub invariant-loop-behind : goal.invariant-loop-behind
invariant-loop-behind l = ends l.rest 0 ≡ ends (drop 30 l.s) 0

abbrev pub decreases-loop-behind : goal.decreases-loop-behind
decreases-loop-behind l = length l.rest
