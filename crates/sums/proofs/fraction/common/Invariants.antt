-- `sums::fraction::common` meets its contract. The loop's invariant: the greatest common divisor of x and y is that of a and b. The measure is y.
-- Assumes nothing.
use mathlib.Core.Path.{◌≡◌}
use Rattle.sums.specs.Gcd.{gcd_of}
use Rattle.sums.proofs.fraction.common.Given as goal

abbrev pub invariant-loop-y : goal.invariant-loop-y
invariant-loop-y l = gcd_of l.x l.y ≡ gcd_of l.a l.b

abbrev pub decreases-loop-y : goal.decreases-loop-y
decreases-loop-y l = l.y
