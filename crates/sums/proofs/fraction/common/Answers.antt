-- `sums::fraction::common` meets its contract. The loop's invariant: the greatest common divisor of x and y is that of a and b. The measure is y.
-- Assumes nothing.
use native.Mathlib.Nat.{mod-lt}
use native.Mathlib.Omega.{arith}
use mathlib.Core.Path.{◌∙◌}
use Rattle.sums.proofs.Divides.{gcd_step, gcd_zero}
use Rattle.sums.proofs.fraction.common.Goals as goal

pub loop-y-smaller : goal.loop-y-smaller
loop-y-smaller c = mod-lt _ (omega arith)

pub loop-y-preserved : goal.loop-y-preserved
loop-y-preserved c = gcd_step _ _ ∙ c.loop-y.invariant

pub returns : goal.returns
returns c = cc (gcd_zero c.loop-y.x)
