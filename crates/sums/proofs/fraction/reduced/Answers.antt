-- `sums::fraction::reduced` meets its contract: the divisor is not 0 where bottom is not, and the rest is what `common` ensures.
-- Assumes nothing.
use native.Mathlib.Omega.{arith}
use mathlib.Core.Path.{sym}
use Rattle.sums.proofs.Divides.{gcd_pos}
use Rattle.sums.proofs.LowestTerms.{reduced_is, reduced_none}
use Rattle.sums.proofs.fraction.reduced.Goals as goal

pub returns-then-bottom-eq0 : goal.returns-then-bottom-eq0
returns-then-bottom-eq0 c = cc (reduced_none c.args.top)

pub nonzero_div-result : goal.nonzero_div-result
nonzero_div-result c = rw c.common-g.ensures (gcd_pos _ _ (omega arith))

pub nonzero_div-result-2 : goal.nonzero_div-result-2
nonzero_div-result-2 c = nonzero_div-result c

pub returns : goal.returns
returns c = rw c.common-g.ensures (sym (reduced_is _ _ (omega arith)))
