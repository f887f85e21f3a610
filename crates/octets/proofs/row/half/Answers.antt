-- `octets::row::half` meets its contract: two octets, the lower first.
-- Assumes nothing.
use Prim.Native.Nat.{◌+◌}
use Rattle.octets.proofs.Le.{le_one, le_split}
use mathlib.Core.Path.{sym}
use native.Mathlib.Omega.{arith}
use Rattle.octets.proofs.row.half.Goals as goal

pub overflow_mul-result : goal.overflow_mul-result
overflow_mul-result c = omega (arith, c.type_inv.s c.args.at, c.type_inv.s (c.args.at + 1))

pub overflow_add-result-2 : goal.overflow_add-result-2
overflow_add-result-2 c = omega (arith, c.type_inv.s c.args.at, c.type_inv.s (c.args.at + 1))

pub returns : goal.returns
returns c = rw (le_one c.args.s.now c.args.at (omega arith), le_one c.args.s.now (c.args.at + 1) (omega arith)) (sym (le_split 1 1 c.args.at c.args.s.now))
