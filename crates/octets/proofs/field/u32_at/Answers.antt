-- `octets::field::u32_at` meets its contract: a field of four octets is two and then two.
-- Assumes nothing.
use Prim.Native.Nat.{◌+◌}
use Rattle.octets.proofs.Le.{le_none, le_split}
use native.Mathlib.Omega.{arith}
use Rattle.octets.proofs.field.u32_at.Goals as goal

pub returns-then-s-at : goal.returns-then-s-at
returns-then-s-at c = le_none 4 c.args.s.now c.args.at c.if-s-at.true

pub returns-then-s-at-le2 : goal.returns-then-s-at-le2
returns-then-s-at-le2 c =
    let a = c.args in
    omega (arith, le_split 2 2 a.at a.s.now, le_none 2 a.s.now (a.at + 2) (omega arith), c.u16_at.ensures)

pub returns : goal.returns
returns c =
    let a = c.args in
    omega (arith, le_split 2 2 a.at a.s.now, c.u16_at-2.ensures, c.u16_at-3.ensures)
