-- `octets::field::address_at` meets its contract: a field of six octets is four and then two.
-- Assumes nothing.
use Prim.Native.Nat.{◌+◌}
use Rattle.octets.proofs.Le.{le_none, le_split}
use native.Mathlib.Omega.{arith}
use Rattle.octets.proofs.field.address_at.Goals as goal

pub returns-then-s-at : goal.returns-then-s-at
returns-then-s-at c = le_none 6 c.args.s.now c.args.at c.if-s-at.true

pub returns-then-s-at-le4 : goal.returns-then-s-at-le4
returns-then-s-at-le4 c =
    let a = c.args in
    omega (arith, le_split 4 2 a.at a.s.now, le_none 2 a.s.now (a.at + 4) (omega arith), c.u32_at.ensures)

pub returns : goal.returns
returns c =
    let a = c.args in
    omega (arith, le_split 4 2 a.at a.s.now, c.u32_at-2.ensures, c.u16_at.ensures)
