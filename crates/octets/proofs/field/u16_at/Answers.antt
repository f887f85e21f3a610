-- `octets::field::u16_at` meets its contract: a field of two octets is one and then one.
-- Assumes nothing.
use Rattle.octets.proofs.Le.{le_none, le_split}
use native.Mathlib.Omega.{arith}
use Rattle.octets.proofs.field.u16_at.Goals as goal

pub returns-then-s-at : goal.returns-then-s-at
returns-then-s-at c = le_none 2 c.args.s.now c.args.at c.if-s-at.true

pub returns : goal.returns
returns c =
    let a = c.args in
    omega (arith, le_split 1 1 a.at a.s.now, c.octet_at.ensures, c.octet_at-2.ensures)
