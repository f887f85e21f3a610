-- `octets::vacant::either` meets its contract: the bits of both numbers together are none only where neither has one.
-- Assumes nothing.
use Prim.Native.Nat.{ℕ}
use Rattle.octets.proofs.Branch.{by_bool}
use borrow.Author.Tests.{eqb-true, eqb-false, ne_eqb}
use lib.Bits.{and_le_r, bit_or, or_add_and}
use lib.Dec.{eqb}
use mathlib.Core.Bool.{◌&&◌}
use mathlib.Core.Path.{◌≡◌}
use native.Mathlib.Omega.{arith}
use Rattle.octets.proofs.vacant.either.Goals as goal

or-zero : (a b : ℕ) → eqb (bit_or a b) 0 ≡ (eqb a 0 && eqb b 0)
or-zero a b =
    by_bool (eqb a 0)
    (λ e. rw (e, eqb-true a 0 e))
    (λ e. rw (e, ne_eqb (bit_or a b) 0 (λ z. eqb-false a 0 e (omega (arith, z, or_add_and a b, and_le_r a b)))))

pub returns : goal.returns
returns c = or-zero c.args.a c.args.b
