-- `bench::text::put_hex` meets its contract: what is put and what is still to be put are all digits.
-- Assumes nothing.
use Rattle.bench.proofs.Puts.{hex_end, hex_step}
use Prim.Native.Nat.{◌<◌, ◌≤◌}
use lib.ListN.{length}
use lib.Seq.{length-sets}
use mathlib.Core.Path.{◌∙◌, ap, refl}
use native.Mathlib.Nat.{add-zero}
use native.Mathlib.Omega.{arith}
use Rattle.bench.proofs.text.put_hex.Goals as goal

pub loop-i-init : goal.loop-i-init
loop-i-init c = (refl, rw add-zero)

pub loop-i-preserved : goal.loop-i-preserved
loop-i-preserved c =
    let h : c.loop-i.i < length c.args.octets.now = omega arith in
    (ap length c.put_hex_octet.ensures.is ∙ simp length-sets c.loop-i.invariant.0, hex_step _ _ _ _ _ _ h c.put_hex_octet.ensures.is c.loop-i.invariant.1)

pub returns : goal.returns
returns c =
    let h : length c.args.octets.now ≤ c.loop-i.i = omega arith in
    (refl, record { is = hex_end _ _ _ _ _ h c.loop-i.invariant.1 })
