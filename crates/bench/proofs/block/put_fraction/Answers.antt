-- `bench::block::put_fraction` meets its contract: a number, '/', a number.
-- Assumes nothing.
use native.Mathlib.Omega.{arith}
use lib.ListN.{length-append}
use Rattle.octets.proofs.Stores.{then}
use Rattle.bench.specs.Block.{fraction_text}
use Rattle.bench.proofs.Digits.{tens_length}
use Rattle.bench.proofs.block.put_fraction.Goals as goal

pub put_octet-requires : goal.put_octet-requires
put_octet-requires c = omega (arith, c.put_tens-p1.ensures.0, tens_length 20 c.args.f.top)

pub overflow_add-p1 : goal.overflow_add-p1
overflow_add-p1 c = omega (arith, c.put_tens-p1.ensures.0, tens_length 20 c.args.f.top)

pub put_tens-requires : goal.put_tens-requires
put_tens-requires c = omega (arith, c.put_tens-p1.ensures.0, tens_length 20 c.args.f.top)

pub returns : goal.returns
unfolding fraction_text
returns c =
    let p1 = c.put_tens-p1 in
    let p2 = c.put_octet in
    let p3 = c.put_tens in
    let e1 = p1.ensures.0 in
    let e3 = p3.ensures.0 in
    (simp length-append (omega arith), then (then p1.ensures.1 p2.ensures (omega arith)) p3.ensures.1 (simp length-append (omega arith)))
