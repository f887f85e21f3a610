-- `bench::line::put_front` meets its contract: four fields, one behind the other.
-- Assumes nothing.
use Rattle.bench.proofs.Digits.{field_length}
use Rattle.bench.specs.Line.{front_of}
use Rattle.octets.proofs.Stores.{then}
use lib.ListN.{length-append}
use native.Mathlib.Omega.{arith}
use Rattle.bench.proofs.line.put_front.Goals as goal

pub put_field-p2-requires : goal.put_field-p2-requires
unfolding front_of
put_field-p2-requires c = omega (arith, c.put_field-p1.ensures.0, field_length 20 c.args.number)

pub put_letter-p3-requires : goal.put_letter-p3-requires
unfolding front_of
put_letter-p3-requires c = omega (arith, c.put_field-p1.ensures.0, field_length 20 c.args.number, c.put_field-p2.ensures.0, field_length 3 c.args.a.refusal)

pub put_field-requires : goal.put_field-requires
unfolding front_of
put_field-requires c = omega (arith, c.put_field-p1.ensures.0, field_length 20 c.args.number, c.put_field-p2.ensures.0, field_length 3 c.args.a.refusal, c.put_letter-p3.ensures.0)

pub returns : goal.returns
unfolding front_of
returns c =
    let e1 = c.put_field-p1.ensures.0 in
    let e2 = c.put_field-p2.ensures.0 in
    let e3 = c.put_letter-p3.ensures.0 in
    let e4 = c.put_field.ensures.0 in (
      simp length-append (omega arith),
      then (then (then c.put_field-p1.ensures.1 c.put_field-p2.ensures.1 (omega arith)) (rw c.verdict_letter.ensures at c.put_letter-p3.ensures.1) (simp length-append (omega arith))) c.put_field.ensures.1 (simp length-append (omega arith)),
    )
