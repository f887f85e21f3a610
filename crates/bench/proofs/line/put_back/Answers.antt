-- `bench::line::put_back` meets its contract: five fields, one behind the other.
-- Assumes nothing.
use Rattle.bench.proofs.Digits.{field_length, tens_length}
use Rattle.bench.specs.Line.{back_of}
use Rattle.octets.proofs.Stores.{then}
use lib.ListN.{length-append}
use native.Mathlib.Omega.{arith}
use Rattle.bench.proofs.line.put_back.Goals as goal

pub put_field-p2-requires : goal.put_field-p2-requires
unfolding back_of
put_field-p2-requires c = omega (arith, c.put_field-p1.ensures.0, field_length 5 c.args.a.code)

pub put_letter-p3-requires : goal.put_letter-p3-requires
unfolding back_of
put_letter-p3-requires c = omega (arith, c.put_field-p1.ensures.0, field_length 5 c.args.a.code, c.put_field-p2.ensures.0, field_length 5 c.args.a.written)

pub put_tens-p4-requires : goal.put_tens-p4-requires
unfolding back_of
put_tens-p4-requires c = omega (arith, c.put_field-p1.ensures.0, field_length 5 c.args.a.code, c.put_field-p2.ensures.0, field_length 5 c.args.a.written, c.put_letter-p3.ensures.0)

pub put_octet-requires : goal.put_octet-requires
unfolding back_of
put_octet-requires c = omega (arith, c.put_field-p1.ensures.0, field_length 5 c.args.a.code, c.put_field-p2.ensures.0, field_length 5 c.args.a.written, c.put_letter-p3.ensures.0, c.put_tens-p4.ensures.0, tens_length 3 c.args.a.state)

pub overflow_add-result : goal.overflow_add-result
unfolding back_of
overflow_add-result c = omega (arith, c.requires, c.well_formed.0.0, c.put_field-p1.ensures.0, field_length 5 c.args.a.code, c.put_field-p2.ensures.0, field_length 5 c.args.a.written, c.put_letter-p3.ensures.0, c.put_tens-p4.ensures.0, tens_length 3 c.args.a.state)

pub returns : goal.returns
unfolding back_of
returns c =
    let e1 = c.put_field-p1.ensures.0 in
    let e2 = c.put_field-p2.ensures.0 in
    let e3 = c.put_letter-p3.ensures.0 in
    let e4 = c.put_tens-p4.ensures.0 in (
      simp length-append (omega arith),
      then (then (then (then c.put_field-p1.ensures.1 c.put_field-p2.ensures.1 (omega arith)) (rw c.ds_letter.ensures at c.put_letter-p3.ensures.1) (simp length-append (omega arith))) c.put_tens-p4.ensures.1 (simp length-append (omega arith))) c.put_octet.ensures (simp length-append (omega arith)),
    )
