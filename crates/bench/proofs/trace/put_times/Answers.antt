-- `bench::trace::put_times` meets its contract: five pieces, one behind the other.
-- Assumes nothing.
use Rattle.bench.proofs.Digits.{field_length, tens_length}
use Rattle.bench.specs.Trace.{times_of}
use Rattle.octets.proofs.Stores.{then}
use lib.ListN.{length-append}
use native.Mathlib.Omega.{arith}
use Rattle.bench.proofs.trace.put_times.Goals as goal

pub put_field-p2-requires : goal.put_field-p2-requires
unfolding times_of
put_field-p2-requires c = omega (arith, c.put_field-p1.ensures.0, field_length 3 c.args.p.state)

pub put_field-p3-requires : goal.put_field-p3-requires
unfolding times_of
put_field-p3-requires c = omega (arith, c.put_field-p1.ensures.0, field_length 3 c.args.p.state, c.put_field-p2.ensures.0, field_length 3 c.exchange_number.result)

pub put_tens-p4-requires : goal.put_tens-p4-requires
unfolding times_of
put_tens-p4-requires c = omega (arith, c.put_field-p1.ensures.0, field_length 3 c.args.p.state, c.put_field-p2.ensures.0, field_length 3 c.exchange_number.result, c.put_field-p3.ensures.0, field_length 5 c.args.p.left)

pub put_octet-requires : goal.put_octet-requires
unfolding times_of
put_octet-requires c = omega (arith, c.requires, c.put_field-p1.ensures.0, field_length 3 c.args.p.state, c.put_field-p2.ensures.0, field_length 3 c.exchange_number.result, c.put_field-p3.ensures.0, field_length 5 c.args.p.left, c.put_tens-p4.ensures.0, tens_length 10 c.args.p.hold)

pub overflow_add-result : goal.overflow_add-result
unfolding times_of
overflow_add-result c = omega (arith, c.requires, c.well_formed.0.0, c.put_field-p1.ensures.0, field_length 3 c.args.p.state, c.put_field-p2.ensures.0, field_length 3 c.exchange_number.result, c.put_field-p3.ensures.0, field_length 5 c.args.p.left, c.put_tens-p4.ensures.0, tens_length 10 c.args.p.hold)

pub returns : goal.returns
unfolding times_of
returns c =
    let e1 = c.put_field-p1.ensures.0 in
    let e2 = c.put_field-p2.ensures.0 in
    let e3 = c.put_field-p3.ensures.0 in
    let e4 = c.put_tens-p4.ensures.0 in
    rw (← c.exchange_number.ensures)
    (simp length-append (omega arith), then (then (then (then c.put_field-p1.ensures.1 c.put_field-p2.ensures.1 (omega arith)) c.put_field-p3.ensures.1 (simp length-append (omega arith))) c.put_tens-p4.ensures.1 (simp length-append (omega arith))) c.put_octet.ensures (simp length-append (omega arith)))
