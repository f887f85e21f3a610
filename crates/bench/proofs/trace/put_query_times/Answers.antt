-- `bench::trace::put_query_times` meets its contract: the number, the time and the end of the line, one behind the other.
-- Assumes nothing.
use Rattle.bench.proofs.Digits.{field_length, tens_length}
use Rattle.bench.specs.Trace.{query_times}
use Rattle.octets.proofs.Stores.{then}
use lib.ListN.{length-append}
use native.Mathlib.Omega.{arith}
use Rattle.bench.proofs.trace.put_query_times.Goals as goal

pub put_tens-p2-requires : goal.put_tens-p2-requires
put_tens-p2-requires c = omega (arith, c.put_field-p1.ensures.0, field_length 3 c.query_number.result)

pub put_octet-requires : goal.put_octet-requires
put_octet-requires c = omega (arith, c.put_field-p1.ensures.0, field_length 3 c.query_number.result, c.put_tens-p2.ensures.0, tens_length 5 c.query_left.result)

pub overflow_add-result : goal.overflow_add-result
overflow_add-result c = omega (arith, c.put_field-p1.ensures.0, field_length 3 c.query_number.result, c.put_tens-p2.ensures.0, tens_length 5 c.query_left.result)

pub returns : goal.returns
unfolding query_times
returns c =
    let e1 = c.put_field-p1.ensures.0 in
    let e2 = c.put_tens-p2.ensures.0 in
    rw (← c.query_number.ensures, ← c.query_left.ensures)
    (simp length-append (omega arith), then (then c.put_field-p1.ensures.1 c.put_tens-p2.ensures.1 (omega arith)) c.put_octet.ensures (simp length-append (omega arith)))
