-- `bench::trace::put_name` meets its contract: the word, the place and the address, one behind the other.
-- Assumes nothing.
use Rattle.bench.proofs.Digits.{field_length}
use Rattle.bench.proofs.Puts.{hex_length}
use Rattle.bench.specs.Trace.{name_of}
use Rattle.octets.proofs.Le.{length_octets}
use Rattle.octets.proofs.Stores.{then}
use Rattle.octets.specs.Field.{octets}
use lib.ListN.{length-append}
use native.Mathlib.Omega.{arith}
use Rattle.bench.proofs.trace.put_name.Goals as goal

pub put_hex_address-p3-requires : goal.put_hex_address-p3-requires
unfolding name_of
put_hex_address-p3-requires c = omega (arith, c.put_word-p1.ensures.0, c.put_field-p2.ensures.0, field_length 2 c.args.place)

pub put_octet-requires : goal.put_octet-requires
unfolding name_of
put_octet-requires c = omega (arith, c.put_word-p1.ensures.0, c.put_field-p2.ensures.0, field_length 2 c.args.place, c.put_hex_address-p3.ensures.0)

pub overflow_add-result : goal.overflow_add-result
unfolding name_of
overflow_add-result c = omega (arith, c.put_word-p1.ensures.0, c.put_field-p2.ensures.0, field_length 2 c.args.place, c.put_hex_address-p3.ensures.0)

pub returns : goal.returns
unfolding name_of
returns c =
    let e1 = c.put_word-p1.ensures.0 in
    let e2 = c.put_field-p2.ensures.0 in
    let e3 = c.put_hex_address-p3.ensures.0 in
    let h = hex_length (octets 6 c.args.p.address) in
    let k = length_octets 6 c.args.p.address in
    (simp length-append (omega arith), then (then (then c.put_word-p1.ensures.1 c.put_field-p2.ensures.1 (omega arith)) c.put_hex_address-p3.ensures.1 (simp length-append (omega arith))) c.put_octet.ensures (simp length-append (omega arith)))
