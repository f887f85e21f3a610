-- `bench::said::put_differs` meets its contract: the word, the number, the name and the end of the line, one behind the other.
-- Assumes nothing.
use Rattle.bench.proofs.Digits.{field_length}
use Rattle.octets.proofs.Stores.{then}
use lib.ListN.{length-append}
use native.Mathlib.Omega.{arith}
use Rattle.bench.proofs.SaidLines.{name_length}
use Rattle.bench.specs.Said.{differs_line}
use Rattle.bench.proofs.said.put_differs.Goals as goal

pub put_name-p3-requires : goal.put_name-p3-requires
put_name-p3-requires c =
    omega (arith, c.requires, c.put_word-p1.ensures.0, c.put_field-p2.ensures.0, field_length 20 c.args.event)

pub put_octet-requires : goal.put_octet-requires
put_octet-requires c =
    omega (arith, c.requires, c.put_word-p1.ensures.0, c.put_field-p2.ensures.0, field_length 20 c.args.event, c.put_name-p3.ensures.0, name_length c.args.field)

pub overflow_add-result : goal.overflow_add-result
overflow_add-result c =
    omega (arith, c.well_formed.0.0, c.requires, c.put_word-p1.ensures.0, c.put_field-p2.ensures.0, field_length 20 c.args.event, c.put_name-p3.ensures.0, name_length c.args.field)

pub returns : goal.returns
unfolding differs_line
returns c =
    let e1 = c.put_word-p1.ensures.0 in
    let e2 = c.put_field-p2.ensures.0 in
    let e3 = c.put_name-p3.ensures.0 in
    (simp length-append (omega arith), then (then (then c.put_word-p1.ensures.1 c.put_field-p2.ensures.1 (omega arith)) c.put_name-p3.ensures.1 (simp length-append (omega arith))) c.put_octet.ensures (simp length-append (omega arith)))
