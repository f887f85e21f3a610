-- `bench::trace::put_query_name` meets its contract: the word, the place and the identifier, one behind the other.
-- Assumes nothing.
use Rattle.bench.proofs.Digits.{field_length}
use Rattle.bench.specs.Trace.{query_name}
use Rattle.octets.proofs.Stores.{then}
use lib.ListN.{length-append}
use native.Mathlib.Omega.{arith}
use Rattle.bench.proofs.trace.put_query_name.Goals as goal

pub put_field-requires : goal.put_field-requires
put_field-requires c = omega (arith, c.put_word-p1.ensures.0, c.put_field-p2.ensures.0, field_length 2 c.args.place)

pub returns : goal.returns
unfolding query_name
returns c =
    let e1 = c.put_word-p1.ensures.0 in
    let e2 = c.put_field-p2.ensures.0 in
    let e3 = c.put_field.ensures.0 in
    (simp length-append (omega arith), then (then c.put_word-p1.ensures.1 c.put_field-p2.ensures.1 (omega arith)) c.put_field.ensures.1 (simp length-append (omega arith)))
