-- `bench::why::put_reasoned` meets its contract: the word, the value and the end of the line, one behind the other.
-- Assumes nothing.
use Rattle.bench.proofs.Digits.{tens_length}
use Rattle.bench.proofs.Lines.{word_length}
use Rattle.bench.specs.Why.{reasoned_text}
use Rattle.octets.proofs.Stores.{then}
use lib.ListN.{length-append}
use native.Mathlib.Omega.{arith}
use Rattle.bench.proofs.why.put_reasoned.Goals as goal

pub put_tens-p2-requires : goal.put_tens-p2-requires
put_tens-p2-requires c =
    omega (arith, c.requires, c.put_reason-p1.ensures.0, word_length c.args.reason)

pub put_octet-requires : goal.put_octet-requires
put_octet-requires c =
    omega (arith, c.requires, c.put_reason-p1.ensures.0, word_length c.args.reason, c.put_tens-p2.ensures.0, tens_length 20 c.args.value)

pub overflow_add-result : goal.overflow_add-result
overflow_add-result c =
    omega (arith, c.well_formed.0.0, c.requires, c.put_reason-p1.ensures.0, word_length c.args.reason, c.put_tens-p2.ensures.0, tens_length 20 c.args.value)

pub returns : goal.returns
unfolding reasoned_text
returns c =
    let e1 = c.put_reason-p1.ensures.0 in
    let e2 = c.put_tens-p2.ensures.0 in
    (simp length-append (omega arith), then (then c.put_reason-p1.ensures.1 c.put_tens-p2.ensures.1 (omega arith)) c.put_octet.ensures (simp length-append (omega arith)))
