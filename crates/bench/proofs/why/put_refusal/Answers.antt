-- `bench::why::put_refusal` meets its contract: the word and the number behind it.
-- Assumes nothing.
use Rattle.bench.specs.Why.{refusal_word}
use Rattle.octets.proofs.Stores.{then}
use lib.ListN.{length-append}
use native.Mathlib.Omega.{arith}
use Rattle.bench.proofs.why.put_refusal.Goals as goal

pub put_field-requires : goal.put_field-requires
put_field-requires c = omega (arith, c.put_word-p1.ensures.0)

pub returns : goal.returns
unfolding refusal_word
returns c =
    let e1 = c.put_word-p1.ensures.0 in
    let e2 = c.put_field.ensures.0 in
    (simp length-append (omega arith), then c.put_word-p1.ensures.1 c.put_field.ensures.1 (omega arith))
