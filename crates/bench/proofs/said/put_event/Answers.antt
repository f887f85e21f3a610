-- `bench::said::put_event` meets its contract: the word, the number and the end of the line, one behind the other.
-- Assumes nothing.
use Rattle.bench.proofs.Digits.{tens_length}
use Rattle.octets.proofs.Stores.{then}
use lib.ListN.{length-append}
use native.Mathlib.Omega.{arith}
use Rattle.bench.specs.Said.{event_line}
use Rattle.bench.proofs.said.put_event.Goals as goal

pub put_octet-requires : goal.put_octet-requires
put_octet-requires c =
    omega (arith, c.requires, c.put_word-p1.ensures.0, c.put_tens-p2.ensures.0, tens_length 20 c.args.event)

pub overflow_add-result : goal.overflow_add-result
overflow_add-result c =
    omega (arith, c.well_formed.0.0, c.requires, c.put_word-p1.ensures.0, c.put_tens-p2.ensures.0, tens_length 20 c.args.event)

pub returns : goal.returns
unfolding event_line
returns c =
    let e1 = c.put_word-p1.ensures.0 in
    let e2 = c.put_tens-p2.ensures.0 in
    (simp length-append (omega arith), then (then c.put_word-p1.ensures.1 c.put_tens-p2.ensures.1 (omega arith)) c.put_octet.ensures (simp length-append (omega arith)))
