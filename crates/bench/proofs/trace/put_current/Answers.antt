-- `bench::trace::put_current` meets its contract: the word, the address and the end of the line, one behind the other.
-- Assumes nothing.
use Rattle.bench.proofs.Puts.{hex_length}
use Rattle.bench.specs.Trace.{current_line}
use Rattle.octets.proofs.Le.{length_octets}
use Rattle.octets.proofs.Stores.{then}
use Rattle.octets.specs.Field.{octets}
use lib.ListN.{length-append}
use native.Mathlib.Omega.{arith}
use Rattle.bench.proofs.trace.put_current.Goals as goal

pub returns : goal.returns
unfolding current_line
returns c =
    let e1 = c.put_word-p1.ensures.0 in
    let e2 = c.put_hex_address-p2.ensures.0 in
    let h = hex_length (octets 6 c.args.a) in
    let k = length_octets 6 c.args.a in
    (simp length-append (omega arith), then (then c.put_word-p1.ensures.1 c.put_hex_address-p2.ensures.1 (omega arith)) c.put_octet.ensures (simp length-append (omega arith)))
