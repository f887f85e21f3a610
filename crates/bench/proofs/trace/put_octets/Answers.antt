-- `bench::trace::put_octets` meets its contract: the word, the digits and the end of the line, one behind the other.
-- Assumes nothing.
use Rattle.bench.proofs.Puts.{hex_length}
use Rattle.bench.specs.Trace.{octets_line}
use Rattle.octets.proofs.Stores.{then}
use lib.ListN.{length-append}
use native.Mathlib.Omega.{arith}
use Rattle.bench.proofs.trace.put_octets.Goals as goal

pub returns : goal.returns
unfolding octets_line
returns c =
    let e1 = c.put_word-p1.ensures.0 in
    let e2 = c.put_hex-p2.ensures.0 in
    (simp length-append (omega (arith, hex_length c.args.octets.now)), then (then c.put_word-p1.ensures.1 c.put_hex-p2.ensures.1 (omega arith)) c.put_octet.ensures (simp length-append (omega (arith, hex_length c.args.octets.now))))
