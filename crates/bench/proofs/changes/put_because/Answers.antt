-- `bench::changes::put_because` meets its contract: the word, and the reason with its value behind it.
-- Assumes nothing.
use Rattle.bench.proofs.Lines.{because_is}
use Rattle.octets.proofs.Stores.{then}
use lib.ListN.{length-append}
use native.Mathlib.Omega.{arith}
use Rattle.bench.proofs.changes.put_because.Goals as goal

pub put_reasoned-requires : goal.put_reasoned-requires
put_reasoned-requires c = omega (arith, c.put_word-p1.ensures.0)

pub returns : goal.returns
returns c =
    let e1 = c.put_word-p1.ensures.0 in
    let e2 = c.put_reasoned.ensures.0 in
    rw because_is (simp length-append (omega arith), then c.put_word-p1.ensures.1 c.put_reasoned.ensures.1 (omega arith))
