-- `bench::why::put_why` meets its contract: the number, and the reason with its value behind it.
-- Assumes nothing.
use Rattle.bench.proofs.Digits.{field_length}
use Rattle.bench.proofs.Lines.{why_is}
use Rattle.octets.proofs.Stores.{then}
use lib.ListN.{length-append}
use native.Mathlib.Omega.{arith}
use Rattle.bench.proofs.why.put_why.Goals as goal

pub put_reasoned-requires : goal.put_reasoned-requires
put_reasoned-requires c =
    omega (arith, c.requires, c.put_field-p1.ensures.0, field_length 20 c.args.number)

pub returns : goal.returns
returns c =
    let e1 = c.put_field-p1.ensures.0 in
    let e2 = c.put_reasoned.ensures.0 in
    rw why_is (simp length-append (omega arith), then c.put_field-p1.ensures.1 c.put_reasoned.ensures.1 (omega arith))
