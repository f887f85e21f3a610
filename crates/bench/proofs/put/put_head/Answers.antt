-- `bench::put::put_head` meets its contract: five octets, one behind the other.
-- Assumes nothing.
use Rattle.bench.specs.Import.{head_of}
use Rattle.octets.proofs.Stores.{then}
use Rattle.octets.specs.Field.{octets}
use native.Mathlib.Omega.{arith}
use Rattle.bench.proofs.put.put_head.Goals as goal

pub returns : goal.returns
unfolding head_of octets
returns c =
    let p5 = c.put_octet-5 in
    let p4 = c.put_octet-4 in
    let p3 = c.put_octet-3 in
    let p2 = c.put_octet-2 in
    let p1 = c.put_octet in
    then (then (then (then p1.ensures p2.ensures (omega arith)) p3.ensures (omega arith)) p4.ensures (omega arith)) p5.ensures (omega arith)
