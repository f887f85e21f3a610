-- `bench::put::put_step` meets its contract: a head and two octets behind it.
-- Assumes nothing.
use Rattle.bench.specs.Import.{head_of, record_of}
use Rattle.octets.proofs.Stores.{then}
use Rattle.octets.specs.Field.{octets}
use native.Mathlib.Omega.{arith}
use Rattle.bench.proofs.put.put_step.Goals as goal

pub returns : goal.returns
unfolding record_of head_of octets
returns c =
    let p3 = c.put_octet-2 in
    let p2 = c.put_octet in
    let p1 = c.put_head in
    then (then p1.ensures p2.ensures (omega arith)) p3.ensures (omega arith)
