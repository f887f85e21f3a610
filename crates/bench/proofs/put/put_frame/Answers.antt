-- `bench::put::put_frame` meets its contract: a head and the octets behind it.
-- Assumes nothing.
use Rattle.bench.specs.Import.{head_of, record_of}
use Rattle.octets.proofs.Stores.{then}
use Rattle.octets.specs.Field.{octets}
use native.Mathlib.Omega.{arith}
use Rattle.bench.proofs.put.put_frame.Goals as goal

pub returns : goal.returns
unfolding record_of head_of octets
returns c =
    let p2 = c.put_word in
    let p1 = c.put_head in
    (omega (arith, p2.ensures.0), then p1.ensures p2.ensures.1 (omega arith))
