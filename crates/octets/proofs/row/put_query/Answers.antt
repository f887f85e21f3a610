-- `octets::row::put_query` meets its contract: its fields one behind the other.
-- Assumes nothing.
use Rattle.octets.proofs.Stores.{then}
use Rattle.octets.specs.Field.{octets}
use Rattle.octets.specs.Row.{query_octets}
use native.Mathlib.Omega.{arith}
use Rattle.octets.proofs.row.put_query.Goals as goal

pub returns : goal.returns
unfolding query_octets octets
returns c =
    let p3 = c.put_u32 in
    let p2 = c.put_u16-2 in
    let p1 = c.put_u16 in
    then (then p1.ensures p2.ensures (omega arith)) p3.ensures (omega arith)
