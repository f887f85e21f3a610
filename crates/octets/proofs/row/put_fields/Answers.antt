-- `octets::row::put_fields` meets its contract: its fields one behind the other.
-- Assumes nothing.
use Rattle.octets.proofs.Stores.{then}
use Rattle.octets.specs.Field.{octets}
use Rattle.octets.specs.Row.{head_octets, query_octets}
use mathlib.Core.Path.{refl}
use Rattle.octets.proofs.row.put_fields.Goals as goal

pub returns : goal.returns
unfolding head_octets query_octets octets
returns c =
    let p6 = c.put_query in
    let p5 = c.put_octet-2 in
    let p4 = c.put_octet in
    let p3 = c.put_u16 in
    let p2 = c.put_u32 in
    let p1 = c.put_u64 in
    then (then (then (then (then p1.ensures p2.ensures refl) p3.ensures refl) p4.ensures refl) p5.ensures refl) p6.ensures refl
