-- `octets::row::put_links` meets its contract: four addresses, one behind the other.
-- Assumes nothing.
use Rattle.octets.proofs.Stores.{then}
use Rattle.octets.specs.Field.{octets}
use Rattle.octets.specs.Links.{link_octets}
use native.Mathlib.Omega.{arith}
use Rattle.octets.proofs.row.put_links.Goals as goal

pub returns : goal.returns
unfolding link_octets octets
returns c =
    let p4 = c.put_address-4 in
    let p3 = c.put_address-3 in
    let p2 = c.put_address-2 in
    let p1 = c.put_address in
    then (then (then p1.ensures p2.ensures (omega arith)) p3.ensures (omega arith)) p4.ensures (omega arith)
