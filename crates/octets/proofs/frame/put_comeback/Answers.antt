-- `octets::frame::put_comeback` meets its contract: id, length, type and time, one behind the other.
-- Assumes nothing.
use Rattle.octets.proofs.Stores.{then}
use Rattle.octets.specs.Field.{octets}
use Rattle.octets.specs.Frame.{comeback_element}
use mathlib.Core.Path.{refl}
use Rattle.octets.proofs.frame.put_comeback.Goals as goal

pub returns : goal.returns
unfolding octets comeback_element
returns c =
    let p4 = c.put_u32 in
    let p3 = c.put_octet-3 in
    let p2 = c.put_octet-2 in
    let p1 = c.put_octet in
    then (then (then p1.ensures p2.ensures refl) p3.ensures refl) p4.ensures refl
