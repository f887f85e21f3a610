-- `octets::frame::put_head` meets its contract: six fields, one behind the other.
-- Assumes nothing.
use Rattle.octets.proofs.Stores.{then}
use Rattle.octets.specs.Field.{octets}
use Rattle.octets.specs.Frame.{head_of}
use mathlib.Core.Path.{refl}
use Rattle.octets.proofs.frame.put_head.Goals as goal

pub returns : goal.returns
unfolding octets head_of
returns c =
    then (then (then (then (then c.put_u16.ensures c.put_u16-2.ensures refl) c.put_address.ensures refl) c.put_address-2.ensures refl) c.put_address-3.ensures refl) c.put_u16-3.ensures refl
