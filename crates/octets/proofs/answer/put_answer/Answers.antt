-- `octets::answer::put_answer` meets its contract: its numbers one behind the other.
-- Assumes nothing.
use Rattle.octets.proofs.Stores.{then}
use Rattle.octets.specs.Answer.{answer_bytes}
use Rattle.octets.specs.Field.{octets}
use mathlib.Core.Path.{refl}
use Rattle.octets.proofs.answer.put_answer.Goals as goal

pub returns : goal.returns
unfolding answer_bytes octets
returns c =
    let p1 = c.put_u64 in
    let p2 = c.put_u16 in
    let p3 = c.put_u16-2 in
    let p4 = c.put_octet in
    let p5 = c.put_octet-2 in
    let p6 = c.put_octet-3 in
    let p7 = c.put_octet-4 in
    let p8 = c.put_u64-2 in
    then (then (then (then (then (then (then p1.ensures p2.ensures refl) p3.ensures refl) p4.ensures refl) p5.ensures refl) p6.ensures refl) p7.ensures refl) p8.ensures refl
