-- `octets::frame::write` meets its contract: the header, and then the body behind it; a short buffer is not written.
-- Assumes nothing.
use Rattle.octets.proofs.Lengths.{body_short, bytes_length, head_length}
use Rattle.octets.proofs.Stores.{front, then}
use Rattle.octets.specs.Frame.{bytes_of, length_of, longest, written_of}
use borrow.Author.Tests.{le-ltb, lt-ltb}
use mathlib.Core.Path.{◌∙◌, refl, sym}
use native.Mathlib.Nat.{lt_of_lt_of_le}
use native.Mathlib.Omega.{arith}
use Rattle.octets.proofs.frame.write.Goals as goal

pub returns-then-out-lt-LONGEST : goal.returns-then-out-lt-LONGEST
unfolding length_of written_of
returns-then-out-lt-LONGEST c = rw (lt-ltb _ longest (lt_of_lt_of_le c.if-out-lt-LONGEST.true (omega arith))) (refl, refl)

pub returns : goal.returns
unfolding length_of written_of bytes_of
returns c =
    let a = c.args in
    rw (le-ltb _ _ c.if-out-lt-LONGEST.false) (
      c.put_body.ensures.0 ∙ sym (bytes_length a.f),
      front (then c.put_head.ensures c.put_body.ensures.1 (omega (arith, head_length a.f))) (omega (arith, bytes_length a.f, body_short a.f.body)),
    )
