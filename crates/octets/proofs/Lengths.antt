-- Lengths of the frames that we write.
-- Assumes nothing.
use mathlib.Core.Path.{◌≡◌, refl, ap, ◌∙◌}
use Prim.Native.Nat.{ℕ, ◌+◌, ◌≤◌}
use lib.Dec.{lit≤}
use lib.ListN.{length, length-append}
use Rattle.octets.specs.Field.{octets}
use Rattle.octets.specs.Frame.{comeback_element, head_of, body_of, bytes_of}
use Rattle.octets.specs.declared.frame.Frame.{Frame}
use Rattle.octets.specs.declared.frame.Body.{Body}
use Rattle.octets.specs.declared.frame.Body.TheVariants.{Authentication, AssociationRequest, ReassociationRequest, Response, Later, Reason, Query}

pub head_length : (f : Frame) → length (head_of f) ≡ 24
unfolding octets head_of
head_length f = refl

pub body_short : (b : Body) → length (body_of b) ≤ 13
unfolding octets body_of comeback_element
body_short (Authentication a t s) = lit≤ tt
body_short (AssociationRequest c) = lit≤ tt
body_short (ReassociationRequest c a) = lit≤ tt
body_short (Response c s a) = lit≤ tt
body_short (Later c s t) = lit≤ tt
body_short (Reason r) = lit≤ tt
body_short (Query a i) = lit≤ tt

pub bytes_length : (f : Frame) → length (bytes_of f) ≡ 24 + length (body_of f.body)
unfolding bytes_of
bytes_length f = length-append (head_of f) (body_of f.body) ∙ ap (λ (n : ℕ). n + length (body_of f.body)) (head_length f)
