-- Demand 2: "a frame written here reads back to the fields it was written from". The header's and body's fields (`round_trip`),
-- what is heard of it (`heard_back`), that it is taken for a whole frame (`shape_back`), and all of these with every other octet, those of
-- the listen interval too (`reads_back`).
-- Assumes nothing.
use mathlib.Core.Path.{◌≡◌, refl}
use mathlib.Core.List.{◌++◌}
use Prim.Native.Nat.{ℕ, ◌+◌, ◌*◌, ◌/◌, ◌%◌, ◌<◌, ◌^◌}
use native.Mathlib.Omega.{arith}
use lib.Dec.{eqb}
use lib.ListN.{length}
use borrow.Author.Tests.{eqb-true}
use Rattle.octets.specs.Pick.{pick}
use Rattle.octets.specs.Field.{le, octets, field}
use Rattle.octets.specs.Element.{walk}
use Rattle.octets.specs.Class.{class_of, is_public_action}
use Rattle.octets.specs.Frame.{aid_field, comeback_element, head_of, body_of, bytes_of}
use Rattle.octets.specs.Heard.{heard_of, query_of, response_of, authentication_of}
use Rattle.octets.specs.Shape.{shape_of, least_of, least_management, is_bare}
use Rattle.octets.specs.Read.{body_like, frame_like, BodyFits, FrameFits, Says, Unheard, Reads, authentication, association_request, reassociation_request, association_response, reassociation_response, deauthentication, disassociation, association_later, reassociation_later, query_request, query_response, more_of}
use Rattle.octets.specs.declared.frame.Frame.{Frame}
use Rattle.octets.specs.declared.frame.Body.{Body}
use Rattle.octets.specs.declared.frame.Body.TheVariants.{Authentication, AssociationRequest, ReassociationRequest, Response, Later, Reason, Query}
use Rattle.octets.specs.declared.heard.Heard.{Heard}
use Rattle.octets.specs.declared.shape.Shape.TheVariants.{Full}
use Rattle.octets.proofs.Branch.{by_bool}
use Rattle.octets.proofs.Le.{le_octets}

-- the AID field, without the two top bits, is the AID
aid_back : (a : ℕ) → a < 2 ^ 14 → le (octets 2 (aid_field a)) % 16384 ≡ a
unfolding aid_field
aid_back a h = by_bool (eqb a 0)
    (λ e. let z : a ≡ 0 = eqb-true a 0 e in rw e (omega (arith, le_octets 2 0 (omega arith))))
    (λ e. rw e (omega (arith, le_octets 2 (a % 16384 + 49152) (omega arith))))

-- its two top bits are set, but for AID 0
top_back : (a : ℕ) → a < 2 ^ 14 → le (octets 2 (aid_field a)) / 16384 ≡ pick (eqb a 0) 0 3
unfolding aid_field
top_back a h = by_bool (eqb a 0)
    (λ e. rw e (omega (arith, le_octets 2 0 (omega arith))))
    (λ e. rw e (omega (arith, le_octets 2 (a % 16384 + 49152) (omega arith))))

-- the body, whatever 24 octets stand before it
body_back : (f : Frame) (b : Body) → BodyFits b → body_like b (head_of f ++ body_of b) ≡ b
unfolding octets head_of body_of comeback_element
body_back f (Authentication a t s) h = cc (le_octets 2 a h.0, le_octets 2 t h.1, le_octets 2 s h.2)
body_back f (AssociationRequest c) h = cc (le_octets 2 c h)
body_back f (ReassociationRequest c a) h = cc (le_octets 2 c h.0, le_octets 6 a h.1)
body_back f (Response c s a) h = cc (le_octets 2 c h.0, le_octets 2 s h.1, aid_back a h.2)
body_back f (Later c s t) h = cc (le_octets 2 c h.0, le_octets 2 s h.1, le_octets 4 t h.2)
body_back f (Reason r) h = cc (le_octets 2 r h)
body_back f (Query a i) h = let one : a + 256 * 0 ≡ a = omega arith in cc (one, le_octets 2 i h)

module _ (f : Frame) (h : FrameFits f) where
  subtype_back : field 2 0 (bytes_of f) / 16 ≡ f.subtype
  unfolding octets head_of bytes_of
  subtype_back =
      let s : f.subtype < 16 = h.subtype in
      let e : f.subtype % 16 ≡ f.subtype = omega arith in
      omega (arith, le_octets 2 (f.subtype % 16 * 16) (omega arith))

  address1_back : field 6 4 (bytes_of f) ≡ f.address1
  unfolding octets head_of bytes_of
  address1_back = le_octets 6 f.address1 h.address1

  address2_back : field 6 10 (bytes_of f) ≡ f.address2
  unfolding octets head_of bytes_of
  address2_back = le_octets 6 f.address2 h.address2

  address3_back : field 6 16 (bytes_of f) ≡ f.address3
  unfolding octets head_of bytes_of
  address3_back = le_octets 6 f.address3 h.address3

  body_of_back : body_like f.body (bytes_of f) ≡ f.body
  unfolding bytes_of
  body_of_back = body_back f f.body h.body

  -- The fields of the header and of the body, read back from a frame's octets, are the frame's.
  pub round_trip : frame_like f.body (bytes_of f) ≡ f
  round_trip = λ i. record {
    subtype = subtype_back i;
    address1 = address1_back i;
    address2 = address2_back i;
    address3 = address3_back i;
    body = body_of_back i;
  }

-- the frame of a subtype and a body
abbrev pub framed : ℕ → ℕ → ℕ → ℕ → Body → Frame
framed s a₁ a₂ a₃ b = record { subtype = s; address1 = a₁; address2 = a₂; address3 = a₃; body = b }

module _ (a₁ a₂ a₃ c : ℕ) where
  -- What is heard of a frame written here is what it was written from.
  pub heard_back : {s : ℕ} {b : Body} {w : Heard} → Says c s b w → BodyFits b → heard_of (bytes_of (framed s a₁ a₂ a₃ b)) ≡ w
  unfolding octets head_of body_of comeback_element bytes_of heard_of query_of response_of authentication_of walk
  heard_back (authentication {a} {t} {s}) h = cc (le_octets 2 a h.0, le_octets 2 t h.1, le_octets 2 s h.2)
  heard_back association_request h = refl
  heard_back (reassociation_request {a}) h = cc (le_octets 6 a h.1)
  heard_back (association_response {s} {a}) h = cc (le_octets 2 s h.1, aid_back a h.2)
  heard_back (reassociation_response {s} {a}) h = cc (le_octets 2 s h.1, aid_back a h.2)
  heard_back (association_later {s} {t}) h = cc (le_octets 2 s h.1, le_octets 4 t h.2)
  heard_back (reassociation_later {s} {t}) h = cc (le_octets 2 s h.1, le_octets 4 t h.2)
  heard_back (deauthentication {r}) h = cc (le_octets 2 r h)
  heard_back (disassociation {r}) h = cc (le_octets 2 r h)
  heard_back (query_request {i}) h = cc (le_octets 2 i h)
  heard_back (query_response {i}) h = cc (le_octets 2 i h)

  -- A frame written here has a class, and the length and the addresses that it needs.
  pub shape_back : {s : ℕ} {b : Body} {w : Heard} → Says c s b w → shape_of (bytes_of (framed s a₁ a₂ a₃ b)) ≡ Full
  unfolding octets head_of body_of comeback_element bytes_of shape_of class_of is_public_action least_of least_management is_bare
  shape_back authentication = refl
  shape_back association_request = refl
  shape_back reassociation_request = refl
  shape_back association_response = refl
  shape_back reassociation_response = refl
  shape_back deauthentication = refl
  shape_back disassociation = refl
  shape_back association_later = refl
  shape_back reassociation_later = refl
  shape_back query_request = refl
  shape_back query_response = refl

  least_back : {s : ℕ} {b : Body} {w : Heard} → Says c s b w → length (bytes_of (framed s a₁ a₂ a₃ b)) ≡ least_of (field 1 0 (bytes_of (framed s a₁ a₂ a₃ b))) + more_of w
  unfolding octets head_of body_of comeback_element bytes_of least_of least_management is_bare
  least_back authentication = refl
  least_back association_request = refl
  least_back reassociation_request = refl
  least_back association_response = refl
  least_back reassociation_response = refl
  least_back deauthentication = refl
  least_back disassociation = refl
  least_back association_later = refl
  least_back reassociation_later = refl
  least_back query_request = refl
  least_back query_response = refl

  unheard_back : {s : ℕ} {b : Body} {w : Heard} → Says c s b w → BodyFits b → Unheard w c (bytes_of (framed s a₁ a₂ a₃ b))
  unfolding octets head_of body_of comeback_element bytes_of
  unheard_back authentication h = tt
  unheard_back association_request h = (le_octets 2 c h, refl)
  unheard_back reassociation_request h = (le_octets 2 c h.0, refl)
  unheard_back (association_response {s} {a}) h = (le_octets 2 c h.0, top_back a h.2)
  unheard_back (reassociation_response {s} {a}) h = (le_octets 2 c h.0, top_back a h.2)
  unheard_back deauthentication h = tt
  unheard_back disassociation h = tt
  unheard_back association_later h = (le_octets 2 c h.0, refl)
  unheard_back reassociation_later h = (le_octets 2 c h.0, refl)
  unheard_back query_request h = tt
  unheard_back query_response h = tt

  -- Every field of a frame written here reads back.
  pub reads_back : {s : ℕ} {b : Body} {w : Heard} → Says c s b w → FrameFits (framed s a₁ a₂ a₃ b) → Reads a₁ a₂ a₃ c w (bytes_of (framed s a₁ a₂ a₃ b))
  unfolding octets head_of bytes_of
  reads_back {s} {b} r h =
      let f = framed s a₁ a₂ a₃ b in
      record {
        whole = shape_back r;
        least = least_back r;
        second = omega arith;
        duration = refl;
        address1 = address1_back f h;
        address2 = address2_back f h;
        address3 = address3_back f h;
        sequence = refl;
        says = heard_back r h.body;
        unheard = unheard_back r h.body;
      }
