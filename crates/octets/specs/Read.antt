-- A frame's fields, read back from its octets: what the round trip is about.
-- Assumes nothing.
use Rattle.std.specs.Prelude.{ℕ, ◌+◌, ◌/◌, ◌%◌, ◌<◌, ◌^◌, ◌≡◌, List, eqb, length, Option, Some, None}
use Rattle.octets.specs.Pick.{pick}
use Rattle.octets.specs.Field.{field}
use Rattle.octets.specs.Heard.{heard_of}
use Rattle.octets.specs.Shape.{shape_of, least_of}
use Rattle.octets.specs.declared.shape.Shape.TheVariants.{Full}
use Rattle.octets.specs.declared.frame.Frame.{Frame}
use Rattle.octets.specs.declared.frame.Body.{Body}
use Rattle.octets.specs.declared.frame.Body.TheVariants.{Authentication, AssociationRequest, ReassociationRequest, Response, Later, Reason, Query}
use Rattle.octets.specs.declared.heard.Kind.TheVariants.{Association, Reassociation}
use Rattle.octets.specs.declared.heard.Heard.{Heard}
use Rattle.octets.specs.declared.heard.Heard.TheVariants as heard

-- A body of the given one's kind, read from octet 24 on.
abbrev pub body_like : Body → List ℕ → Body
body_like (Authentication a t s) xs = Authentication (field 2 24 xs) (field 2 26 xs) (field 2 28 xs)
body_like (AssociationRequest c) xs = AssociationRequest (field 2 24 xs)
body_like (ReassociationRequest c a) xs = ReassociationRequest (field 2 24 xs) (field 6 28 xs)
body_like (Response c s a) xs = Response (field 2 24 xs) (field 2 26 xs) (field 2 28 xs % 16384)
body_like (Later c s t) xs = Later (field 2 24 xs) (field 2 26 xs) (field 4 33 xs)
body_like (Reason r) xs = Reason (field 2 24 xs)
body_like (Query a i) xs = Query (field 1 25 xs) (field 2 26 xs)

abbrev pub frame_like : Body → List ℕ → Frame
frame_like b xs =
    record {
      subtype = field 2 0 xs / 16;
      address1 = field 6 4 xs;
      address2 = field 6 10 xs;
      address3 = field 6 16 xs;
      body = body_like b xs;
    }

-- Each field fits the octets that it has, an AID its 14 bits.
abbrev pub BodyFits : Body → Type 0
BodyFits (Authentication a t s) = (a < 2 ^ 16) × (t < 2 ^ 16) × (s < 2 ^ 16)
BodyFits (AssociationRequest c) = c < 2 ^ 16
BodyFits (ReassociationRequest c a) = (c < 2 ^ 16) × (a < 2 ^ 48)
BodyFits (Response c s a) = (c < 2 ^ 16) × (s < 2 ^ 16) × (a < 2 ^ 14)
BodyFits (Later c s t) = (c < 2 ^ 16) × (s < 2 ^ 16) × (t < 2 ^ 32)
BodyFits (Reason r) = r < 2 ^ 16
BodyFits (Query a i) = i < 2 ^ 16

pub record FrameFits (f : Frame) : Type 0 where
  pub subtype : f.subtype < 16
  pub address1 : f.address1 < 2 ^ 48
  pub address2 : f.address2 < 2 ^ 48
  pub address3 : f.address3 < 2 ^ 48
  pub body : BodyFits f.body

-- The same of what is heard.
abbrev pub ComebackFits : Option ℕ → Type 0
ComebackFits (Some tu) = tu < 2 ^ 32
ComebackFits None = Unit

abbrev pub HeardFits : Heard → Type 0
HeardFits heard.Other = Unit
HeardFits (heard.Authentication a t s) = (a < 2 ^ 16) × (t < 2 ^ 16) × (s < 2 ^ 16)
HeardFits (heard.Deauthentication r) = r < 2 ^ 16
HeardFits (heard.Disassociation r) = r < 2 ^ 16
HeardFits (heard.Request k a) = a < 2 ^ 48
HeardFits (heard.Response k s a c) = (s < 2 ^ 16) × (a < 2 ^ 14) × ComebackFits c
HeardFits (heard.QueryRequest i) = i < 2 ^ 16
HeardFits (heard.QueryResponse i) = i < 2 ^ 16

-- Which bodies go with which subtype, and what is heard of each. The capability is c, where a body has one.
pub data Says (c : ℕ) : ℕ → Body → Heard → Type 0 where
  authentication : {a t s : ℕ} → Says c 11 (Authentication a t s) (heard.Authentication a t s)
  association_request : Says c 0 (AssociationRequest c) (heard.Request Association 0)
  reassociation_request : {a : ℕ} → Says c 2 (ReassociationRequest c a) (heard.Request Reassociation a)
  association_response : {s a : ℕ} → Says c 1 (Response c s a) (heard.Response Association s a None)
  reassociation_response : {s a : ℕ} → Says c 3 (Response c s a) (heard.Response Reassociation s a None)
  association_later : {s t : ℕ} → Says c 1 (Later c s t) (heard.Response Association s 0 (Some t))
  reassociation_later : {s t : ℕ} → Says c 3 (Later c s t) (heard.Response Reassociation s 0 (Some t))
  deauthentication : {r : ℕ} → Says c 12 (Reason r) (heard.Deauthentication r)
  disassociation : {r : ℕ} → Says c 10 (Reason r) (heard.Disassociation r)
  query_request : {i : ℕ} → Says c 13 (Query 0 i) (heard.QueryRequest i)
  query_response : {i : ℕ} → Says c 13 (Query 1 i) (heard.QueryResponse i)

-- What nothing here hears of a body's fields, at their places.
abbrev pub Unheard : Heard → ℕ → List ℕ → Type 0
Unheard heard.Other c xs = Unit
Unheard (heard.Authentication a t s) c xs = Unit
Unheard (heard.Deauthentication r) c xs = Unit
Unheard (heard.Disassociation r) c xs = Unit
-- "capability, listen interval 10 (then current AP)"
Unheard (heard.Request k a) c xs = (field 2 24 xs ≡ c) × (field 2 26 xs ≡ 10)
Unheard (heard.QueryRequest i) c xs = Unit
Unheard (heard.QueryResponse i) c xs = Unit
-- "capability, status, AID with its two top bits set (for AID 0 all bits clear)"
Unheard (heard.Response k s a b) c xs = (field 2 24 xs ≡ c) × (field 2 28 xs / 16384 ≡ pick (eqb a 0) 0 3)

-- How many octets a frame has beyond the least of its type and subtype: "no elements" but a Timeout Interval, of 7; and a query's category,
-- action and identifier.
abbrev pub more_of : Heard → ℕ
more_of (heard.Response k s a (Some t)) = 7
more_of (heard.Response k s a None) = 0
more_of (heard.QueryRequest i) = 4
more_of (heard.QueryResponse i) = 4
more_of heard.Other = 0
more_of (heard.Authentication a t s) = 0
more_of (heard.Deauthentication r) = 0
more_of (heard.Disassociation r) = 0
more_of (heard.Request k a) = 0

-- All that the octets of a frame say: "Frame Control, duration 0, Address 1, .. Address 2, .. Address 3, .. sequence control 0", and a body
-- that is heard as w, with the capability c where it has one.
pub record Reads (a₁ a₂ a₃ c : ℕ) (w : Heard) (xs : List ℕ) : Type 0 where
  -- a whole frame of version 0 that has a class, and no octet more than it says
  pub whole : shape_of xs ≡ Full
  pub least : length xs ≡ least_of (field 1 0 xs) + more_of w
  -- the second octet 00: neither To DS nor From DS
  pub second : field 1 1 xs ≡ 0
  pub duration : field 2 2 xs ≡ 0
  pub address1 : field 6 4 xs ≡ a₁
  pub address2 : field 6 10 xs ≡ a₂
  pub address3 : field 6 16 xs ≡ a₃
  pub sequence : field 2 22 xs ≡ 0
  pub says : heard_of xs ≡ w
  pub unheard : Unheard w c xs
