-- What a frame says: the fields of each kind of frame, by type and subtype, at the standard's places after the 24 octets of header.
-- Assumes nothing.
use Rattle.std.specs.Prelude.{ℕ, ◌%◌, List, eqb, ltb, length}
use Rattle.octets.specs.Pick.{pick}
use Rattle.octets.specs.Field.{field, type_of, subtype_of}
use Rattle.octets.specs.Element.{comeback_of}
use Rattle.octets.specs.declared.heard.Kind.{Kind}
use Rattle.octets.specs.declared.heard.Kind.TheVariants.{Association, Reassociation}
use Rattle.octets.specs.declared.heard.Heard.{Heard}
use Rattle.octets.specs.declared.heard.Heard.TheVariants as heard

-- algorithm, transaction, status
unfoldable pub authentication_of : List ℕ → Heard
authentication_of xs = heard.Authentication (field 2 24 xs) (field 2 26 xs) (field 2 28 xs)

-- capability, status, AID (01: its low 14 bits), elements
unfoldable pub response_of : List ℕ → Kind → Heard
response_of xs k = heard.Response k (field 2 26 xs) (field 2 28 xs % 16384) (comeback_of xs)

-- 02, K5: "Queries are Action frames of category 8, request 0 and response 1, with a two-octet identifier"; one acts only if it is "28 octets
-- or longer". Another Action frame says nothing here.
unfoldable pub query_of : List ℕ → Heard
query_of xs =
    pick (ltb (length xs) 28) heard.Other
    (pick (eqb (field 1 24 xs) 8)
    (pick (eqb (field 1 25 xs) 0) (heard.QueryRequest (field 2 26 xs))
    (pick (eqb (field 1 25 xs) 1) (heard.QueryResponse (field 2 26 xs))
    heard.Other))
    heard.Other)

-- the management frames that have a rule, by subtype
abbrev pub management_of : List ℕ → ℕ → Heard
management_of xs s =
    pick (eqb s 0) (heard.Request Association 0)
    (pick (eqb s 1) (response_of xs Association)
    -- capability, listen interval, current AP
    (pick (eqb s 2) (heard.Request Reassociation (field 6 28 xs))
    (pick (eqb s 3) (response_of xs Reassociation)
    -- reason
    (pick (eqb s 10) (heard.Disassociation (field 2 24 xs))
    (pick (eqb s 11) (authentication_of xs)
    -- reason
    (pick (eqb s 12) (heard.Deauthentication (field 2 24 xs))
    -- category, action, identifier
    (pick (eqb s 13) (query_of xs)
    heard.Other)))))))

-- 01, A received frame, 8: what is not named does nothing.
unfoldable pub heard_of : List ℕ → Heard
heard_of xs = pick (eqb (type_of (field 1 0 xs)) 0) (management_of xs (subtype_of (field 1 0 xs))) heard.Other
