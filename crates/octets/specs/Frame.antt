-- 01, "Frames written": the octets of each frame.
-- Assumes nothing.
use Rattle.std.specs.Prelude.{ℕ, ◌+◌, ◌*◌, ◌%◌, List, ◌∷◌, ◌++◌, ltb, eqb, length, drop}
use Rattle.octets.specs.Pick.{pick}
use Rattle.octets.specs.Field.{octets}
use Rattle.octets.specs.declared.frame.Frame.{Frame}
use Rattle.octets.specs.declared.frame.Body.{Body}
use Rattle.octets.specs.declared.frame.Body.TheVariants.{Authentication, AssociationRequest, ReassociationRequest, Response, Later, Reason, Query}

-- Capability is 0001, or 0011 hexadecimal where RSNA is required.
unfoldable pub capability_of : ℕ → ℕ
capability_of rsna = pick (eqb rsna 1) 0x0011 0x0001

-- listen interval 10
abbrev pub listen_interval : ℕ
listen_interval = 10

-- The octets of the longest frame written, a response with a time to come back. 02, K5: "1 now below 37 bytes but for the clock"
abbrev pub longest : ℕ
longest = 37

-- AID with its two top bits set (for AID 0 all bits clear)
unfoldable pub aid_field : ℕ → ℕ
aid_field aid = pick (eqb aid 0) 0 (aid % 16384 + 49152)

-- Frame Control, duration 0, Address 1, Address 2, Address 3, sequence control 0: 24 octets.
-- First octet: 16 times the standard's subtype; second 00.
unfoldable pub head_of : Frame → List ℕ
head_of f =
    octets 2 (f.subtype % 16 * 16) ++ octets 2 0 ++ octets 6 f.address1 ++ octets 6 f.address2 ++ octets 6 f.address3
    ++ octets 2 0

-- "a Timeout Interval element of type 3": id 56, length 5, type 3, the time
unfoldable pub comeback_element : ℕ → List ℕ
comeback_element time = 56 ∷ 5 ∷ 3 ∷ octets 4 time

-- Bodies, no elements (house) but that one.
unfoldable pub body_of : Body → List ℕ
-- algorithm, transaction, status
body_of (Authentication algorithm transaction status) = octets 2 algorithm ++ octets 2 transaction ++ octets 2 status
-- capability, listen interval 10 (then current AP)
body_of (AssociationRequest capability) = octets 2 capability ++ octets 2 listen_interval
body_of (ReassociationRequest capability current) = octets 2 capability ++ octets 2 listen_interval ++ octets 6 current
-- capability, status, AID
body_of (Response capability status aid) = octets 2 capability ++ octets 2 status ++ octets 2 (aid_field aid)
-- 02, K5: "status 30, AID 0 and a Timeout Interval element of type 3 with the query's remaining TU"
body_of (Later capability status time) = octets 2 capability ++ octets 2 status ++ octets 2 0 ++ comeback_element time
-- reason
body_of (Reason reason) = octets 2 reason
-- 02, K5: "Action frames of category 8, request 0 and response 1, with a two-octet identifier"
body_of (Query action identifier) = 8 ∷ action ∷ octets 2 identifier

unfoldable pub bytes_of : Frame → List ℕ
bytes_of f = head_of f ++ body_of f.body

-- What writing a frame into a buffer leaves there, and the number that it gives. A buffer too short for
-- the longest frame is not written.
unfoldable pub written_of : Frame → List ℕ → List ℕ
written_of f l = pick (ltb (length l) longest) l (bytes_of f ++ drop (length (bytes_of f)) l)

unfoldable pub length_of : Frame → ℕ → ℕ
length_of f n = pick (ltb n longest) 0 (length (bytes_of f))
