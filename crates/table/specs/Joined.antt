-- 02, K9, "Class 3 only after joining": "From an empty table, over any events and clock steps, a class 3 frame of version 0 that is not refused is
-- admitted exactly if its sender has an accepted association with no teardown after it, and that association came after an accepted
-- authentication with no deauthentication between them." No definition here looks at a state. proofs/Joining/ClassThree.antt proves
-- `class_3_after_joining`.
-- Assumes nothing.
use Rattle.std.specs.Prelude.{ℕ, ◌≡◌, Bool, true, false, not, ◌&&◌, ◌||◌, List, ◌∷◌, ◌++◌, eqb, leb}
use Rattle.octets.specs.Class.{class_of}
use Rattle.octets.specs.Field.{all_octets, field}
use Rattle.octets.specs.Heard.{heard_of}
use Rattle.octets.specs.declared.class.FrameClass.TheVariants.{Three}
use Rattle.octets.specs.declared.heard.Heard.{Heard}
use Rattle.octets.specs.declared.heard.Heard.TheVariants as heard
use Rattle.octets.specs.declared.heard.Kind.TheVariants.{Association, Authentication, Reassociation}
use Rattle.peer.specs.Codes.{last_aid}
use Rattle.peer.specs.Record.{associates, awaiting_of, is_asked, is_sent}
use Rattle.peer.specs.Settings.{role_associates}
use Rattle.peer.specs.Turn.{admit, discard}
use Rattle.peer.specs.declared.exchange.Exchange.{Exchange}
use Rattle.peer.specs.declared.record.Record.{Record}
use Rattle.peer.specs.declared.settings.Settings.{Settings}
use Rattle.table.specs.History.{Happening, Moment, empty_table, given, left_by, run_from}
use Rattle.table.specs.Order.{device_of}
use Rattle.table.specs.Places.{addresses_of, all_of, find_of}
use Rattle.table.specs.Seat.{peer_of}
use Rattle.table.specs.Step.{step_of}
use Rattle.table.specs.Written.{times_out}
use Rattle.table.specs.declared.rules.event.Event.{Event}
use Rattle.table.specs.declared.rules.event.Event.TheVariants as event

-- ---- Who, and what

-- "refused or discarded events do not count"
unfoldable pub counts : Settings → Moment → Bool
counts s m = eqb (given s m).answer.refusal 0 && not (eqb (given s m).answer.verdict discard)

-- "its sender": Address 2, octets 10 to 15; 02, K11: "the peer is the device", where it is a link's.
abbrev pub sender_in : List Record → List ℕ → ℕ
sender_in t xs = device_of t (field 6 10 xs)

-- A frame from the device d that says such a thing, or a primitive to d with such a number and code.
abbrev pub does : ℕ → (Heard → Bool) → (ℕ → ℕ → Bool) → Moment → Event → Bool
does d says such m event.Frame = eqb (sender_in m.table m.octets) d && says (heard_of m.octets)
does d says such m (event.Ask q a c) = eqb a d && such q c
does d says such m event.Links = false
does d says such m (event.Clock tu) = false

-- "an exchange under way": of the device d, in the table before the event; none where it has no record.
abbrev pub record_with : List Record → ℕ → Record
record_with t d = peer_of t (find_of (addresses_of t) d) d

abbrev pub exchange_with : List Record → ℕ → Exchange
exchange_with t d = (record_with t d).exchange

-- ---- "Accepted means, for an exchange under way, authentication answered with status 0"

-- by the one that it was sent to: algorithm 0, transaction 2
abbrev pub granted_by : Exchange → Heard → Bool
granted_by e heard.Other = false
granted_by e (heard.Authentication algorithm transaction status) =
    is_sent Authentication e && (eqb algorithm 0 && (eqb transaction 2 && eqb status 0))
granted_by e (heard.Deauthentication reason) = false
granted_by e (heard.Disassociation reason) = false
granted_by e (heard.Request kind current) = false
granted_by e (heard.Response kind status aid comeback) = false
granted_by e (heard.QueryRequest identifier) = false
granted_by e (heard.QueryResponse identifier) = false

-- or by us, where it is asked: primitive 2, AUTHENTICATE.response, with its status
unfoldable pub grants : Exchange → ℕ → ℕ → Bool
grants e q status = is_asked Authentication e && (eqb q 2 && eqb status 0)

unfoldable pub is_authentication : Settings → ℕ → Moment → Bool
is_authentication s d m = counts s m && does d (granted_by (exchange_with m.table d)) (grants (exchange_with m.table d)) m m.event

-- ---- "(re)association acknowledged at an AP or answered with status 0 and a valid AID at a station"

-- "AID (low 14 bits) outside 1-2007": not valid
unfoldable pub valid_aid : ℕ → Bool
valid_aid aid = leb 1 aid && leb aid last_aid

-- at a station, by the one that the request of that kind was sent to
abbrev pub accepted_by : Exchange → Heard → Bool
accepted_by e heard.Other = false
accepted_by e (heard.Authentication algorithm transaction status) = false
accepted_by e (heard.Deauthentication reason) = false
accepted_by e (heard.Disassociation reason) = false
accepted_by e (heard.Request kind current) = false
accepted_by e (heard.Response kind status aid comeback) = is_sent kind e && (eqb status 0 && valid_aid aid)
accepted_by e (heard.QueryRequest identifier) = false
accepted_by e (heard.QueryResponse identifier) = false

-- at an AP, where its response awaits the acknowledgement: primitive 10, transmit report, "1 acknowledged"
unfoldable pub acknowledges : Exchange → ℕ → ℕ → Bool
acknowledges e q code = not (eqb (awaiting_of e) 0) && (eqb q 10 && eqb code 1)

unfoldable pub is_association : Settings → ℕ → Moment → Bool
is_association s d m = counts s m && does d (accepted_by (exchange_with m.table d)) (acknowledges (exchange_with m.table d)) m m.event

-- ---- "Teardown means deauthentication, disassociation,": received, or from our own side, primitives 3 and 6, whether it finds anything to end or not

abbrev pub says_deauthentication : Heard → Bool
says_deauthentication heard.Other = false
says_deauthentication (heard.Authentication algorithm transaction status) = false
says_deauthentication (heard.Deauthentication reason) = true
says_deauthentication (heard.Disassociation reason) = false
says_deauthentication (heard.Request kind current) = false
says_deauthentication (heard.Response kind status aid comeback) = false
says_deauthentication (heard.QueryRequest identifier) = false
says_deauthentication (heard.QueryResponse identifier) = false

abbrev pub says_disassociation : Heard → Bool
says_disassociation heard.Other = false
says_disassociation (heard.Authentication algorithm transaction status) = false
says_disassociation (heard.Deauthentication reason) = false
says_disassociation (heard.Disassociation reason) = true
says_disassociation (heard.Request kind current) = false
says_disassociation (heard.Response kind status aid comeback) = false
says_disassociation (heard.QueryRequest identifier) = false
says_disassociation (heard.QueryResponse identifier) = false

-- DEAUTHENTICATE.request and DISASSOCIATE.request, whatever the reason
abbrev pub deauthenticates : ℕ → ℕ → Bool
deauthenticates q reason = eqb q 3

abbrev pub disassociates : ℕ → ℕ → Bool
disassociates q reason = eqb q 6

unfoldable pub is_deauthentication : Settings → ℕ → Moment → Bool
is_deauthentication s d m = counts s m && does d says_deauthentication deauthenticates m m.event

unfoldable pub is_disassociation : Settings → ℕ → Moment → Bool
is_disassociation s d m = counts s m && does d says_disassociation disassociates m m.event

-- ---- "a (re)association under way that is answered with a status other than 0 (not at an AP with edition 2)"

-- to us, by the one that the request of that kind was sent to
abbrev pub rejected_by : Exchange → Heard → Bool
rejected_by e heard.Other = false
rejected_by e (heard.Authentication algorithm transaction status) = false
rejected_by e (heard.Deauthentication reason) = false
rejected_by e (heard.Disassociation reason) = false
rejected_by e (heard.Request kind current) = false
rejected_by e (heard.Response kind status aid comeback) = is_sent kind e && not (eqb status 0)
rejected_by e (heard.QueryRequest identifier) = false
rejected_by e (heard.QueryResponse identifier) = false

-- by us, where it is asked: primitives 7 and 8, (RE)ASSOCIATE.response, which are an AP's. (Status 30 of K5 and status 1 of step 6 are replies to a frame,
-- and answer no exchange.)
unfoldable pub rejects : Settings → Exchange → ℕ → ℕ → Bool
rejects s e q status =
    ((is_asked Association e && eqb q 7) || (is_asked Reassociation e && eqb q 8)) && (not (eqb status 0) && not (eqb s.edition 2))

unfoldable pub is_rejection : Settings → ℕ → Moment → Bool
is_rejection s d m = counts s m && does d (rejected_by (exchange_with m.table d)) (rejects s (exchange_with m.table d)) m m.event

-- ---- "or timed out": its time falls to 0 in a clock step

abbrev pub times_out_in : ℕ → Moment → Event → Bool
times_out_in d m event.Frame = false
times_out_in d m (event.Ask q a c) = false
times_out_in d m event.Links = false
times_out_in d m (event.Clock tu) = associates (record_with m.table d) && times_out tu (record_with m.table d)

unfoldable pub is_timeout : Settings → ℕ → Moment → Bool
is_timeout s d m = counts s m && times_out_in d m m.event

-- ---- "or a station's successful move to another AP": one that is not d accepts

abbrev pub moves_from : ℕ → Moment → Event → Bool
moves_from d m event.Frame =
    not (eqb (sender_in m.table m.octets) d)
    && accepted_by (exchange_with m.table (sender_in m.table m.octets)) (heard_of m.octets)
moves_from d m (event.Ask q a c) = false
moves_from d m event.Links = false
moves_from d m (event.Clock tu) = false

unfoldable pub is_move : Settings → ℕ → Moment → Bool
is_move s d m = counts s m && moves_from d m m.event

-- Each of these.
unfoldable pub is_teardown : Settings → ℕ → Moment → Bool
is_teardown s d m =
    is_deauthentication s d m
    || (is_disassociation s d m
    || (is_rejection s d m
    || (is_timeout s d m
    || is_move s d m)))

-- ---- The law

-- Of a list, the first first: an element that is such, and none after it that ends it.
pub record Since {A : Type 0} (such ends : A → Bool) (l : List A) : Type 0 where
  pub before : List A
  pub one : A
  pub after : List A
  pub split : l ≡ before ++ (one ∷ after)
  pub is : such one ≡ true
  pub none : all_of (λ a. not (ends a)) after ≡ true

-- "an accepted association with no teardown after it, and that association came after an accepted authentication with no deauthentication
-- between them"
pub record Joined (s : Settings) (d : ℕ) (run : List Moment) : Type 0 where
  pub association : Since (is_association s d) (is_teardown s d) run
  pub authentication : Since (is_authentication s d) (is_deauthentication s d) association.before

-- Each frame is made of octets.
abbrev pub of_octets : Happening → Bool
of_octets e = all_octets e.octets

-- "a class 3 frame of version 0 that is not refused is admitted exactly if ..", at an AP and at a station: class 3 by the list of 01 and by K1. (A frame
-- of another version has no class.)
abbrev pub ClassThree : Settings → Type 0
ClassThree s =
    (l : List Happening) → all_of of_octets l ≡ true → role_associates s.role ≡ true
    → (xs : List ℕ) (n : ℕ) → class_of xs ≡ Three
    → (step_of s (left_by s empty_table l) event.Frame xs n).answer.refusal ≡ 0
    → ((step_of s (left_by s empty_table l) event.Frame xs n).answer.verdict ≡ admit → Joined s (sender_in (left_by s empty_table l) xs) (run_from s empty_table l))
    × (Joined s (sender_in (left_by s empty_table l) xs) (run_from s empty_table l) → (step_of s (left_by s empty_table l) event.Frame xs n).answer.verdict ≡ admit)
