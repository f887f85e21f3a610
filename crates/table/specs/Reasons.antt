-- 02, K4: "A reason is named exactly when that rule holds and no earlier one does": the rules of each call in their order, in the words of documents 01
-- and 02, as specs/Exactly.antt has the refusals; the value beside each; and what the step that a reason explains has done.
-- Assumes nothing.
use Rattle.std.specs.Prelude.{ℕ, ◌%◌, ◌≡◌, Bool, true, false, not, ◌&&◌, ◌||◌, List, [], ◌∷◌, ltb, leb, eqb, length}
use Rattle.octets.specs.Address.{group_of, valid_of}
use Rattle.octets.specs.Class.{class_in, class_of, number_of}
use Rattle.octets.specs.Element.{broken_of}
use Rattle.octets.specs.Field.{field, subtype_of, type_of}
use Rattle.octets.specs.Frame.{longest}
use Rattle.octets.specs.Pick.{pick}
use Rattle.octets.specs.Shape.{is_bare, least_of}
use Rattle.octets.specs.declared.heard.Kind.{Kind}
use Rattle.octets.specs.declared.heard.Kind.TheVariants.{Authentication, Association, Reassociation}
use Rattle.peer.specs.Query.{is_running}
use Rattle.peer.specs.Record.{is_sent}
use Rattle.peer.specs.Settings.{ap, role_answers, role_associates}
use Rattle.peer.specs.Turn.{admit, discard}
use Rattle.peer.specs.declared.record.Record.{Record}
use Rattle.peer.specs.declared.settings.Settings.{Settings}
use Rattle.table.specs.Exactly.{Exactly, ask_refusals, clock_refusals, goes_on, link_refusals}
use Rattle.table.specs.Fit.{well_formed}
use Rattle.table.specs.Link.{device_in}
use Rattle.table.specs.Places.{has_link, some_of}
use Rattle.table.specs.Read.{for_us}
use Rattle.table.specs.Why.{class_filter, group_rule, no_class, nothing_to_do, reason_number}
use Rattle.table.specs.declared.rules.answer.Stepped.{Stepped}
use Rattle.table.specs.declared.rules.event.Event.{Event}
use Rattle.table.specs.declared.rules.event.Event.TheVariants as event
use Rattle.table.specs.declared.rules.why.Reason.{Reason}
use Rattle.table.specs.declared.rules.why.Reason.TheVariants.{None, Refusal, NoClass, ClassFilter, GroupRule, NothingToDo}
use Rattle.table.specs.declared.rules.why.Why.{Why}

-- ---- the event's own peer

-- What is told of the first record that passes a test; z where none does.
unfoldable pub first_told : {A : Type 0} → (Record → Bool) → A → (Record → A) → List Record → A
first_told m z f [] = z
first_told m z f (p ∷ ps) = pick (m p) (f p) (first_told m z f ps)

-- Of a primitive's peer: the device of that address.
abbrev pub device_told : {A : Type 0} → List Record → ℕ → A → (Record → A) → A
device_told t a z f = first_told (λ p. eqb p.address a) z f t

-- 02, K11: "A frame's Address 2 is looked up among link addresses first, then device addresses."
abbrev pub sender_told : {A : Type 0} → List Record → List ℕ → A → (Record → A) → A
sender_told t xs z f = first_told (has_link (field 6 10 xs)) (device_told t (field 6 10 xs) z f) f t

-- "A peer without a record counts as State 1", and has no hold.
abbrev pub state_told : List Record → Event → List ℕ → ℕ
state_told t event.Frame xs = sender_told t xs 1 (λ p. p.state)
state_told t (event.Ask q a c) xs = device_told t a 1 (λ p. p.state)
state_told t event.Links xs = device_told t (device_in xs) 1 (λ p. p.state)
state_told t (event.Clock d) xs = 0

abbrev pub hold_told : List Record → Event → List ℕ → ℕ
hold_told t event.Frame xs = 0
hold_told t (event.Ask q a c) xs = device_told t a 0 (λ p. p.hold)
hold_told t event.Links xs = device_told t (device_in xs) 0 (λ p. p.hold)
hold_told t (event.Clock d) xs = 0

abbrev pub length_told : Event → List ℕ → ℕ
length_told event.Frame xs = length xs
length_told (event.Ask q a c) xs = 0
length_told event.Links xs = 0
length_told (event.Clock d) xs = 0

-- "and beside it a frame's length for 3, the state for 7 and the class filter, the hold left for 8, else 0"
abbrev pub value_told : List Record → Event → List ℕ → ℕ → ℕ
value_told t e xs k =
    pick (eqb k 3) (length_told e xs)
    (pick (eqb k 7 || eqb k class_filter) (state_told t e xs)
    (pick (eqb k 8) (hold_told t e xs) 0))

-- ---- a received frame, 6 to 8

-- 6. "Class 1 passes, class 2 in State 2 and above, class 3 in State 3 and above (001). Otherwise discard". 02, K10: what is not class 1 there is
-- "discarded at step 6".
abbrev pub out_of_class : ℕ → ℕ → List ℕ → Bool
out_of_class role state xs =
    pick (role_associates role)
    ((eqb (number_of (class_of xs)) 2 && ltb state 2) || (eqb (number_of (class_of xs)) 3 && ltb state 3))
    (not (eqb (number_of (class_in false xs)) 1))

-- A management frame of a subtype.
abbrev pub of_subtype : ℕ → List ℕ → Bool
of_subtype n xs = eqb (type_of (field 1 0 xs)) 0 && eqb (subtype_of (field 1 0 xs)) n

-- 7. "Management subtypes 0 to 3 and 11 to a group address"
abbrev pub to_group : List ℕ → Bool
to_group xs =
    group_of (field 6 4 xs)
    && (eqb (type_of (field 1 0 xs)) 0 && (ltb (subtype_of (field 1 0 xs)) 4 || eqb (subtype_of (field 1 0 xs)) 11))

-- "status 0 with AID (low 14 bits) outside 1-2007"
abbrev pub bad_aid : List ℕ → Bool
bad_aid xs = eqb (field 2 26 xs) 0 && (eqb (field 2 28 xs % 16384) 0 || ltb 2007 (field 2 28 xs % 16384))

-- "Response, station, matching exchange sent", that does not do nothing
abbrev pub answers_us : List Record → List ℕ → Kind → Bool
answers_us t xs k = sender_told t xs false (λ p. is_sent k p.exchange) && not (bad_aid xs)

-- 02, K5: "A query frame acts if sent to our own address, 28 octets or longer, by a peer in State 4", "Action frames of category 8, request 0 and response 1"
abbrev pub queries : ℕ → List ℕ → Bool
queries action xs =
    not (group_of (field 6 4 xs)) && (leb 28 (length xs) && (eqb (field 1 24 xs) 8 && eqb (field 1 25 xs) action))

-- 8. "act as below": each rule that names a frame.
abbrev pub deeds : Settings → List Record → List ℕ → List Bool
deeds s t xs =
    -- "Authentication, AP, transaction 1"; 02, K10: "by both roles' rules"
    (of_subtype 11 xs && (eqb (field 2 26 xs) 1 && role_answers s.role))
    -- "Authentication, station, algorithm 0, transaction 2, authentication sent to that peer"
    ∷ (of_subtype 11 xs && (eqb (field 2 24 xs) 0 && (eqb (field 2 26 xs) 2 && sender_told t xs false (λ p. is_sent Authentication p.exchange))))
    -- "Deauthentication in State 2-4"
    ∷ (of_subtype 12 xs && sender_told t xs false (λ p. leb 2 p.state))
    -- "Disassociation in State 3 or 4"
    ∷ (of_subtype 10 xs && sender_told t xs false (λ p. leb 3 p.state))
    -- "(Re)association request, AP"
    ∷ ((of_subtype 0 xs || of_subtype 2 xs) && eqb s.role ap)
    ∷ (of_subtype 1 xs && answers_us t xs Association)
    ∷ (of_subtype 3 xs && answers_us t xs Reassociation)
    -- "a request is answered with its identifier in either role, a response with the query's ends it"
    ∷ (of_subtype 13 xs && (queries 0 xs && sender_told t xs false (λ p. eqb p.state 4)))
    ∷ (of_subtype 13 xs && (queries 1 xs && sender_told t xs false (λ p. eqb p.state 4 && (is_running p.query && eqb (field 2 26 xs) p.identifier))))
    ∷ []

-- "what is not named does nothing"
abbrev pub unnamed : Settings → List Record → List ℕ → Bool
unnamed s t xs = not (some_of (λ b. b) (deeds s t xs))

-- ---- the lists

-- A received frame, 1 to 8, lent a buffer of n octets. "CTS and ACK: admit, done, no peer": nothing to do.
abbrev pub frame_reasons : Settings → List Record → List ℕ → ℕ → List (ℕ × Bool)
frame_reasons s t xs n =
    (1, ltb n longest)
    ∷ (2, not (well_formed s t))
    ∷ (3, ltb (length xs) 10 || ltb 4096 (length xs))
    ∷ (no_class, not (goes_on xs))
    ∷ (3, ltb (length xs) (least_of (field 1 0 xs)))
    ∷ (4, not (for_us s.own (field 6 4 xs)))
    ∷ (nothing_to_do, is_bare (field 1 0 xs))
    ∷ (3, eqb (field 6 10 xs) s.own || not (valid_of (field 6 10 xs)))
    ∷ (3, broken_of xs)
    ∷ (class_filter, out_of_class s.role (state_told t event.Frame xs) xs)
    ∷ (group_rule, to_group xs)
    ∷ (nothing_to_do, unnamed s t xs)
    ∷ []

-- Of all other events: "which refusal, .. or none".
abbrev pub reasons_of : Settings → List Record → Event → List ℕ → ℕ → List (ℕ × Bool)
reasons_of s t event.Frame xs n = frame_reasons s t xs n
reasons_of s t (event.Ask q a c) xs n = ask_refusals s t q a c n
reasons_of s t event.Links xs n = link_refusals s t xs n
reasons_of s t (event.Clock d) xs n = clock_refusals s t d n

-- The reason named is exactly the list's, and the value beside it is the one that goes with it.
pub record WhyExactly (s : Settings) (t : List Record) (e : Event) (xs : List ℕ) (n : ℕ) (w : Why) : Type 0 where
  pub reason : Exactly (reason_number w.reason) (reasons_of s t e xs n)
  pub value : w.value ≡ value_told t e xs (reason_number w.reason)

-- ---- beside the step that it explains

-- "discard": steps 2, 6 and 7.
abbrev pub is_discard : Reason → Bool
is_discard None = false
is_discard (Refusal n) = false
is_discard NoClass = true
is_discard ClassFilter = true
is_discard GroupRule = true
is_discard NothingToDo = false

-- An event that was admitted, and that changed, told and wrote nothing.
pub record Idle (t : List Record) (r : Stepped) : Type 0 where
  pub admitted : r.answer.verdict ≡ admit
  pub table : r.table ≡ t
  pub notice : r.answer.notice ≡ 0
  pub written : r.answer.written ≡ 0

-- A reason q beside the step r of the table t: a refusal is named exactly if the step refuses with its number, a discard exactly if it discards, "nothing to do"
-- exactly if it was admitted with nothing changed, told or written. And a step with nothing to do has told the distribution system nothing either.
pub record Explains (t : List Record) (q : Reason) (r : Stepped) : Type 0 where
  pub refused : {n : ℕ} → (n ≡ 0 → ⊥) → r.answer.refusal ≡ n → q ≡ Refusal n
  pub refuses : {n : ℕ} → q ≡ Refusal n → (n ≡ 0 → ⊥) × (r.answer.refusal ≡ n)
  pub discarded : r.answer.verdict ≡ discard → is_discard q ≡ true
  pub discards : is_discard q ≡ true → r.answer.verdict ≡ discard
  pub idle : Idle t r → q ≡ NothingToDo
  pub idles : q ≡ NothingToDo → Idle t r
  pub silent : q ≡ NothingToDo → r.answer.ds ≡ 0
