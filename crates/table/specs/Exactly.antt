-- 00, demand 1: "gives a refusal from the listed numbers, exactly when the list says so". The lists of each call, in the order of 01,
-- "Refusal numbers", and what "First that applies" means.
-- Assumes nothing.
use Rattle.std.specs.Prelude.{ℕ, ◌+◌, ◌*◌, ◌≡◌, Bool, true, false, not, ◌&&◌, ◌||◌, List, [], ◌∷◌, ◌++◌, ltb, leb, eqb, length}
use Rattle.octets.specs.Address.{valid_of}
use Rattle.octets.specs.Element.{broken_of}
use Rattle.octets.specs.Field.{field}
use Rattle.octets.specs.Class.{class_of, classless}
use Rattle.octets.specs.Shape.{is_bare, least_of}
use Rattle.octets.specs.Frame.{longest}
use Rattle.octets.specs.declared.heard.Kind.TheVariants.{Authentication, Association, Reassociation}
use Rattle.peer.specs.Query.{is_due}
use Rattle.peer.specs.Settings.{ap, role_answers, role_asks, role_associates, station}
use Rattle.peer.specs.Record.{associates, awaiting_of, is_asked, is_free, is_joined, under_way}
use Rattle.peer.specs.declared.settings.Settings.{Settings}
use Rattle.peer.specs.declared.record.Record.{Record}
use Rattle.table.specs.Places.{all_of, has_link, some_of}
use Rattle.table.specs.Fit.{well_formed}
use Rattle.table.specs.Answer.{refusal_answer}
use Rattle.table.specs.Link.{count_in, device_in, given_in}
use Rattle.table.specs.Read.{for_us}
use Rattle.table.specs.declared.rules.answer.Stepped.{Stepped}
use Rattle.table.specs.declared.rules.event.Event.{Event}
use Rattle.table.specs.declared.rules.event.Event.TheVariants as event

-- None of the conditions holds.
abbrev pub NoneHolds : List (ℕ × Bool) → Type 0
NoneHolds l = all_of (λ r. not r.1) l ≡ true

-- n is the number of a condition that holds, and of those before it none does: "First that applies".
pub record First (n : ℕ) (l : List (ℕ × Bool)) : Type 0 where
  pub before : List (ℕ × Bool)
  pub after : List (ℕ × Bool)
  pub split : l ≡ before ++ ((n, true) ∷ after)
  pub none : NoneHolds before

-- A refusal k is given exactly when the list says so, and "0 means done" exactly when none of the list applies.
pub record Exactly (k : ℕ) (l : List (ℕ × Bool)) : Type 0 where
  pub refused : (k ≡ 0 → ⊥) → First k l
  pub refuses : {n : ℕ} → First n l → k ≡ n
  pub done : k ≡ 0 → NoneHolds l
  pub does : NoneHolds l → k ≡ 0

-- r comes of the table t and k of the buffer l: nothing but the refusal's number, "with everything else zero, verdict none, table and buffer
-- unchanged".
pub record Untouched (t : List Record) (l : List ℕ) (r : Stepped) (k : List ℕ) : Type 0 where
  pub answer : r.answer ≡ refusal_answer r.answer.refusal
  pub table : r.table ≡ t
  pub buffer : k ≡ l

-- A frame that has a class and version 0 goes on after step 2.
abbrev pub goes_on : List ℕ → Bool
goes_on xs = not (classless (class_of xs))

-- A received frame, 1 to 5: "Under 10 or over 4,096 bytes: 3"; "Below its least length: 3"; "Address 1 (octets 4-9) foreign: 4"; where it
-- is neither CTS nor ACK, "Address 2 (octets 10-15) invalid or own: 3". 02, K7, behind it: a (re)association response "whose elements do not end with
-- the frame".
abbrev pub read_refusals : ℕ → List ℕ → List (ℕ × Bool)
read_refusals own xs =
    (3, ltb (length xs) 10 || ltb 4096 (length xs))
    ∷ (3, goes_on xs && ltb (length xs) (least_of (field 1 0 xs)))
    ∷ (4, goes_on xs && not (for_us own (field 6 4 xs)))
    ∷ (3, goes_on xs && (not (is_bare (field 1 0 xs)) && (eqb (field 6 10 xs) own || not (valid_of (field 6 10 xs)))))
    ∷ (3, goes_on xs && (not (is_bare (field 1 0 xs)) && broken_of xs))
    ∷ []

-- A received frame, lent a buffer of n octets: "Refusals 1, 2", then as above.
abbrev pub frame_refusals : Settings → List Record → List ℕ → ℕ → List (ℕ × Bool)
frame_refusals s t xs n = (1, ltb n longest) ∷ (2, not (well_formed s t)) ∷ read_refusals s.own xs

-- What the table of primitives says of one: its number, for which role it is, which codes it takes.
pub data Who : Type 0 where
  at_station : Who
  at_ap : Who
  at_both : Who
  who_asks : Who
  who_answers : Who
  everyone : Who

pub data Codes : Type 0 where
  zero_only : Codes
  not_zero : Codes
  zero_or_one : Codes
  any : Codes

pub record Primitive : Type 0 where
  pub number : ℕ
  pub who : Who
  pub codes : Codes

-- "1 acknowledged, 0 not"; a status is any number
abbrev pub taken : Codes → ℕ → Bool
taken zero_only c = eqb c 0
taken not_zero c = not (eqb c 0)
taken zero_or_one c = leb c 1
taken any c = true

abbrev pub plays : Who → ℕ → Bool
plays at_station role = eqb role station
plays at_ap role = eqb role ap
plays at_both role = role_associates role
plays who_asks role = role_asks role
plays who_answers role = role_answers role
plays everyone role = true

-- 01, "Primitives from our own side", its table: number, for whom, codes; 02, K5: "a new primitive 11 (AP, code 0)"; 02, K10: "Authentication may
-- be asked by either end, by both roles' rules", "5 for primitives 4 to 11".
abbrev pub primitives : List Primitive
primitives =
    record { number = 1; who = who_asks; codes = zero_only }
    ∷ record { number = 2; who = who_answers; codes = any }
    ∷ record { number = 3; who = everyone; codes = not_zero }
    ∷ record { number = 4; who = at_station; codes = zero_only }
    ∷ record { number = 5; who = at_station; codes = zero_only }
    ∷ record { number = 6; who = at_both; codes = not_zero }
    ∷ record { number = 7; who = at_ap; codes = any }
    ∷ record { number = 8; who = at_ap; codes = any }
    ∷ record { number = 9; who = at_both; codes = zero_only }
    ∷ record { number = 10; who = at_ap; codes = zero_or_one }
    ∷ record { number = 11; who = at_ap; codes = zero_only }
    ∷ []

-- Some line of that table has this number and passes a test.
abbrev pub row : ℕ → (Primitive → Bool) → Bool
row q f = some_of (λ r. eqb q r.number && f r) primitives

-- Some record of the table is this peer's and passes a test; some other record passes it.
abbrev pub peer_has : List Record → ℕ → (Record → Bool) → Bool
peer_has t a f = some_of (λ p. eqb p.address a && f p) t

abbrev pub other_has : List Record → ℕ → (Record → Bool) → Bool
other_has t a f = some_of (λ p. not (eqb p.address a) && f p) t

-- 3: "unknown primitive; peer address invalid or own; code not allowed"; 02, K11: "a link address named in a primitive"
abbrev pub not_to_be_asked : Settings → List Record → ℕ → ℕ → ℕ → Bool
not_to_be_asked s t q a c =
    not (row q (λ r. true)) || (not (valid_of a) || (eqb a s.own || (row q (λ r. not (taken r.codes c)) || some_of (has_link a) t)))

abbrev pub has_exchange : Record → Bool
has_exchange p = not (eqb (under_way p.exchange) 0)

-- 9: "an exchange already under way". 1: "if this record has an exchange"; 4, 5: "if this record has an exchange or any has a (re)association".
abbrev pub under_way_already : List Record → ℕ → ℕ → Bool
under_way_already t q a =
    (eqb q 1 && peer_has t a has_exchange)
    || ((eqb q 4 || eqb q 5) && (peer_has t a has_exchange || some_of associates t))

-- 7: "the primitive finds no matching exchange or state". 2, 7, 8: "unless that is asked"; 4: "if another record is in State 3 or 4";
-- 9: "State 3 to 4; State 4 kept; else 7"; 10: "unless awaited". 02, K5: "7 for primitive 11 without a query due".
abbrev pub no_match : List Record → ℕ → ℕ → Bool
no_match t q a =
    (eqb q 2 && not (peer_has t a (λ p. is_asked Authentication p.exchange)))
    || ((eqb q 4 && other_has t a is_joined)
    || ((eqb q 7 && not (peer_has t a (λ p. is_asked Association p.exchange)))
    || ((eqb q 8 && not (peer_has t a (λ p. is_asked Reassociation p.exchange)))
    || ((eqb q 9 && not (peer_has t a is_joined))
    || ((eqb q 10 && not (peer_has t a (λ p. not (eqb (awaiting_of p.exchange) 0))))
    || (eqb q 11 && not (peer_has t a (λ p. is_due p.query))))))))

-- 8: "the hold on this peer is above 0", for 4 and 5
abbrev pub peer_held : List Record → ℕ → ℕ → Bool
peer_held t q a = (eqb q 4 || eqb q 5) && peer_has t a (λ p. ltb 0 p.hold)

-- 6: "a new record is needed by a primitive and no place is free". "Only 1 makes a record."
abbrev pub no_room : List Record → ℕ → ℕ → Bool
no_room t q a = eqb q 1 && (not (peer_has t a (λ p. true)) && not (some_of is_free t))

-- "primitives 1, 2, 3, 5, 9, 7, 8, 6"
abbrev pub ask_refusals : Settings → List Record → ℕ → ℕ → ℕ → ℕ → List (ℕ × Bool)
ask_refusals s t q a c n =
    (1, ltb n longest)
    ∷ (2, not (well_formed s t))
    ∷ (3, not_to_be_asked s t q a c)
    ∷ (5, row q (λ r. not (plays r.who s.role)))
    ∷ (9, under_way_already t q a)
    ∷ (7, no_match t q a)
    ∷ (8, peer_held t q a)
    ∷ (6, no_room t q a)
    ∷ []

-- 02, K11, primitive 12: "3 for an address invalid, own, ..
abbrev pub unfit_address : Settings → ℕ → Bool
unfit_address s a = not (valid_of a) || eqb a s.own

-- .. given twice ..
unfoldable pub twice : List ℕ → Bool
twice [] = false
twice (a ∷ later) = some_of (eqb a) later || twice later

-- .. or in use elsewhere": another record than the device's has it, as its own address or as a link
abbrev pub elsewhere : List Record → ℕ → ℕ → Bool
elsewhere t device a = other_has t device (λ p. eqb p.address a || has_link a p)

-- "a count over 4, or a link address named in a primitive"; and octets that are not 7 + 6 × count
abbrev pub not_to_be_linked : Settings → List Record → List ℕ → Bool
not_to_be_linked s t xs =
    ltb 4 (count_in xs)
    || (not (eqb (length xs) (7 + 6 * count_in xs))
    || (some_of (unfit_address s) (device_in xs ∷ given_in xs)
    || (twice (device_in xs ∷ given_in xs)
    || (some_of (elsewhere t (device_in xs)) (given_in xs)
    || some_of (has_link (device_in xs)) t))))

-- "Order 1, 2, 3, 5, 7, 6": "5 away from an access point; 7 outside State 1; 6 without a place"; count 0 "makes no record"
abbrev pub link_refusals : Settings → List Record → List ℕ → ℕ → List (ℕ × Bool)
link_refusals s t xs n =
    (1, ltb n longest)
    ∷ (2, not (well_formed s t))
    ∷ (3, not_to_be_linked s t xs)
    ∷ (5, not (eqb s.role ap))
    ∷ (7, peer_has t (device_in xs) (λ p. not (eqb p.state 1)))
    ∷ (6, not (eqb (count_in xs) 0) && (not (peer_has t (device_in xs) (λ p. true)) && not (some_of is_free t)))
    ∷ []

-- "clock 1, 2, 3": "(256 for a clock step)", "clock step 0"
abbrev pub clock_refusals : Settings → List Record → ℕ → ℕ → List (ℕ × Bool)
clock_refusals s t d n = (1, ltb n 256) ∷ (2, not (well_formed s t)) ∷ (3, eqb d 0) ∷ []

-- "First that applies: primitives 1, 2, 3, 5, 9, 7, 8, 6; frames as in the next section; clock 1, 2, 3."
abbrev pub refusals_of : Settings → List Record → Event → List ℕ → ℕ → List (ℕ × Bool)
refusals_of s t event.Frame xs n = frame_refusals s t xs n
refusals_of s t (event.Ask q a c) xs n = ask_refusals s t q a c n
refusals_of s t event.Links xs n = link_refusals s t xs n
refusals_of s t (event.Clock d) xs n = clock_refusals s t d n
