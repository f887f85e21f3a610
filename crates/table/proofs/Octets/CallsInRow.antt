-- Calls in a row over a host's octets give what the steps give over its records.
-- Assumes nothing.
use Prim.Native.Nat.{ℕ, zero, suc, ◌^◌, ◌≤◌, ◌<◌}
use mathlib.Core.Path.{◌≡◌, refl, ap, sym, ◌∙◌}
use mathlib.Core.Bool.{Bool, true, false, not}
use mathlib.Core.List.{List, [], ◌∷◌, ◌++◌}
use native.Mathlib.Omega.{arith}
use lib.Dec.{ltb}
use lib.ListN.{length, replicate}
use borrow.Author.Tests.{ltb-false, ltb-true}
use Rattle.octets.proofs.Branch.{by_bool}
use Rattle.octets.proofs.RowTrip.{Octets}
use Rattle.octets.specs.Frame.{longest}
use Rattle.octets.specs.Pick.{pick}
use Rattle.octets.specs.Field.{all_octets, field, octets}
use Rattle.octets.proofs.AnswerTrip.{answer_back}
use Rattle.octets.specs.Row.{row_at}
use Rattle.peer.proofs.Fits.{both}
use Rattle.peer.specs.declared.record.Record.{Record}
use Rattle.peer.specs.declared.settings.Settings.{Settings}
use Rattle.table.specs.Answer.{refusal_answer}
use Rattle.table.specs.Boundary.{answer_in, crossed_of, edition_in, maximum_in, retry_in, settings_in, settings_length}
use Rattle.table.specs.Calls.{Call, Told, called, stepped, framed, InRow, CallsInRow, LeavesTable, CallSaid}
use Rattle.table.specs.Exactly.{refusals_of}
use Rattle.table.specs.Fit.{well_formed}
use Rattle.table.specs.Host.{host_answer, host_table, host_in}
use Rattle.table.specs.Lent.{room_of}
use Rattle.table.specs.Marked.{as_ap, authentication_request, them, us}
use Rattle.table.specs.Order.{end, answers}
use Rattle.table.specs.Places.{all_tails, all_of}
use Rattle.table.specs.Refusals.{first_of}
use Rattle.table.specs.Rows.{is_table, numbered_at, octets_of, query_numbered, records_of, row_numbered}
use Rattle.table.specs.Step.{step_of}
use Rattle.table.specs.Written.{most_of}
use Rattle.table.proofs.Octets.RecordTrip.{octets_table, fitting_of_well, well_trip}
use Rattle.table.proofs.Octets.RowLaws.{length_records, octets_of_records}
use Rattle.table.specs.declared.rules.event.Event.{Event}
use Rattle.table.specs.declared.rules.event.Event.TheVariants as event
use Rattle.table.proofs.Theorems.RefusedExactly.{refusal_first}
use Rattle.table.proofs.Theorems.RefusedKeeps.{refused_keeps}
use Rattle.table.proofs.Theorems.SaidBack.{step_said}
use Rattle.table.proofs.Theorems.WrittenCount.{written_count}
use Rattle.table.proofs.Theorems.StepKeeps.{step_keeps}

-- ---- one call

-- a list whose second condition holds has a first
early : {ok : Bool} (short : Bool) (rest : List (ℕ × Bool)) → ok ≡ false → first_of ((1, short) ∷ (2, not ok) ∷ rest) ≡ 0 → ⊥
unfolding first_of
early true rest w h = let z : ◌≡◌ {A = ℕ} 1 0 = h in omega arith
early false rest w h = let z : ◌≡◌ {A = ℕ} 2 0 = rw w at h in omega arith

-- settings or table that are not well formed are refused, whatever the event
pub ill_refused : (s : Settings) (t : List Record) (e : Event) (fs : List ℕ) (n : ℕ) → well_formed s t ≡ false → (step_of s t e fs n).answer.refusal ≡ 0 → ⊥
ill_refused s t e fs n w h = no e (sym (refusal_first s t e fs n) ∙ h)
  where
    no : (e : Event) → first_of (refusals_of s t e fs n) ≡ 0 → ⊥
    no event.Frame h = early (ltb n longest) _ w h
    no (event.Ask q a c) h = early (ltb n longest) _ w h
    no event.Links h = early (ltb n longest) _ w h
    no (event.Clock d) h = early (ltb n 256) _ w h

-- what the step leaves goes to octets and back, and its octets are a table
record Trip (ss xs : List ℕ) (c : Call) : Type 0 where
  back : records_of (octets_of (stepped ss (records_of xs) c).0) ≡ (stepped ss (records_of xs) c).0
  still : is_table (octets_of (stepped ss (records_of xs) c).0) ≡ true

-- the table after a step of a well-formed one is as it must be
abbrev pub Keeps : Settings → List ℕ → Call → Type 0
Keeps s xs c =
    well_formed s (records_of xs) ≡ true
    → (well_formed s (step_of s (records_of xs) c.event c.frame (length c.out)).table ≡ true)
    × (length (step_of s (records_of xs) c.event c.frame (length c.out)).table ≡ 32)

module _ (ss xs : List ℕ) (c : Call) (h : is_table xs ≡ true) (round : octets_of (records_of xs) ≡ xs) where
  abbrev short : Bool
  short = ltb (length c.room) 24

  called_is : called ss xs c ≡ (octets_of (stepped ss (records_of xs) c).0, (stepped ss (records_of xs) c).1)
  unfolding called stepped crossed_of host_table host_answer host_in
  called_is = by_bool short (λ k. rw (k, round)) (λ k. rw (k, h))

  trips : Keeps (settings_in ss) xs c → Trip ss xs c
  unfolding stepped
  trips keeps = by_bool short
      (λ k. record { back = rw (k, round); still = rw (k, round) h })
      (λ k. by_bool (well_formed (settings_in ss) (records_of xs))
      (λ w.
      let kept = keeps w in
      record { back = rw k (well_trip (settings_in ss) _ kept.0 kept.1); still = rw k (octets_table _ kept.1 (fitting_of_well (settings_in ss) _ kept.0)) })
      (λ w.
      let e = (refused_keeps (settings_in ss) (records_of xs) c.event c.frame c.out (ill_refused (settings_in ss) (records_of xs) c.event c.frame (length c.out) w)).table in
      record { back = rw (k, e, round); still = rw (k, e, round) h }))

-- ---- calls in a row, of anything that stands for a call

module _ {E : Type 0} (ss : List ℕ) (call : E → Call) where
  abbrev over : List ℕ → E → List ℕ × Told
  over xs e = called ss xs (call e)

  abbrev under : List Record → E → List Record × Told
  under t e = stepped ss t (call e)

  pub record Row (xs : List ℕ) (l : List E) : Type 0 where
    pub octets : end over xs l ≡ octets_of (end under (records_of xs) l)
    records : records_of (end over xs l) ≡ end under (records_of xs) l
    pub gets : answers over xs l ≡ answers under (records_of xs) l
    table : is_table (end over xs l) ≡ true

  module _ (ok : E → Bool) (keeps : (xs : List ℕ) (e : E) → ok e ≡ true → Keeps (settings_in ss) xs (call e)) where
    pub in_row : (l : List E) (xs : List ℕ) → is_table xs ≡ true → octets_of (records_of xs) ≡ xs → all_of ok l ≡ true → Row xs l
    unfolding all_tails
    in_row [] xs h round o = record { octets = sym round; records = refl; gets = refl; table = h }
    in_row (e ∷ l) xs h round o =
        let k = both (ok e) _ o in
        let trip = trips ss xs (call e) h round (keeps xs e k.0) in
        let rest = in_row l (octets_of (under (records_of xs) e).0) trip.still (ap octets_of trip.back) k.1 in
        let is = called_is ss xs (call e) h round in
        record {
          octets = rw is (rw trip.back at rest.octets);
          records = rw is (rw trip.back at rest.records);
          gets = rw is (rw trip.back at (ap (λ (more : List Told). (under (records_of xs) e).1 ∷ more) rest.gets));
          table = rw is rest.table;
        }

pub each_octet : (xs : List ℕ) → all_octets xs ≡ true → Octets xs
each_octet [] h i = omega arith
each_octet (x ∷ xs) h zero = ltb-true x 256 (both (ltb x 256) _ h).0
each_octet (x ∷ xs) h (suc i) = each_octet xs (both (ltb x 256) _ h).1 i

step_well : (s : Settings) (xs : List ℕ) (c : Call) → framed c ≡ true → Keeps s xs c
step_well s xs c f w = step_keeps s (records_of xs) w (length_records 32 0 xs) c.event c.frame f (length c.out)

pub calls_in_a_row : (ss : List ℕ) → CallsInRow ss
calls_in_a_row ss xs l h o f =
    let r = in_row ss (λ (c : Call). c) framed (step_well (settings_in ss)) l xs h (octets_of_records xs (each_octet xs o) h) f in
    record { octets = r.octets; records = r.records; gets = r.gets; table = r.table }

-- ---- one call that is not refused

-- octets that are no table are refused, whatever the buffer
no_table_refused : (short : Bool) → (pick short (refusal_answer 1) (refusal_answer 2)).refusal ≡ 0 → ⊥
no_table_refused true z = let e : ◌≡◌ {A = ℕ} 1 0 = z in omega arith
no_table_refused false z = let e : ◌≡◌ {A = ℕ} 2 0 = z in omega arith

-- there was room for its answer, its octets are a table, and its settings and records are well formed
record Taken (ss xs : List ℕ) (c : Call) : Type 0 where
  roomy : ltb (length c.room) 24 ≡ false
  whole : is_table xs ≡ true
  well : well_formed (settings_in ss) (records_of xs) ≡ true

taken : (ss xs : List ℕ) (c : Call) → (called ss xs c).1.result ≡ 0 → Taken ss xs c
unfolding called crossed_of host_answer
taken ss xs c z = by_bool (ltb (length c.room) 24)
    (λ k. absurd (no_table_refused true (rw k at z)))
    (λ k. by_bool (is_table xs)
    (λ h. by_bool (well_formed (settings_in ss) (records_of xs))
    (λ w. record { roomy = k; whole = h; well = w })
    (λ w. absurd (ill_refused (settings_in ss) (records_of xs) c.event c.frame (length c.out) w (rw (k, h) at z))))
    (λ h. absurd (no_table_refused (ltb (length c.out) (room_of c.event)) (rw (k, h) at z))))

-- A call that is not refused leaves a table again, and its records are well formed.
pub leaves_table : (ss : List ℕ) → LeavesTable ss
unfolding called crossed_of host_table
leaves_table ss xs c f z =
    let t = taken ss xs c z in
    let k = step_well (settings_in ss) xs c f t.well in
    let back = well_trip (settings_in ss) _ k.0 k.1 in
    rw (t.roomy, t.whole) (octets_table _ k.1 (fitting_of_well (settings_in ss) _ k.0), rw back k.0)

-- Each frame that a call writes is heard at the other end as the one meant: its addresses, its kind and every field (specs/Meant.antt).
pub call_said : (ss : List ℕ) → CallSaid ss
unfolding called crossed_of host_answer host_in
call_said ss xs c k z w =
    let t = taken ss xs c z in
    let s = settings_in ss in
    let a = (step_of s (records_of xs) c.event c.frame (length c.out)).answer in
    let few = (written_count s (records_of xs) c.event c.frame c.out (length_records 32 0 xs)).few in
    let count : field 2 10 (answer_in a c.room) ≡ a.written =
    (answer_back a.current a.code a.written a.refusal a.verdict a.notice a.ds a.state c.room (ltb-false _ _ t.roomy)).written (low c.event few) in
    rw (t.roomy, t.whole, count) (step_said s (records_of xs) (length_records 32 0 xs) c.event c.frame c.out k (rw (t.roomy, t.whole, count) at w))
  where
    low : (e : Event) {n : ℕ} → n ≤ most_of e → n < 2 ^ 16
    low event.Frame h = omega (arith, h)
    low (event.Ask q a c) h = omega (arith, h)
    low event.Links h = omega (arith, h)
    low (event.Clock d) h = omega (arith, h)

-- What the theorems ask for is met: the table that a host starts with, a device with two links, and the frame and the primitive of its first
-- authentication.
empty : List ℕ
empty = replicate 1536 0

-- an access point in octets: role 1, address 02:00:00:00:00:01, no RSNA, timeouts of 100 TU
pub access_point_lem : List ℕ
access_point_lem = 1 ∷ octets 6 us ++ 0 ∷ octets 2 100 ++ octets 2 100

pub example_settings : settings_in access_point_lem ≡ as_ap
unfolding settings_in settings_length edition_in retry_in maximum_in octets access_point_lem
example_settings = refl

example_calls : List Call
example_calls =
    record { event = event.Links; frame = octets 6 them ++ (2 ∷ octets 6 6 ++ octets 6 8); out = replicate 256 0; room = replicate 24 0 }
    ∷ record { event = event.Frame; frame = authentication_request; out = replicate 256 0; room = replicate 24 0 }
    ∷ record { event = event.Ask 2 them 0; frame = []; out = replicate 256 0; room = replicate 24 0 }
    ∷ []

example_row : InRow access_point_lem empty example_calls
unfolding is_table numbered_at row_numbered query_numbered row_at octets all_tails empty example_calls
example_row = calls_in_a_row access_point_lem empty example_calls refl refl refl
