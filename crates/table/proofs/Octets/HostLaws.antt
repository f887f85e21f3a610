-- What the calls over octets promise, case by case: each refusal, and an event that acts.
-- Assumes nothing.
use mathlib.Core.Path.{◌≡◌, refl, ap, sym, ◌∙◌}
use mathlib.Core.Bool.{Bool, true, false, not, ◌&&◌}
use mathlib.Core.List.{List, [], ◌∷◌}
use Prim.Native.Nat.{ℕ, ◌<◌, ◌≤◌}
use native.Mathlib.Omega.{arith}
use lib.Dec.{eqb, leb}
use lib.ListN.{length}
use borrow.Author.Tests.{lt-ltb, le-ltb, leb-true, eq-eqb, ne_eqb}
use lib.Seq.{sets}
use Rattle.octets.proofs.Branch.{by_bool, and_left}
use Rattle.octets.proofs.RowTrip.{Octets}
use Rattle.octets.specs.Address.{valid_of}
use Rattle.octets.specs.Links.{links_of}
use Rattle.peer.specs.Settings.{role_associates}
use Rattle.peer.specs.declared.settings.Settings.{Settings}
use Rattle.peer.specs.declared.record.Record.{Record}
use Rattle.peer.specs.declared.refuse.Others.{Others}
use Rattle.peer.specs.declared.turn.Turn.{Turn}
use Rattle.table.specs.Ask.{asked_at, asked_of, no_place, refusals_at}
use Rattle.table.specs.Answer.{refusal_answer, count_answer, said_length, said_in, stepped_of}
use Rattle.table.specs.Exactly.{refusals_of}
use Rattle.table.specs.Fit.{distinct_of, well_formed}
use Rattle.table.specs.Host.{host_answer, host_table, host_in}
use Rattle.table.specs.Lent.{room_of}
use Rattle.table.specs.Link.{count_fits, count_in, device_in, given_in, link_allowed, link_refusals, linked_at, linked_of, links_in, may_link}
use Rattle.table.specs.Pass.{clocked_of, reports_of, passed_of, passed_in}
use Rattle.table.specs.Places.{addresses_of, all_of, find_link_of, find_of, is_found, on_found}
use Rattle.table.specs.Read.{read_of}
use Rattle.table.specs.Receive.{heard_at, received_of}
use Rattle.table.specs.Refusals.{first_of, unless}
use Rattle.table.specs.Rows.{numbered_at, records_of, octets_of, is_table}
use Rattle.table.specs.Seat.{met_of, turn_in}
use Rattle.table.specs.Step.{step_of, step_in}
use Rattle.table.specs.declared.rules.answer.Answer.{Answer}
use Rattle.table.specs.declared.rules.answer.Met.{Met}
use Rattle.std.specs.Prelude.{Option, Some, None}
use Rattle.table.specs.declared.rules.seat.Change.{Change}
use Rattle.table.specs.declared.rules.event.Event.{Event}
use Rattle.table.specs.declared.rules.event.Event.TheVariants as event
use Rattle.table.proofs.Theorems.RefusedExactly.{refusal_first}
use Rattle.table.proofs.Theorems.RefusedKeeps.{refused_keeps}
use Rattle.table.proofs.Octets.RowLaws.{octets_of_records}

-- with room, settings or a table that are not well formed are refusal 2
pub refused_2 : (s : Settings) (t : List Record) → well_formed s t ≡ false → (e : Event) (fs : List ℕ) (n : ℕ) → room_of e ≤ n → first_of (refusals_of s t e fs n) ≡ 2
unfolding first_of
refused_2 s t w event.Frame fs n r = rw (le-ltb _ _ r, w)
refused_2 s t w (event.Ask q a c) fs n r = rw (le-ltb _ _ r, w)
refused_2 s t w event.Links fs n r = rw (le-ltb _ _ r, w)
refused_2 s t w (event.Clock d) fs n r = rw (le-ltb _ _ r, w)

module _ (xs : List ℕ) (s : Settings) (e : Event) (fs l : List ℕ) where
  abbrev t : List Record
  t = records_of xs

  -- an answer, octets and a buffer that are the call's
  abbrev pub Gives : Answer → List ℕ → List ℕ → Type 0
  Gives a ys k = (a ≡ host_answer xs s e fs l) × (ys ≡ host_table xs s e fs l) × (k ≡ host_in xs s e fs l)

  -- octets that are no table
  pub no_table : is_table xs ≡ false → room_of e ≤ length l → Gives (refusal_answer 2) xs l
  unfolding host_answer host_table host_in
  no_table i r = rw (i, le-ltb (length l) (room_of e) r) (refl, refl, refl)

  module _ (h : Octets xs) where
    -- a refusal of the step over records
    pub refuses : is_table xs ≡ true → (n : ℕ) → first_of (refusals_of s t e fs (length l)) ≡ n → (n ≡ 0 → ⊥) → Gives (refusal_answer n) xs l
    unfolding host_answer host_table host_in
    refuses i n f z =
        let r : (step_of s t e fs (length l)).answer.refusal ≡ n = refusal_first s t e fs (length l) ∙ f in
        let u = refused_keeps s t e fs l (λ q. z (sym r ∙ q)) in
        rw i (sym (u.answer ∙ ap refusal_answer r), sym (ap octets_of u.table ∙ octets_of_records xs h i), sym u.buffer)

    -- a buffer that is too short
    pub no_room : length l < room_of e → Gives (refusal_answer 1) xs l
    unfolding host_answer host_table host_in first_of
    no_room r = by_bool (is_table xs) (λ i. refuses i 1 (first e r) (λ z. omega (arith, z))) (λ i. rw (i, lt-ltb (length l) (room_of e) r) (refl, refl, refl))
      where
        first : (e : Event) → length l < room_of e → first_of (refusals_of s t e fs (length l)) ≡ 1
        first event.Frame r = rw (lt-ltb _ _ r)
        first (event.Ask q a c) r = rw (lt-ltb _ _ r)
        first event.Links r = rw (lt-ltb _ _ r)
        first (event.Clock d) r = rw (lt-ltb _ _ r)

    -- settings or a table that are not well formed
    pub ill_formed : length xs ≡ 1536 → room_of e ≤ length l → (numbered_at 32 0 xs && well_formed s t) ≡ false → Gives (refusal_answer 2) xs l
    unfolding is_table
    ill_formed n r w = by_bool (numbered_at 32 0 xs)
        (λ m. refuses (rw (eq-eqb (length xs) 1536 n, m)) 2 (refused_2 s t (rw m at w) e fs (length l) r) (λ z. omega (arith, z)))
        (λ m. no_table (rw (eq-eqb (length xs) 1536 n, m)) r)

  -- an event that makes a change
  pub acts : is_table xs ≡ true → (c : Change) (m : Met) → met_of t c ≡ m → step_of s t e fs (length l) ≡ stepped_of m (length l) → step_in s t e fs l ≡ said_in m.reply l
      → Gives (count_answer c.answer (said_length c.reply (length l))) (octets_of (met_of t c).table) (said_in c.reply l)
  unfolding host_answer host_table host_in stepped_of met_of
  acts i c m em es ei = rw (i, es, ei, ← em) (refl, refl, refl)

-- Whether links may be named: by what is asked of the octets and where the device is a link, then link by link.
module _ (s : Settings) (t : List Record) (ads : List ℕ) (at : Option ℕ) (fs : List ℕ) where
  abbrev each : Bool
  each = all_of (λ l. link_allowed s at (find_of ads l) (find_link_of t l) l) (given_in fs)

  abbrev named : Bool
  named =
      count_fits fs
      && (valid_of (device_in fs)
      && (not (eqb (device_in fs) s.own)
      && (not (is_found (find_link_of t (device_in fs))) && distinct_of (device_in fs ∷ links_of (links_in fs)))))

  last : (a b c d e f : Bool) → (a && (b && (c && (d && (e && f))))) ≡ ((a && (b && (c && (d && e)))) && f)
  last false b c d e f = refl
  last true false c d e f = refl
  last true true false d e f = refl
  last true true true false e f = refl
  last true true true true e f = refl

  pub may_link_by : (b : Bool) → b ≡ named → may_link s t ads at fs ≡ (b && each)
  unfolding may_link
  may_link_by b e =
      last (count_fits fs) (valid_of (device_in fs)) (not (eqb (device_in fs) s.own)) (not (is_found (find_link_of t (device_in fs)))) (distinct_of (device_in fs ∷ links_of (links_in fs))) each
      ∙ ap (λ z. z && each) (sym e)

  pub named_few : named ≡ true → count_in fs ≤ 4
  unfolding count_fits
  named_few h = leb-true (count_in fs) 4 (and_left (leb (count_in fs) 4) _ (and_left (count_fits fs) _ h))

-- Which place is free is asked only for a peer without a record.
abbrev vacant : Option ℕ → Option ℕ → Option ℕ
vacant at f = on_found at f (λ i. None)

pub vacant_turn : (t : List Record) (at f : Option ℕ) (turn full : Turn) → turn_in t at (vacant at f) turn full ≡ turn_in t at f turn full
vacant_turn t None f turn full = refl
vacant_turn t (Some i) f turn full = refl

pub vacant_refusal : (s : Settings) (p : Record) (o : Others) (at f link : Option ℕ) (q a c : ℕ) → first_of (refusals_at s p o at (vacant at f) link q a c) ≡ first_of (refusals_at s p o at f link q a c)
unfolding no_place
vacant_refusal s p o None f link q a c = refl
vacant_refusal s p o (Some i) f link q a c = refl

pub vacant_links : (s : Settings) (p : Record) (may : Bool) (at f : Option ℕ) (count : ℕ) → first_of (link_refusals s p may at (vacant at f) count) ≡ first_of (link_refusals s p may at f count)
vacant_links s p may None f count = refl
vacant_links s p may (Some i) f count = refl

pub rows_table : (s : Settings) (xs : List ℕ) → length xs ≡ 1536 → (numbered_at 32 0 xs && well_formed s (records_of xs)) ≡ true → is_table xs ≡ true
unfolding is_table
rows_table s xs n w = rw (eq-eqb (length xs) 1536 n, and_left (numbered_at 32 0 xs) (well_formed s (records_of xs)) w)

-- A clock step over a table that is well formed.
module _ (xs : List ℕ) (s : Settings) (d : ℕ) (l : List ℕ) (i : is_table xs ≡ true) (w : well_formed s (records_of xs) ≡ true) (r : 256 ≤ length l) where
  pub no_step : Octets xs → d ≡ 0 → Gives xs s (event.Clock d) [] l (refusal_answer 3) xs l
  unfolding first_of
  no_step h z = refuses xs s (event.Clock d) [] l h i 3 (rw (le-ltb _ _ r, w, eq-eqb d 0 z)) (λ q. omega (arith, q))

  pub passes : (d ≡ 0 → ⊥) → Gives xs s (event.Clock d) [] l (count_answer (refusal_answer 0) (clocked_of s (records_of xs) d).written) (octets_of (clocked_of s (records_of xs) d).table) (sets l 0 (reports_of s d 0 (records_of xs)))
  unfolding host_answer host_table host_in passed_of passed_in first_of
  passes z = rw (i, le-ltb _ _ r, w, ne_eqb d 0 z) (refl, refl, refl)

-- A frame, a primitive and a device's links over records that are well formed, with room: what is left of the definitions.
module _ (s : Settings) (t : List Record) where
  pub frame_heard : (fs : List ℕ) (n : ℕ) → 37 ≤ n → well_formed s t ≡ true → heard_at s t (addresses_of t) (read_of s.own (role_associates s.role) fs) ≡ received_of s t fs n
  unfolding received_of
  frame_heard fs n r w = rw (le-ltb n 37 r, w)

  pub primitive_asked : (q a c n : ℕ) → 37 ≤ n → well_formed s t ≡ true → asked_at s t (addresses_of t) q a c ≡ asked_of s t q a c n
  unfolding asked_of unless first_of
  primitive_asked q a c n r w = rw (le-ltb n 37 r, w)

  pub links_named : (fs : List ℕ) (n : ℕ) → 37 ≤ n → well_formed s t ≡ true → linked_at s t (addresses_of t) fs ≡ linked_of s t fs n
  unfolding linked_of unless first_of
  links_named fs n r w = rw (le-ltb n 37 r, w)

pub not_long : (xs : List ℕ) → (length xs ≡ 1536 → ⊥) → is_table xs ≡ false
unfolding is_table
not_long xs h = rw (ne_eqb (length xs) 1536 h)
