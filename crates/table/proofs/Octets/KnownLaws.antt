-- Laws of what is known of settings and table (specs/Run.antt): from the check, or without it of a table that is sound; and that it stays known
-- behind every event.
-- Assumes nothing.
use Prim.Native.Nat.{ℕ, zero, suc, ◌≤◌}
use mathlib.Core.Path.{◌≡◌, refl, sym, ap, ◌∙◌}
use mathlib.Core.Bool.{Bool, true, false, not, ◌&&◌, ◌||◌}
use mathlib.Core.List.{List, [], ◌∷◌}
use lib.Dec.{eqb, leb, ltb}
use lib.ListN.{drop, length, take}
use borrow.Author.Tests.{eq-eqb, lt-ltb}
use Rattle.octets.proofs.Branch.{and_right, by_bool, pick_both}
use Rattle.octets.proofs.RowTrip.{Octets}
use Rattle.octets.specs.Field.{all_octets, field}
use Rattle.octets.specs.Links.{no_links}
use Rattle.octets.specs.declared.links.Links.{Links}
use Rattle.peer.proofs.Fits.{both, clash}
use Rattle.peer.proofs.Links.{tick_links}
use Rattle.peer.specs.Settings.{settings_fit}
use Rattle.peer.specs.declared.record.Record.{Record}
use Rattle.peer.specs.declared.settings.Settings.{Settings}
use Rattle.table.specs.Answer.{refusal_answer, stepped_of}
use Rattle.table.specs.Fit.{well_formed}
use Rattle.table.specs.Host.{host_table}
use Rattle.table.specs.Input.{body_of, size_of}
use Rattle.table.specs.Lent.{room_of}
use Rattle.table.specs.Pass.{after_of, clocked_of, pass_refusals, passed_of}
use Rattle.table.specs.Places.{some_of}
use Rattle.table.specs.Refusals.{first_of}
use Rattle.table.specs.Rows.{is_table, linked_in, links_over, numbered_at, octets_of, records_of}
use Rattle.table.specs.Run.{Knows, Sound}
use Rattle.table.specs.Ruled.{naming}
use Rattle.table.specs.Step.{step_of}
use Rattle.table.specs.declared.rules.answer.Stepped.{Stepped}
use Rattle.table.specs.declared.rules.event.Event.{Event}
use Rattle.table.specs.declared.rules.event.Event.TheVariants as event
use Rattle.table.proofs.Octets.CallsInRow.{each_octet, ill_refused}
use Rattle.table.proofs.Octets.HostLaws.{Gives, ill_formed, no_table, not_long}
use Rattle.table.proofs.Octets.RecordTrip.{fitting_of_well, octets_table, well_trip}
use Rattle.table.proofs.Octets.RowLaws.{length_records, octets_of_records, table_long}
use Rattle.table.proofs.Passes.Lists.{map_same}
use Rattle.table.proofs.Theorems.LinksStay.{asked_links, received_links}
use Rattle.table.proofs.Theorems.RefusedKeeps.{refused_keeps}
use Rattle.table.proofs.Theorems.StepKeeps.{step_keeps}
use Rattle.table.proofs.Theorems.Well.{well_of}

pub all_octets_lem : (xs : List ℕ) → Octets xs → all_octets xs ≡ true
all_octets_lem [] h = refl
all_octets_lem (x ∷ xs) h = rw (lt-ltb x 256 (h zero), all_octets_lem xs (λ i. h (suc i)))

all_drop : (a : ℕ) (xs : List ℕ) → all_octets xs ≡ true → all_octets (drop a xs) ≡ true
all_drop zero xs h = h
all_drop (suc a) [] h = refl
all_drop (suc a) (x ∷ xs) h = all_drop a xs (both (ltb x 256) _ h).1

all_take : (n : ℕ) (xs : List ℕ) → all_octets xs ≡ true → all_octets (take n xs) ≡ true
all_take zero xs h = refl
all_take (suc n) [] h = refl
all_take (suc n) (x ∷ xs) h =
    let k = both (ltb x 256) _ h in
    rw (k.0, all_take n xs k.1)

pub all_body : (rs : List ℕ) → all_octets rs ≡ true → all_octets (body_of rs) ≡ true
unfolding body_of
all_body rs h = pick_both (λ (l : List ℕ). all_octets l ≡ true) (leb (size_of rs) (length rs)) (all_take (field 2 3 rs) (drop 5 rs) (all_drop 5 rs h)) refl

-- ---- what is known at the start

module _ (s : Settings) (xs : List ℕ) where
  pub known_none : (length xs ≡ 1536 → ⊥) → Knows s xs false false
  known_none h = record { told = rw (not_long xs h); links = λ z. clash z refl }

  pub known_checked : length xs ≡ 1536 → (well linked : Bool) → well ≡ (numbered_at 32 0 xs && well_formed s (records_of xs)) → (well ≡ true → linked ≡ linked_in (records_of xs)) → Knows s xs well linked
  unfolding is_table
  known_checked n well linked e l = record { told = rw (eq-eqb (length xs) 1536 n) e; links = l }

  pub known_sure : {well linked : Bool} → Knows s xs well linked → well ≡ true → (is_table xs ≡ true) × (well_formed s (records_of xs) ≡ true)
  known_sure k h = both (is_table xs) (well_formed s (records_of xs)) (sym k.told ∙ h)

-- settings that do not fit
pub unfit_ill : (s : Settings) (t : List Record) → settings_fit s ≡ false → well_formed s t ≡ false
unfolding well_formed
unfit_ill s t f = rw f

pub known_sound : (s : Settings) (xs : List ℕ) (well linked : Bool) → Sound s xs → well ≡ settings_fit s → (length xs ≡ 1536 → linked ≡ linked_in (records_of xs)) → Knows s xs well linked
known_sound s xs well linked h e l = record {
  told = e ∙ by_bool (settings_fit s) (λ f. rw (f, h.table, h.well f)) (λ f. rw (f, h.table, unfit_ill s (records_of xs) f));
  links = λ w. l (table_long xs h.table);
}

-- ---- a call by what is known

module _ (xs : List ℕ) (s : Settings) (e : Event) (fs l : List ℕ) where
  -- settings or octets that are not well formed
  pub call_ill : Octets xs → (is_table xs && well_formed s (records_of xs)) ≡ false → room_of e ≤ length l → Gives xs s e fs l (refusal_answer 2) xs l
  unfolding is_table
  call_ill o h r = by_bool (is_table xs)
      (λ i. ill_formed xs s e fs l o (table_long xs i) r (rw (and_right (eqb (length xs) 1536) (numbered_at 32 0 xs) i) (rw i at h)))
      (λ i. no_table xs s e fs l i r)

  abbrev after : List ℕ
  after = host_table xs s e fs l

  record Left : Type 0 where
    table : is_table after ≡ true
    well : well_formed s (records_of after) ≡ true
    records : records_of after ≡ (step_of s (records_of xs) e fs (length l)).table

  -- an event leaves a table that is well formed again ..
  left : all_octets fs ≡ true → is_table xs ≡ true → well_formed s (records_of xs) ≡ true → Left
  unfolding host_table
  left f i w =
      let k = step_keeps s (records_of xs) w (length_records 32 0 xs) e fs f (length l) in
      let back = well_trip s _ k.0 k.1 in
      record { table = rw i (octets_table _ k.1 (fitting_of_well s _ k.0)); well = rw (i, back) k.0; records = rw i back }

  -- .. and octets that are not as they were
  same : Octets xs → (is_table xs && well_formed s (records_of xs)) ≡ false → after ≡ xs
  unfolding host_table
  same o h = by_bool (is_table xs)
      (λ i.
      let w : well_formed s (records_of xs) ≡ false = rw i at h in
      rw i (ap octets_of (refused_keeps s (records_of xs) e fs l (ill_refused s (records_of xs) e fs (length l) w)).table ∙ octets_of_records xs o i))
      (λ i. rw i)

  -- what is sound stays so
  pub sound_later : all_octets xs ≡ true → all_octets fs ≡ true → Sound s xs → Sound s after
  sound_later o f h = by_bool (settings_fit s)
      (λ g.
      let n = left f h.table (h.well g) in
      record { table = n.table; well = λ w. n.well })
      (λ g. record { table = rw (same (each_octet xs o) (rw (h.table, unfit_ill s (records_of xs) g))) h.table; well = λ w. clash w g })

  known_later : all_octets xs ≡ true → all_octets fs ≡ true → (well linked later : Bool) → Knows s xs well linked → (well ≡ true → later ≡ linked_in (records_of after)) → Knows s after well later
  known_later o f well linked later k links = by_bool well
      (λ h.
      let u = known_sure s xs k h in
      let n = left f u.0 u.1 in
      record { told = rw (h, n.table, n.well); links = links })
      (λ h. record { told = rw (same (each_octet xs o) (sym k.told ∙ h)) k.told; links = links })

  -- behind an event that names links these are looked for again
  pub known_named : all_octets xs ≡ true → all_octets fs ≡ true → (well linked later : Bool) → Knows s xs well linked → (length after ≡ 1536 → later ≡ linked_in (records_of after)) → Knows s after well later
  known_named o f well linked later k found = known_later o f well linked later k (λ h.
      let u = known_sure s xs k h in
      found (table_long after (left f u.0 u.1).table))

-- ---- links stay but where they are named

linked_of : (t : List Record) → linked_in t ≡ some_of (λ (l : Links). not (no_links l)) (links_over t)
unfolding some_of
linked_of [] = refl
linked_of (p ∷ t) = ap (λ (b : Bool). not (no_links p.links) || b) (linked_of t)

module _ (s : Settings) (t : List Record) (w : well_formed s t ≡ true) (n : length t ≡ 32) where
  links_stay : (e : Event) (fs : List ℕ) (m : ℕ) → naming e ≡ false → links_over (step_of s t e fs m).table ≡ links_over t
  unfolding stepped_of passed_of clocked_of
  links_stay event.Frame fs m z = received_links s t (well_of s t w n) fs m
  links_stay (event.Ask q a c) fs m z = asked_links s t (well_of s t w n) q a c m
  links_stay event.Links fs m z = clash refl z
  links_stay (event.Clock d) fs m z =
      pick_both (λ (x : Stepped). links_over x.table ≡ links_over t) (eqb (first_of (pass_refusals s t d m)) 0)
      (map_same (λ (p : Record). p.links) (after_of s d) (λ p. tick_links s p d) t) refl

pub known_same :
    (xs : List ℕ) (s : Settings) (e : Event) (fs l : List ℕ) → all_octets xs ≡ true → all_octets fs ≡ true → (well linked : Bool) → Knows s xs well linked → naming e ≡ false
    → Knows s (host_table xs s e fs l) well linked
known_same xs s e fs l o f well linked k z = known_later xs s e fs l o f well linked linked k (λ h.
    let u = known_sure s xs k h in
    let n = left xs s e fs l f u.0 u.1 in
    k.links h
    ∙ linked_of (records_of xs)
    ∙ ap (λ (ls : List Links). some_of (λ (x : Links). not (no_links x)) ls) (sym (links_stay s (records_of xs) u.1 (length_records 32 0 xs) e fs (length l) z))
    ∙ sym (linked_of (step_of s (records_of xs) e fs (length l)).table)
    ∙ ap linked_in (sym n.records))
