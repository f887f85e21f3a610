-- 01, Settings, table, clock, of "Well formed": "Each step keeps this."
-- Assumes nothing.
use Prim.Native.Nat.{ℕ, ◌≤◌}
use mathlib.Core.Path.{◌≡◌, refl, sym, ◌∙◌}
use mathlib.Core.Bool.{Bool, true, false, not, ◌||◌}
use mathlib.Core.List.{List, ◌∷◌, map}
use native.Mathlib.Omega.{arith}
use lib.Dec.{eqb, ltb}
use lib.ListN.{length, length-map}
use borrow.Author.Tests.{ltb-false, not-false}
use Rattle.octets.proofs.Below.{heard_fits}
use Rattle.octets.proofs.Branch.{by_bool}
use Rattle.octets.specs.Address.{valid_of, group_of}
use Rattle.octets.specs.Class.{class_in}
use Rattle.octets.specs.Element.{broken_of}
use Rattle.octets.specs.Field.{all_octets, field}
use Rattle.octets.specs.Frame.{longest}
use Rattle.octets.specs.Heard.{heard_of}
use Rattle.octets.specs.Shape.{shape_of}
use Rattle.octets.specs.declared.shape.Shape.{Shape}
use Rattle.octets.specs.declared.shape.Shape.TheVariants.{Misfit, Classless, Bare, Full}
use Rattle.octets.proofs.Sorts.{sort_class}
use Rattle.peer.proofs.Fits.{both, clash, or_left, wrong}
use Rattle.peer.proofs.AskKeeps.{ask_keeps}
use Rattle.peer.proofs.Classes.{classed}
use Rattle.peer.proofs.HearKeeps.{hear_keeps}
use Rattle.peer.proofs.Links.{ask_links, hear_links, tick_links}
use Rattle.peer.proofs.TickKeeps.{tick_keeps}
use Rattle.peer.specs.Fit.{place_fits}
use Rattle.peer.specs.Record.{associates, is_joined}
use Rattle.peer.specs.Refuse.{code_allowed}
use Rattle.peer.specs.Settings.{role_answers, role_associates}
use Rattle.peer.specs.Turn.{towards_of}
use Rattle.peer.specs.declared.record.Record.{Record}
use Rattle.peer.specs.declared.settings.Settings.{Settings}
use Rattle.table.specs.Answer.{refused_of, settled_of, stepped_of}
use Rattle.table.specs.Ask.{asked_at, asked_of, may_ask}
use Rattle.table.specs.Fit.{crowd_of, well_formed}
use Rattle.table.specs.Link.{device_in, linked_at, linked_of}
use Rattle.table.specs.Others.{others_of}
use Rattle.table.specs.Pass.{after_of, clocked_of, pass_refusals, passed_of}
use Rattle.table.specs.Places.{addresses_of, count_of, find_link_of, find_of, link_addresses_of, seek_of}
use Rattle.table.specs.Read.{for_us, read_as, read_bare, read_from, read_full, read_of}
use Rattle.table.specs.Receive.{heard_at, heard_from, received_of}
use Rattle.table.specs.Refusals.{first_of, unless}
use Rattle.table.specs.Seat.{peer_of}
use Rattle.table.specs.Step.{step_of}
use Rattle.table.specs.declared.rules.answer.Met.{Met}
use Rattle.table.specs.declared.rules.event.Event.{Event}
use Rattle.table.specs.declared.rules.event.Event.TheVariants as event
use Rattle.table.proofs.Theorems.LinkKeeps.{linking}
use Rattle.table.proofs.Theorems.Seated.{in_turn}
use Rattle.table.proofs.Theorems.Well.{Well, find_leads, leads_fits, of_well, seek_leads, well_of}
use Rattle.table.proofs.Passes.LinkLaws.{unfound}
use Rattle.table.proofs.Passes.LinkStores.{apart_map, links_map}
use Rattle.table.proofs.Passes.Lists.{all_map, count_map, distinct_map}

-- A table is as it must be after an event, with the octets xs where the event is a frame.
abbrev KeptBy : Settings → List Record → Event → List ℕ → ℕ → Type 0
KeptBy s t e xs n = (well_formed s (step_of s t e xs n).table ≡ true) × (length (step_of s t e xs n).table ≡ 32)

-- the statement: every role, every rule, all events; a frame is octets
abbrev pub EachStepKeeps : Type 0
EachStepKeeps =
    (s : Settings) (t : List Record) → well_formed s t ≡ true → length t ≡ 32 → (e : Event) (xs : List ℕ) → all_octets xs ≡ true → (n : ℕ)
    → KeptBy s t e xs n

-- where the role answers, which sets no hold by what a frame says, it need not be
abbrev pub EachStepKeepsAnswering : Type 0
EachStepKeepsAnswering =
    (s : Settings) → role_answers s.role ≡ true → (t : List Record) → well_formed s t ≡ true → length t ≡ 32 → (e : Event) (xs : List ℕ) (n : ℕ)
    → KeptBy s t e xs n

-- what is asked of a frame: where the role does not answer, that it is octets
abbrev Framed : Settings → List ℕ → Type 0
Framed s xs = role_answers s.role ≡ false → all_octets xs ≡ true

-- ---- frames

module _ (s : Settings) (t : List Record) (w : Well s t) where
  heard : (xs : List ℕ) → Framed s xs → (shape : Shape) → Well s (heard_at s t (addresses_of t) (read_as shape s.own (role_associates s.role) xs)).table
  unfolding refused_of settled_of read_bare read_full read_from heard_from towards_of
  heard xs o Misfit = w
  heard xs o Classless = w
  heard xs o Bare = by_bool (for_us s.own (field 6 4 xs)) (λ e. rw e w) (λ e. rw e w)
  heard xs o Full = by_bool (not (for_us s.own (field 6 4 xs)))
      (λ e. rw e w)
      (λ e. by_bool (eqb (field 6 10 xs) s.own || not (valid_of (field 6 10 xs)))
      (λ g. rw (e, g) w)
      (λ g.
      let n = or_left (eqb (field 6 10 xs) s.own) _ g in
      by_bool (broken_of xs) (λ b. rw (e, g, b) w) (λ b.
      let a = field 6 10 xs in
      let at = seek_of t (addresses_of t) a in
      let l = seek_leads s t w a (rw n.0) (not-false _ n.1) at refl in
      rw (e, g, b, sort_class (role_associates s.role) xs) (in_turn s t w true (λ r b. wrong (sym b)) a at (find_of (addresses_of t) 0) _ _ l refl
      (hear_keeps s true (peer_of t at a) (leads_fits s t w a at l) w.settings
      (class_in (role_associates s.role) xs) (group_of (field 6 4 xs)) (heard_of xs) (classed (role_associates s.role) xs) (λ r. heard_fits xs (o r)))
      (hear_links s (peer_of t at a) (class_in (role_associates s.role) xs) (group_of (field 6 4 xs)) (heard_of xs)).1))))

  frame_keeps : (xs : List ℕ) → Framed s xs → (n : ℕ) → Well s (received_of s t xs n).table
  unfolding received_of refused_of settled_of read_of
  frame_keeps xs o n = by_bool (ltb n longest)
      (λ e. rw e w)
      (λ e. rw (e, of_well s t w) (heard xs o (shape_of xs)))

  -- ---- primitives

  unless_keeps : (n : ℕ) (m : Met) → (eqb n 0 ≡ true → Well s m.table) → Well s (unless n t m).table
  unfolding unless refused_of settled_of
  unless_keeps n m k = by_bool (eqb n 0) (λ e. rw e (k e)) (λ e. rw e w)

  -- who does not answer sees whether any record has a (re)association
  others_free : role_answers s.role ≡ false → (others_of s t).busy ≡ false → count_of associates t ≡ 0
  unfolding others_of crowd_of
  others_free r b =
      let z : count_of associates t ≤ 0 = ltb-false 0 (count_of associates t) (rw r at b) in
      omega arith

  pub none_of : (k : ℕ) (b : Bool) (rest : List (ℕ × Bool)) → eqb k 0 ≡ false → eqb (first_of ((k, b) ∷ rest)) 0 ≡ true → (b ≡ false) × (eqb (first_of rest) 0 ≡ true)
  unfolding first_of
  none_of k true rest z h = wrong (sym z ∙ h)
  none_of k false rest z h = (refl, h)

  asked : (q a c : ℕ) → Well s (asked_at s t (addresses_of t) q a c).table
  unfolding asked_at may_ask towards_of
  asked q a c = unless_keeps _ _ (λ e.
      let r3 = none_of 3 _ _ refl e in
      let r5 = none_of 5 _ _ refl r3.1 in
      let r9 = none_of 9 _ _ refl r5.1 in
      let r7 = none_of 7 _ _ refl r9.1 in
      let n = or_left (not (may_ask s q a c)) _ r3.0 in
      let may = both (code_allowed q c) _ (not-false _ n.0) in
      let peer = both (not (eqb a s.own)) _ may.1 in
      let at = find_of (addresses_of t) a in
      let l = find_leads s t w a peer.0 peer.1 at (unfound (find_link_of t a) n.1) refl in
      in_turn s t w (others_of s t).busy others_free a at (find_of (addresses_of t) 0) _ _ l refl
      (ask_keeps s (peer_of t at a) (leads_fits s t w a at l) (others_of s t) w.settings _ q c may.0 (not-false _ r5.0) r9.0 r7.0)
      (ask_links s (peer_of t at a) _ (others_of s t) q c).1)

  primitive_keeps : (q a c n : ℕ) → Well s (asked_of s t q a c n).table
  unfolding asked_of
  primitive_keeps q a c n = unless_keeps _ _ (λ e. asked q a c)

  -- ---- links

  linked : (xs : List ℕ) → Well s (linked_at s t (addresses_of t) xs).table
  unfolding linked_at
  linked xs = unless_keeps _ _ (λ e.
      let r3 = none_of 3 _ _ refl e in
      let r5 = none_of 5 _ _ refl r3.1 in
      linking s t w xs (not-false _ r3.0) (not-false _ r5.0) (find_of (addresses_of t) (device_in xs)) refl (find_of (addresses_of t) 0))

  links_keep : (xs : List ℕ) (n : ℕ) → Well s (linked_of s t xs n).table
  unfolding linked_of
  links_keep xs n = unless_keeps _ _ (λ e. linked xs)

  -- ---- the clock

  clock_keeps : (d n : ℕ) → Well s (passed_of s t d n).table
  unfolding passed_of clocked_of
  clock_keeps d n = by_bool (eqb (first_of (pass_refusals s t d n)) 0) (λ e. rw e ticked) (λ e. rw e w)
    where
      ticked : Well s (map (after_of s d) t)
      ticked = record {
        settings = w.settings;
        long = length-map t (after_of s d) ∙ w.long;
        places = all_map (place_fits s) (place_fits s) (after_of s d) (λ p h. (tick_keeps s p d h).place) t w.places;
        distinct = distinct_map (place_fits s) (after_of s d) (λ p h. (tick_keeps s p d h).same) t w.places w.distinct;
        apart = rw (links_map (after_of s d) (place_fits s) (λ p h. tick_links s p d) t w.places)
            (apart_map (place_fits s) (after_of s d) (λ p h. (tick_keeps s p d h).same) (link_addresses_of t) t w.places w.apart);
        joined = λ r. omega (arith, w.joined r, count_map (place_fits s) is_joined is_joined (after_of s d) (λ p h. (tick_keeps s p d h).joins r refl) t w.places);
        associating = λ r. omega (arith, w.associating r, count_map (place_fits s) associates associates (after_of s d) (λ p h. (tick_keeps s p d h).starts r refl) t w.places);
      }

  stepped : (e : Event) (xs : List ℕ) → Framed s xs → (n : ℕ) → Well s (step_of s t e xs n).table
  unfolding stepped_of
  stepped event.Frame xs o n = frame_keeps xs o n
  stepped (event.Ask q a c) xs o n = primitive_keeps q a c n
  stepped event.Links xs o n = links_keep xs n
  stepped (event.Clock d) xs o n = clock_keeps d n

-- ---- the theorems

kept_by : (s : Settings) (t : List Record) → well_formed s t ≡ true → length t ≡ 32 → (e : Event) (xs : List ℕ) → Framed s xs → (n : ℕ) → KeptBy s t e xs n
kept_by s t h l e xs o n =
    let k = stepped s t (well_of s t h l) e xs o n in
    (of_well s (step_of s t e xs n).table k, k.long)

pub step_keeps : EachStepKeeps
step_keeps s t h l e xs o n = kept_by s t h l e xs (λ r. o) n

pub step_keeps_answering : EachStepKeepsAnswering
step_keeps_answering s role t h l e xs n = kept_by s t h l e xs (λ r. clash role r) n
