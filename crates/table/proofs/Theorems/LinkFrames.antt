-- 02, K11: the same frame from two addresses of a device, octet for octet but for Address 2, does the same, but for Address 1 of the reply: what is
-- read of a frame goes by the octets of Address 2 for the peer alone.
-- Assumes nothing.
use Prim.Native.Nat.{ℕ}
use mathlib.Core.Path.{◌≡◌, refl, ap as apply, sym, ◌∙◌}
use mathlib.Core.Bool.{Bool, true, false, not, ◌&&◌, ◌||◌}
use mathlib.Core.List.{List, [], ◌∷◌}
use lib.Dec.{eqb, ltb}
use lib.ListN.{get_or, length}
use borrow.Author.Tests.{eqb-true, not-true}
use Rattle.octets.proofs.Branch.{by_bool}
use Rattle.octets.proofs.LinkTrip.{unlinked_of}
use Rattle.octets.specs.Address.{valid_of}
use Rattle.octets.specs.Class.{class_in, class_of, direct_class, is_direct, is_public_action}
use Rattle.octets.specs.Element.{broken_of, is_response}
use Rattle.octets.specs.Field.{field, le}
use Rattle.octets.specs.Frame.{longest}
use Rattle.octets.specs.Heard.{authentication_of, heard_of, query_of, response_of}
use Rattle.octets.specs.Links.{links_of, no_links}
use Rattle.octets.specs.Shape.{is_bare, least_management, least_of, shape_of}
use Rattle.octets.specs.declared.class.FrameClass.TheVariants as class
use Rattle.octets.specs.declared.class.FrameClass.{FrameClass}
use Rattle.octets.specs.declared.links.Links.{Links}
use Rattle.octets.specs.declared.shape.Shape.TheVariants.{Bare, Classless, Full, Misfit}
use Rattle.octets.specs.declared.shape.Shape.{Shape}
use Rattle.octets.specs.Sort.{is_listed, sort_of}
use Rattle.peer.proofs.Fits.{Fits, both, fits_of, wrong}
use Rattle.peer.proofs.Spoken.{linked_stand}
use Rattle.peer.specs.Fit.{links_stand, place_fits, slot_fits}
use Rattle.peer.specs.Record.{free_of, is_free}
use Rattle.peer.specs.Settings.{role_associates}
use Rattle.peer.specs.declared.record.Record.{Record}
use Rattle.peer.specs.declared.settings.Settings.{Settings}
use Rattle.table.specs.Answer.{refused_of, settled_of}
use Rattle.table.specs.Fit.{well_formed}
use Rattle.table.specs.Places.{all_of, all_tails, some_of}
use Rattle.table.specs.Read.{for_us, read_as, read_bare, read_from, read_full, read_of}
use Rattle.table.specs.Receive.{received_of}
use Rattle.table.specs.Step.{step_of}
use Rattle.table.specs.declared.rules.event.Event.TheVariants as event
use Rattle.table.specs.declared.rules.read.Reading.TheVariants.{Admitted, Discarded, From, Refused}
use Rattle.table.specs.declared.rules.read.Reading.{Reading}
use Rattle.table.proofs.Theorems.Links.{Alike, alike_stepped, leads, link_alike, some_holds}
use Rattle.table.proofs.Passes.Lists.{swap}
use Rattle.table.proofs.Theorems.Well.{Well, place_fits_lem, well_of}
use Rattle.table.proofs.Walks.LinkLists.{free_unlinked}
use Rattle.table.proofs.Theorems.WordedRecords.{free_address}

-- A frame: ten octets, the six of Address 2, and the rest.
pub record Head : Type 0 where
  pub h0 : ℕ
  pub h1 : ℕ
  pub h2 : ℕ
  pub h3 : ℕ
  pub h4 : ℕ
  pub h5 : ℕ
  pub h6 : ℕ
  pub h7 : ℕ
  pub h8 : ℕ
  pub h9 : ℕ

pub record Six : Type 0 where
  pub a0 : ℕ
  pub a1 : ℕ
  pub a2 : ℕ
  pub a3 : ℕ
  pub a4 : ℕ
  pub a5 : ℕ

abbrev pub sent : Head → Six → List ℕ → List ℕ
sent h a rest =
    h.h0 ∷ h.h1 ∷ h.h2 ∷ h.h3 ∷ h.h4 ∷ h.h5 ∷ h.h6 ∷ h.h7 ∷ h.h8 ∷ h.h9
    ∷ a.a0 ∷ a.a1 ∷ a.a2 ∷ a.a3 ∷ a.a4 ∷ a.a5 ∷ rest

abbrev pub second : Six → ℕ
second a = le (a.a0 ∷ a.a1 ∷ a.a2 ∷ a.a3 ∷ a.a4 ∷ a.a5 ∷ [])

-- a reading for another peer
abbrev retold : ℕ → Reading → Reading
retold b (Refused n) = Refused n
retold b Discarded = Discarded
retold b Admitted = Admitted
retold b (From peer group k w) = From b group k w

-- neither our own nor invalid
abbrev Fit : ℕ → ℕ → Type 0
Fit own a = (eqb a own || not (valid_of a)) ≡ false

module _ (own : ℕ) (infrastructure : Bool) (h : Head) (a b : Six) (rest : List ℕ) (fa : Fit own (second a)) (fb : Fit own (second b)) where
  shape_same : shape_of (sent h b rest) ≡ shape_of (sent h a rest)
  unfolding shape_of class_of is_public_action is_bare least_of least_management
  shape_same = refl

  direct_same : (k : FrameClass) → direct_class (sent h b rest) k ≡ direct_class (sent h a rest) k
  unfolding is_direct
  direct_same class.None = refl
  direct_same class.One = refl
  direct_same class.Two = refl
  direct_same class.Three = refl

  class_same : class_in infrastructure (sent h b rest) ≡ class_in infrastructure (sent h a rest)
  unfolding class_in class_of is_public_action
  class_same = rw (direct_same (class_of (sent h a rest)))

  sort_same : sort_of infrastructure (sent h b rest) ≡ sort_of infrastructure (sent h a rest)
  unfolding sort_of is_listed
  sort_same = rw class_same

  heard_same : heard_of (sent h b rest) ≡ heard_of (sent h a rest)
  unfolding heard_of authentication_of response_of query_of
  heard_same = refl

  broken_same : broken_of (sent h b rest) ≡ broken_of (sent h a rest)
  unfolding broken_of is_response
  broken_same = refl

  as_same : (shape : Shape) → read_as shape own infrastructure (sent h b rest) ≡ retold (second b) (read_as shape own infrastructure (sent h a rest))
  unfolding read_bare read_full read_from
  as_same Misfit = refl
  as_same Classless = refl
  as_same Bare = by_bool (for_us own (field 6 4 (sent h a rest))) (λ e. rw e) (λ e. rw e)
  as_same Full =
      by_bool (for_us own (field 6 4 (sent h a rest)))
      (λ e. by_bool (broken_of (sent h a rest))
      (λ f. rw (e, fa, fb, broken_same, f))
      (λ f. rw (e, fa, fb, broken_same, f, sort_same, heard_same)))
      (λ e. rw e)

  read_same : read_of own infrastructure (sent h b rest) ≡ retold (second b) (read_of own infrastructure (sent h a rest))
  unfolding read_of
  read_same = rw shape_same (as_same (shape_of (sent h a rest)))

-- ---- an address that leads to a record of a well-formed table is neither our own nor invalid

-- the record fits
lead_fits : (s : Settings) (t : List Record) (w : Well s t) (a : ℕ) → eqb a 0 ≡ false → (i : ℕ) → leads (get_or t i free_of) a ≡ true → Fits s (get_or t i free_of)
unfolding some_of place_fits
lead_fits s t w a z i h = by_bool (is_free (get_or t i free_of))
    (λ e.
    let none = free_unlinked (get_or t i free_of) e in
    let zero : (get_or t i free_of).address ≡ 0 = eqb-true _ 0 (sym (free_address s (get_or t i free_of) (place_fits_lem s t w i)) ∙ e) in
    wrong (rw (zero, none, swap a 0 z) at h))
    (λ e. fits_of s (get_or t i free_of) (rw e at (place_fits_lem s t w i)))

module _ (s : Settings) (p : Record) (f : Fits s p) (a : ℕ) (z : eqb a 0 ≡ false) where
  abbrev usable : ℕ → Bool
  usable l = eqb l 0 || (not (eqb l s.own) && valid_of l)

  slot_usable : (before l : ℕ) → slot_fits s.own before l ≡ true → usable l ≡ true
  unfolding slot_fits
  slot_usable before l e = by_bool (eqb l 0) (λ z. rw z) (λ z. rw z (both (not (eqb before 0)) _ (rw z at e)).1)

  stands_usable : (ls : Links) → links_stand s.own p.address ls ≡ true → all_of usable (links_of ls) ≡ true
  unfolding links_stand all_tails
  stands_usable ls e =
      let u = both (slot_fits s.own p.address ls.one) _ e in
      let v = both (slot_fits s.own ls.one ls.two) _ u.1 in
      let w = both (slot_fits s.own ls.two ls.three) _ v.1 in
      rw (slot_usable p.address ls.one u.0, slot_usable ls.one ls.two v.0, slot_usable ls.two ls.three w.0, slot_usable ls.three ls.four w.1)

  -- no links: 0 in each slot
  links_usable : all_of usable (links_of p.links) ≡ true
  unfolding all_tails
  links_usable = by_bool (no_links p.links)
      (λ n. rw (unlinked_of p.links n))
      (λ n. stands_usable p.links (linked_stand s p f n).1)

  leads_fit : leads p a ≡ true → Fit s.own a
  leads_fit h = by_bool (eqb p.address a)
      (λ e. let same = eqb-true p.address a e in unfit (rw same at f.apart) (rw same at f.valid))
      (λ e.
      let k = both (not (eqb a s.own)) _ (rw z at (some_holds usable a (links_of p.links) (rw e at h) links_usable)) in
      unfit k.0 k.1)
    where
      unfit : not (eqb a s.own) ≡ true → valid_of a ≡ true → Fit s.own a
      unfit o v = rw (not-true (eqb a s.own) o, v)

-- ---- the law

module _ (s : Settings) (t : List Record) (i : ℕ) (a b : Six) (za : eqb (second a) 0 ≡ false) (zb : eqb (second b) 0 ≡ false) (la : leads (get_or t i free_of) (second a) ≡ true) (lb : leads (get_or t i free_of) (second b) ≡ true) (h : Head) (rest : List ℕ) (n : ℕ) where
  abbrev xs : List ℕ
  xs = sent h a rest

  abbrev ys : List ℕ
  ys = sent h b rest

  abbrev reads : List ℕ → Reading
  reads l = read_of s.own (role_associates s.role) l

  module _ (w : well_formed s t ≡ true) (long : length t ≡ 32) where
    fits : Fits s (get_or t i free_of)
    fits = lead_fits s t (well_of s t w long) (second a) za i la

    by_reading : (r : Reading) → reads xs ≡ r → Alike (second b) (received_of s t xs n) (received_of s t ys n)
    unfolding received_of refused_of settled_of
    by_reading r e = go r e (read_same s.own (role_associates s.role) h a b rest (leads_fit s (get_or t i free_of) fits (second a) za la) (leads_fit s (get_or t i free_of) fits (second b) zb lb))
      where
        same : reads xs ≡ retold (second a) (reads xs)
        same = read_same s.own (role_associates s.role) h a a rest (leads_fit s (get_or t i free_of) fits (second a) za la) (leads_fit s (get_or t i free_of) fits (second a) za la)

        go : (r : Reading) → reads xs ≡ r → reads ys ≡ retold (second b) (reads xs) → Alike (second b) (received_of s t xs n) (received_of s t ys n)
        go (Refused m) e q = by_bool (ltb n longest) (λ l. rw l (record { table = refl; answer = refl; reply = refl })) (λ l. rw (l, w, q, e) (record { table = refl; answer = refl; reply = refl }))
        go Discarded e q = by_bool (ltb n longest) (λ l. rw l (record { table = refl; answer = refl; reply = refl })) (λ l. rw (l, w, q, e) (record { table = refl; answer = refl; reply = refl }))
        go Admitted e q = by_bool (ltb n longest) (λ l. rw l (record { table = refl; answer = refl; reply = refl })) (λ l. rw (l, w, q, e) (record { table = refl; answer = refl; reply = refl }))
        go (From peer group k v) e q =
            let is : From peer group k v ≡ From (second a) group k v = sym e ∙ same ∙ apply (retold (second a)) e in
            link_alike s t i (second a) (second b) la lb group k v xs ys (e ∙ is) (q ∙ apply (retold (second b)) e) n

  -- Whatever the frame, and whatever the table of 32 records.
  pub frame_alike : length t ≡ 32 → Alike (second b) (received_of s t xs n) (received_of s t ys n)
  unfolding received_of refused_of settled_of
  frame_alike long = by_bool (well_formed s t)
      (λ w. by_reading w long (reads xs) refl)
      (λ w. by_bool (ltb n longest) (λ l. rw l (record { table = refl; answer = refl; reply = refl })) (λ l. rw (l, w) (record { table = refl; answer = refl; reply = refl })))

  -- the same table and the same answer
  pub steps_frame_alike : length t ≡ 32 → step_of s t event.Frame ys n ≡ step_of s t event.Frame xs n
  steps_frame_alike long = alike_stepped (second b) (received_of s t xs n) (received_of s t ys n) n (frame_alike long)
