-- The peer that an event names: its address is not 0, and it is found at its place; the event has the buffer that it needs; what a frame says has
-- the class of its kind. And that tables whose records have the same addresses and links name the same peers.
-- Assumes nothing.
use Prim.Native.Nat.{ℕ, ◌+◌, ◌<◌}
use native.Mathlib.Omega.{arith}
use mathlib.Core.Path.{◌≡◌, refl, sym, ap, ◌∙◌}
use mathlib.Core.Bool.{Bool, true, false, not, ◌&&◌, ◌||◌}
use mathlib.Core.Option.{Option, none, some}
use mathlib.Core.List.{List, [], ◌∷◌, map}
use lib.Dec.{eqb, ltb}
use lib.ListN.{length, get_or}
use Rattle.octets.proofs.Branch.{and_right, pick_both}
use Rattle.octets.specs.Pick.{pick}
use Rattle.octets.specs.Address.{group_of, valid_of}
use Rattle.octets.specs.Class.{classless}
use Rattle.octets.specs.Element.{broken_of}
use Rattle.octets.specs.Field.{field}
use Rattle.octets.specs.Heard.{heard_of}
use Rattle.octets.specs.Links.{links_of}
use Rattle.octets.specs.Shape.{shape_of}
use Rattle.octets.specs.Frame.{longest}
use Rattle.octets.specs.declared.links.Links.{Links}
use Rattle.octets.specs.declared.shape.Shape.{Shape}
use Rattle.octets.specs.declared.shape.Shape.TheVariants.{Misfit, Classless, Bare, Full}
use Rattle.octets.specs.Sort.{class_by, sort_of}
use Rattle.octets.proofs.Sorts.{sort_class}
use Rattle.peer.proofs.Classes.{Classed, classed}
use Rattle.peer.specs.Record.{free_of}
use Rattle.peer.specs.Refuse.{code_allowed, role_allowed}
use Rattle.peer.specs.Settings.{role_associates}
use Rattle.peer.specs.declared.record.Record.{Record}
use Rattle.peer.specs.declared.settings.Settings.{Settings}
use Rattle.table.specs.Read.{for_us, read_bare, read_from, read_full, read_as, read_of}
use Rattle.table.specs.Ask.{may_ask}
use Rattle.table.specs.Order.{Coming, frame, primitive, Handed, read_peer, coming_peer, device_named, device_of, peer_named}
use Rattle.table.specs.Places.{addresses_of, find_link_of, find_of, first_from, is_found, on_found, seek_of, some_of}
use Rattle.table.specs.declared.rules.read.Reading.{Reading}
use Rattle.table.specs.declared.rules.read.Reading.TheVariants.{Refused, Discarded, Admitted, From}
use Rattle.std.specs.Prelude.{Option as Place, Some, None}
use Rattle.table.proofs.Order.OwnRecord.{find_at}
use Rattle.table.proofs.Passes.LinkLaws.{link_inside, unfound}
use Rattle.table.proofs.Passes.Lists.{get_map}
use Rattle.table.proofs.Theorems.Well.{Well, linked_fits}
use Rattle.table.proofs.Theorems.WordedRecords.{valid_named}

-- an event that names nobody names no peer
pub nobody : {P : Type 0} {a : ℕ} → none ≡ some a → P
nobody e = let z : ◌≡◌ {A = ℕ} 0 1 = cc in absurd (omega arith)

full_some : (own : ℕ) (infrastructure : Bool) (xs : List ℕ) (a : ℕ) → read_peer (read_full own infrastructure xs) ≡ some a → eqb a 0 ≡ false
unfolding read_full read_from
full_some own infrastructure xs a e = go (not (for_us own (field 6 4 xs))) (eqb (field 6 10 xs) own) (valid_of (field 6 10 xs)) (broken_of xs) refl e
  where
    go : (f o v b : Bool) → valid_of (field 6 10 xs) ≡ v
        → read_peer (pick f (Refused 4) (pick (o || not v) (Refused 3) (pick b (Refused 3) (From (field 6 10 xs) (group_of (field 6 4 xs)) (sort_of infrastructure xs) (heard_of xs))))) ≡ some a
        → eqb a 0 ≡ false
    go true o v b q w = nobody w
    go false true v b q w = nobody w
    go false false false b q w = nobody w
    go false false true true q w = nobody w
    go false false true false q w = let p : field 6 10 xs ≡ a = cc in valid_named a (rw p at q)

bare_some : (own : ℕ) (xs : List ℕ) (a : ℕ) → read_peer (read_bare own xs) ≡ some a → eqb a 0 ≡ false
unfolding read_bare
bare_some own xs a e = go (for_us own (field 6 4 xs)) e
  where
    go : (f : Bool) → read_peer (pick f Admitted (Refused 4)) ≡ some a → eqb a 0 ≡ false
    go true w = nobody w
    go false w = nobody w

read_some : (h : Shape) (own : ℕ) (infrastructure : Bool) (xs : List ℕ) (a : ℕ) → read_peer (read_as h own infrastructure xs) ≡ some a → eqb a 0 ≡ false
read_some Misfit own infrastructure xs a e = nobody e
read_some Classless own infrastructure xs a e = nobody e
read_some Bare own infrastructure xs a e = bare_some own xs a e
read_some Full own infrastructure xs a e = full_some own infrastructure xs a e

-- what is read of a frame, where it has a class, is of the class of its kind
abbrev pub Classes : Reading → Type 0
Classes (Refused n) = Unit
Classes Discarded = Unit
Classes Admitted = Unit
Classes (From peer group k h) = classless (class_by k) ≡ false → Classed (class_by k) h

shape_classed : (h : Shape) (own : ℕ) (infrastructure : Bool) (xs : List ℕ) → Classes (read_as h own infrastructure xs)
unfolding read_bare read_full read_from
shape_classed Misfit own infrastructure xs = tt
shape_classed Classless own infrastructure xs = tt
shape_classed Bare own infrastructure xs = pick_both Classes (for_us own (field 6 4 xs)) tt tt
shape_classed Full own infrastructure xs =
    pick_both Classes (not (for_us own (field 6 4 xs))) tt
    (pick_both Classes (eqb (field 6 10 xs) own || not (valid_of (field 6 10 xs))) tt
    (pick_both Classes (broken_of xs) tt (rw (sort_class infrastructure xs) (classed infrastructure xs))))

pub read_classed : (own : ℕ) (infrastructure : Bool) (xs : List ℕ) → Classes (read_of own infrastructure xs)
unfolding read_of
read_classed own infrastructure xs = shape_classed (shape_of xs) own infrastructure xs

pub read_named : (s : Settings) (xs : List ℕ) (a : ℕ) → read_peer (read_of s.own (role_associates s.role) xs) ≡ some a → eqb a 0 ≡ false
unfolding read_of
read_named s xs a e = read_some (shape_of xs) s.own (role_associates s.role) xs a e

-- what a record is known by: its address and its links
abbrev pub names : Record → ℕ × Links
names p = (p.address, p.links)

found_map : (f : ℕ × Links → Bool) (n : ℕ) (t : List Record) → first_from f n (map names t) ≡ first_from (λ p. f (names p)) n t
unfolding first_from
found_map f n [] = refl
found_map f n (p ∷ ps) = rw (found_map f (n + 1) ps)

first_names : (f : ℕ × Links → Bool) (n : ℕ) (t u : List Record) → map names u ≡ map names t → first_from (λ p. f (names p)) n u ≡ first_from (λ p. f (names p)) n t
first_names f n t u e = sym (found_map f n u) ∙ ap (first_from f n) e ∙ found_map f n t

address_names : (t : List Record) → map (λ (n : ℕ × Links). n.0) (map names t) ≡ addresses_of t
address_names [] = refl
address_names (p ∷ ps) = rw (address_names ps)

-- tables whose records are known by the same lead to the same places
module _ (t u : List Record) (e : map names u ≡ map names t) where
  pub link_same : (a : ℕ) → find_link_of u a ≡ find_link_of t a
  unfolding find_link_of
  link_same a = rw (first_names (λ n. some_of (λ l. eqb l a) (links_of n.1)) 0 t u e)

  pub seek_same : (a : ℕ) → seek_of u (addresses_of u) a ≡ seek_of t (addresses_of t) a
  unfolding seek_of
  seek_same a = rw (link_same a, first_addresses)
    where
      first_addresses : find_of (addresses_of u) a ≡ find_of (addresses_of t) a
      first_addresses = ap (λ (l : List ℕ). find_of l a) (sym (address_names u) ∙ ap (map (λ (n : ℕ × Links). n.0)) e ∙ address_names t)

  pub device_same : (a : ℕ) → device_of u a ≡ device_of t a
  device_same a = rw (link_same a) (go (find_link_of t a))
    where
      go : (f : Place ℕ) → on_found f a (λ i. (get_or u i free_of).address) ≡ on_found f a (λ i. (get_or t i free_of).address)
      go None = refl
      go (Some i) = ap (λ (n : ℕ × Links). n.0) (sym (get_map names u i free_of) ∙ ap (λ (l : List (ℕ × Links)). get_or l i (names free_of)) e ∙ get_map names t i free_of)

  pub named_same : (s : Settings) (h : Handed) → peer_named s u h ≡ peer_named s t h
  unfolding peer_named
  named_same s h = go h.coming
    where
      read : (o : Option ℕ) → device_named u o ≡ device_named t o
      read none = refl
      read (some a) = ap some (device_same a)

      go : (c : Coming) → pick (ltb (length h.out) longest) none (coming_peer s u c) ≡ pick (ltb (length h.out) longest) none (coming_peer s t c)
      go (frame xs) = rw (read (read_peer (read_of s.own (role_associates s.role) xs)))
      go (primitive q a c) = rw (link_same a)

module _ (s : Settings) (t : List Record) where
  -- a device has an address, and is found by it, or by its link, at its place
  pub device_place :
      Well s t → (a i : ℕ) → eqb a 0 ≡ false → i < length t → device_of t a ≡ (get_or t i free_of).address
      → (eqb (get_or t i free_of).address 0 ≡ false) × (seek_of t (addresses_of t) a ≡ Some i)
  unfolding seek_of
  device_place w a i z h e = go (find_link_of t a) refl e
    where
      go : (f : Place ℕ) → find_link_of t a ≡ f → on_found f a (λ j. (get_or t j free_of).address) ≡ (get_or t i free_of).address
          → (eqb (get_or t i free_of).address 0 ≡ false) × (on_found f (find_of (addresses_of t) a) (λ j. Some j) ≡ Some i)
      go None l q =
          let some : eqb (get_or t i free_of).address 0 ≡ false = rw q at z in
          (some, rw q (find_at t i w.distinct h some))
      go (Some j) l q =
          let valid = (linked_fits s t w a j l).valid in
          let some : eqb (get_or t j free_of).address 0 ≡ false = valid_named (get_or t j free_of).address valid in
          let there = find_at t j w.distinct (link_inside t a j l) some in
          let some-i : eqb (get_or t i free_of).address 0 ≡ false = rw q at some in
          let here = find_at t i w.distinct h some-i in
          (some-i, sym there ∙ rw q here)

  -- the peer that a primitive names, where no record has the address as a link's
  pub asked_named :
      (q b c a : ℕ) → coming_peer s t (primitive q b c) ≡ some a → (b ≡ a) × (eqb a 0 ≡ false) × (find_link_of t b ≡ None)
  unfolding may_ask
  asked_named q b c a e = go (may_ask s q b c) (is_found (find_link_of t b)) (role_allowed q s.role) refl refl e
    where
      go : (m f l : Bool) → may_ask s q b c ≡ m → is_found (find_link_of t b) ≡ f → pick (m && not f) (pick l (some b) none) none ≡ some a
          → (b ≡ a) × (eqb a 0 ≡ false) × (find_link_of t b ≡ None)
      go true false true v f w =
          let p : b ≡ a = cc in
          (p, valid_named a (rw p at (and_right (not (eqb b s.own)) (valid_of b) (and_right (code_allowed q c) (not (eqb b s.own) && valid_of b) v))), unfound (find_link_of t b) f)
      go true false false v f w = nobody w
      go true true l v f w = nobody w
      go false f l v g w = nobody w

  -- an event that names a peer has the buffer that it needs
  pub named_long : (e : Handed) (a : ℕ) → peer_named s t e ≡ some a → (ltb (length e.out) longest ≡ false) × (coming_peer s t e.coming ≡ some a)
  unfolding peer_named
  named_long e a h = go (ltb (length e.out) longest) refl h
    where
      go : (b : Bool) → ltb (length e.out) longest ≡ b → pick b none (coming_peer s t e.coming) ≡ some a → (ltb (length e.out) longest ≡ false) × (coming_peer s t e.coming ≡ some a)
      go true q w = nobody w
      go false q w = (q, w)
