-- Whether an address of primitive 12 is given twice, and whether it is in use elsewhere, as specs/Exactly.antt words it and as the rule finds it.
-- Assumes nothing.
use Prim.Native.Nat.{ℕ, zero, suc, ◌+◌, ◌<◌}
use mathlib.Core.Path.{◌≡◌, refl, ap as apply, sym, ◌∙◌}
use mathlib.Core.Bool.{Bool, true, false, not, ◌&&◌, ◌||◌}
use mathlib.Core.List.{List, [], ◌∷◌}
use lib.Dec.{eqb}
use lib.ListN.{length, drop, get_or, set, take, length-map}
use borrow.Author.Tests.{eq-eqb, eqb-false, eqb-true, ne_eqb, not-false, not-true}
use Rattle.octets.proofs.Branch.{by_bool}
use Rattle.peer.proofs.Fits.{both, clash}
use Rattle.peer.specs.Record.{free_of}
use Rattle.peer.specs.declared.record.Record.{Record}
use Rattle.peer.specs.declared.settings.Settings.{Settings}
use Rattle.table.specs.Exactly.{elsewhere, twice}
use Rattle.table.specs.Fit.{alone_in, apart, distinct_of}
use Rattle.table.specs.Link.{used_elsewhere}
use Rattle.table.specs.Order.{address_of}
use Rattle.table.specs.Places.{addresses_of, all_of, all_tails, find_link_of, find_of, first_from, has_link, is_found, link_addresses_of, on_found, some_of}
use Rattle.std.specs.Prelude.{Option, Some, None}
use Rattle.table.proofs.Order.OwnRecord.{all_at, find_at}
use Rattle.table.proofs.Passes.LinkLaws.{all_weak, apart_both, free_without, link_found, link_inside, link_nowhere, only_here, some_all}
use Rattle.table.proofs.Passes.Lists.{first_none, get_map, swap}
use Rattle.table.proofs.Theorems.Well.{found_address}
use Rattle.table.proofs.Theorems.Worded.{Facts}

-- ---- tests over lists

pub turn_eqb : (a b : ℕ) → eqb a b ≡ eqb b a
turn_eqb a b = by_bool (eqb a b) (λ e. e ∙ sym (eq-eqb b a (sym (eqb-true a b e)))) (λ e. e ∙ sym (swap a b e))

module _ {A : Type 0} where
  some_none : (f : A → Bool) (xs : List A) → all_of (λ x. not (f x)) xs ≡ true → some_of f xs ≡ false
  some_none f xs h = some_all f xs ∙ rw h

  pub none_some : (f : A → Bool) (xs : List A) → some_of f xs ≡ false → all_of (λ x. not (f x)) xs ≡ true
  none_some f xs h = not-false _ (sym (some_all f xs) ∙ h)

  some_same : (f g : A → Bool) → ((x : A) → f x ≡ g x) → (xs : List A) → some_of f xs ≡ some_of g xs
  unfolding some_of
  some_same f g k [] = refl
  some_same f g k (x ∷ xs) = rw (k x, some_same f g k xs)

  some_or : (f g : A → Bool) (xs : List A) → some_of (λ x. f x || g x) xs ≡ (some_of f xs || some_of g xs)
  unfolding some_of
  some_or f g [] = refl
  some_or f g (x ∷ xs) = by_bool (f x) (λ e. rw e) (λ e. by_bool (g x) (λ h. rw (e, h) (last (some_of f xs))) (λ h. rw (e, h) (some_or f g xs)))
    where
      last : (b : Bool) → true ≡ (b || true)
      last true = refl
      last false = refl

  -- of the one element that passes a test
  some_only : (f g : A → Bool) (d : A) (xs : List A) (i : ℕ) → f d ≡ false → f (get_or xs i d) ≡ true → all_of (λ x. not (f x)) (set xs i d) ≡ true → some_of (λ x. g x && f x) xs ≡ g (get_or xs i d)
  unfolding some_of all_tails
  some_only f g d [] i z e h = clash e z
  some_only f g d (x ∷ xs) zero z e h =
      let rest : some_of (λ y. g y && f y) xs ≡ false = some_none (λ y. g y && f y) xs (all_weak (λ y. not (f y)) (λ y. not (g y && f y)) (λ y n. rw (not-true (f y) n) (no_and (g y))) xs (both (not (f d)) _ h).1) in
      rw (e, rest) (trim (g x))
    where
      no_and : (b : Bool) → not (b && false) ≡ true
      no_and true = refl
      no_and false = refl

      trim : (b : Bool) → ((b && true) || false) ≡ b
      trim true = refl
      trim false = refl
  some_only f g d (x ∷ xs) (suc i) z e h =
      let k = both (not (f x)) _ h in
      rw (not-true (f x) k.0) (skip (some_of (λ y. g y && f y) xs) (g x) ∙ some_only f g d xs i z e k.1)
    where
      skip : (c b : Bool) → ((b && false) || c) ≡ c
      skip c true = refl
      skip c false = refl

-- ---- "given twice": no address of the device and its links is there twice

apart_twice : (a : ℕ) → eqb a 0 ≡ false → (n : ℕ) (ls : List ℕ) → all_of (λ l. eqb l 0) (drop n ls) ≡ true → all_of (apart a) ls ≡ not (some_of (eqb a) (take n ls))
unfolding all_tails some_of
apart_twice a z zero ls h = all_weak (λ (l : ℕ). eqb l 0) (apart a) (λ l e. rw (eqb-true l 0 e, swap a 0 z)) ls h
apart_twice a z (suc n) [] h = refl
apart_twice a z (suc n) (l ∷ ls) h = rw (turn_eqb l a) (by_bool (eqb a l) (λ e. rw e) (λ e. rw e (apart_twice a z n ls h)))

zeros_distinct : (ls : List ℕ) → all_of (λ l. eqb l 0) ls ≡ true → distinct_of ls ≡ true
unfolding all_tails alone_in
zeros_distinct [] h = refl
zeros_distinct (l ∷ ls) h = let e = both (eqb l 0) _ h in rw e.0 (zeros_distinct ls e.1)

pub distinct_twice : (n : ℕ) (ls : List ℕ) → all_of (λ l. not (eqb l 0)) (take n ls) ≡ true → all_of (λ l. eqb l 0) (drop n ls) ≡ true → distinct_of ls ≡ not (twice (take n ls))
unfolding all_tails alone_in twice
distinct_twice zero ls g h = zeros_distinct ls h
distinct_twice (suc n) [] g h = refl
distinct_twice (suc n) (l ∷ ls) g h =
    let e = both (not (eqb l 0)) _ g in
    let z = not-true _ e.0 in
    rw (z, apart_twice l z n ls h, distinct_twice n ls e.1 h) (regroup (some_of (eqb l) (take n ls)) (twice (take n ls)))
  where
    regroup : (a b : Bool) → (not a && not b) ≡ not (a || b)
    regroup true b = refl
    regroup false b = refl

-- ---- "in use elsewhere"

module _ (s : Settings) (t : List Record) (w : Facts s t) (device : ℕ) (named : eqb device 0 ≡ false) where
  abbrev ads : List ℕ
  ads = addresses_of t

  address_found : (n a : ℕ) (u : List Record) → some_of (λ p. eqb p.address a) u ≡ is_found (first_from (λ b. eqb b a) n (addresses_of u))
  unfolding some_of first_from
  address_found n a [] = refl
  address_found n a (p ∷ u) = by_bool (eqb p.address a) (λ e. rw e) (λ e. rw e (address_found (n + 1) a u))

  -- whether the record at a place is the device's, by where the device is found
  at_device : (j : ℕ) → (i : Option ℕ) → find_of ads device ≡ i → j < length t → eqb (get_or t j free_of).address device ≡ on_found i false (λ i. eqb i j)
  at_device j None e h =
      not-true _ (rw (get_map address_of t j free_of) at (all_at (λ (b : ℕ). not (eqb b device)) ads j 0 (first_none (λ (b : ℕ). eqb b device) ads 0 e) (rw (length-map t address_of) h)))
  at_device j (Some i) e h = by_bool (eqb (get_or t j free_of).address device)
      (λ q.
      let same = eqb-true _ device q in
      let there : find_of ads device ≡ Some j = rw same at (find_at t j w.distinct h (rw same named)) in
      let one : Some i ≡ Some j = sym e ∙ there in
      let k : i ≡ j = cc in
      q ∙ sym (eq-eqb i j k))
      (λ q. q ∙ sym (ne_eqb i j (λ (k : i ≡ j). eqb-false _ device q (rw (← k) (found_address t device i e)))))

  pub elsewhere_same :
      (l : ℕ) → eqb l 0 ≡ false → eqb l device ≡ false
      → elsewhere t device l ≡ used_elsewhere (find_of ads device) (find_of ads l) (find_link_of t l)
  unfolding used_elsewhere
  elsewhere_same l z other =
      some_same (λ (p : Record). not (eqb p.address device) && (eqb p.address l || has_link l p)) (λ p. eqb p.address l || (not (eqb p.address device) && has_link l p)) split t
      ∙ some_or (λ (p : Record). eqb p.address l) (λ p. not (eqb p.address device) && has_link l p) t
      ∙ rw (address_found 0 l t, linked (find_link_of t l) refl)
    where
      split : (p : Record) → (not (eqb p.address device) && (eqb p.address l || has_link l p)) ≡ (eqb p.address l || (not (eqb p.address device) && has_link l p))
      split p = by_bool (eqb p.address l)
          (λ e. let n : eqb p.address device ≡ false = rw (eqb-true _ l e) other in rw (e, n))
          (λ e. rw e)

      no_and : (b : Bool) → not (b && false) ≡ true
      no_and true = refl
      no_and false = refl

      linked : (f : Option ℕ) → find_link_of t l ≡ f → some_of (λ p. not (eqb p.address device) && has_link l p) t ≡ on_found f false (λ j. not (on_found (find_of ads device) false (λ i. eqb i j)))
      linked None e =
          some_none (λ (p : Record). not (eqb p.address device) && has_link l p) t
          (all_weak (λ (p : Record). not (has_link l p)) (λ p. not (not (eqb p.address device) && has_link l p)) (λ p n. rw (not-true (has_link l p) n) (no_and (not (eqb p.address device)))) t (link_nowhere t l z e))
      linked (Some j) e =
          let h = link_found t l j e in
          some_only (has_link l) (λ p. not (eqb p.address device)) free_of t j (free_without l z) h.1 (only_here l z t j (apart_both (link_addresses_of t) ads w.apart).0 h.1)
          ∙ apply not (at_device j (find_of ads device) refl (link_inside t l j e))
