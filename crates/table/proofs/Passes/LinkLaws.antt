-- Laws of the links in a table: where no link is in two slots or a device's address (`links_apart`) a link is one record's alone.
-- Assumes nothing.
use Prim.Native.Nat.{ℕ, zero, suc, ◌+◌, ◌-◌, ◌<◌}
use mathlib.Core.Path.{◌≡◌, refl, sym, ap, ◌∙◌}
use mathlib.Core.Bool.{Bool, true, false, not, ◌&&◌}
use mathlib.Core.List.{List, [], ◌∷◌, ◌++◌}
use native.Mathlib.Omega.{arith}
use lib.Dec.{eqb}
use lib.ListN.{get_or, length, set}
use borrow.Author.Tests.{eqb-true, not-false, not-true}
use Rattle.octets.proofs.Branch.{by_bool}
use Rattle.octets.specs.Links.{links_of}
use Rattle.peer.proofs.Fits.{both, clash, wrong}
use Rattle.peer.specs.Record.{free_of}
use Rattle.peer.specs.declared.record.Record.{Record}
use Rattle.table.specs.Fit.{alone_in, apart, distinct_of, links_apart}
use Rattle.table.specs.Places.{all_of, all_tails, find_link_of, first_from, has_link, is_found, link_addresses_of, some_of}
use Rattle.std.specs.Prelude.{Option, Some, None}
use Rattle.table.proofs.Passes.Lists.{all_get, first_at, first_none, join, swap}

-- ---- tests over lists

module _ {A : Type 0} where
  pub all_weak : (f g : A → Bool) → ((x : A) → f x ≡ true → g x ≡ true) → (t : List A) → all_of f t ≡ true → all_of g t ≡ true
  unfolding all_tails
  all_weak f g k [] h = refl
  all_weak f g k (x ∷ t) h = join (k x (both (f x) _ h).0) (all_weak f g k t (both (f x) _ h).1)

  pub all_append : (f : A → Bool) (xs ys : List A) → all_of f (xs ++ ys) ≡ (all_of f xs && all_of f ys)
  unfolding all_tails
  all_append f [] ys = refl
  all_append f (x ∷ xs) ys = by_bool (f x) (λ e. rw e (all_append f xs ys)) (λ e. rw e)

  pub some_all : (f : A → Bool) (xs : List A) → some_of f xs ≡ not (all_of (λ x. not (f x)) xs)
  unfolding some_of all_tails
  some_all f [] = refl
  some_all f (x ∷ xs) = by_bool (f x) (λ e. rw e) (λ e. rw e (some_all f xs))

  pub some_found : (f : A → Bool) (n : ℕ) (xs : List A) → some_of f xs ≡ is_found (first_from f n xs)
  unfolding some_of first_from
  some_found f n [] = refl
  some_found f n (x ∷ xs) = by_bool (f x) (λ e. rw e) (λ e. rw e (some_found f (n + 1) xs))

  -- the one element that passes a test is the first
  pub first_only :
      (f : A → Bool) (d : A) (t : List A) (n i : ℕ) → f d ≡ false → f (get_or t i d) ≡ true → all_of (λ p. not (f p)) (set t i d) ≡ true
      → first_from f n t ≡ Some (n + i)
  unfolding first_from all_tails
  first_only f d [] n i z e h = clash e z
  first_only f d (p ∷ ps) n zero z e h = rw e (ap Some (omega arith))
  first_only f d (p ∷ ps) n (suc i) z e h =
      let k = both (not (f p)) _ h in
      rw (not-true (f p) k.0) (first_only f d ps (n + 1) i z e k.1 ∙ ap Some (omega arith))

-- ---- the two halves of `links_apart`

pub apart_both : (ls ads : List ℕ) → links_apart ls ads ≡ true → (distinct_of ls ≡ true) × (all_of (λ l. alone_in l ads) ls ≡ true)
unfolding all_tails
apart_both [] ads h = (refl, refl)
apart_both (l ∷ ls) ads h =
    let a = both (alone_in l ls && alone_in l ads) _ h in
    let b = both (alone_in l ls) _ a.0 in
    let k = apart_both ls ads a.1 in
    (join b.0 k.0, join b.1 k.1)

pub both_apart : (ls ads : List ℕ) → distinct_of ls ≡ true → all_of (λ l. alone_in l ads) ls ≡ true → links_apart ls ads ≡ true
unfolding all_tails
both_apart [] ads d e = refl
both_apart (l ∷ ls) ads d e =
    let a = both (alone_in l ls) _ d in
    let b = both (alone_in l ads) _ e in
    join {a = alone_in l ls && alone_in l ads} (join a.0 b.0) (both_apart ls ads a.1 b.1)

-- ---- the links of the records

pub all_links : (f : ℕ → Bool) (t : List Record) → all_of f (link_addresses_of t) ≡ all_of (λ p. all_of f (links_of p.links)) t
unfolding link_addresses_of all_tails
all_links f [] = refl
all_links f (p ∷ ps) = all_append f (links_of p.links) (link_addresses_of ps) ∙ rw (all_links f ps)

-- a record that has not a link
pub without : (a : ℕ) (p : Record) → has_link a p ≡ not (all_of (apart a) (links_of p.links))
without a p = some_all (λ l. eqb l a) (links_of p.links)

pub free_without : (a : ℕ) → eqb a 0 ≡ false → has_link a free_of ≡ false
unfolding some_of
free_without a z = rw (swap a 0 z)

distinct_right : (xs ys : List ℕ) → distinct_of (xs ++ ys) ≡ true → distinct_of ys ≡ true
unfolding all_tails
distinct_right [] ys h = h
distinct_right (x ∷ xs) ys h = distinct_right xs ys (both (alone_in x (xs ++ ys)) _ h).1

-- what is in the front of a list without an address twice is not behind it
behind : (a : ℕ) → eqb a 0 ≡ false → (xs ys : List ℕ) → distinct_of (xs ++ ys) ≡ true → some_of (λ l. eqb l a) xs ≡ true → all_of (apart a) ys ≡ true
unfolding all_tails some_of alone_in
behind a z [] ys h e = wrong e
behind a z (x ∷ xs) ys h e =
    let k = both (alone_in x (xs ++ ys)) _ h in
    by_bool (eqb x a)
    (λ b.
    let same : x ≡ a = eqb-true x a b in
    let here : alone_in a (xs ++ ys) ≡ true = rw same at k.0 in
    (both (all_of (apart a) xs) _ (sym (all_append (apart a) xs ys) ∙ rw z at here)).1)
    (λ b. behind a z xs ys k.1 (rw b at e))

-- in a table without a link twice, the record that has a link is the only one
module _ (a : ℕ) (z : eqb a 0 ≡ false) where
  none_have : (t : List Record) → all_of (apart a) (link_addresses_of t) ≡ true → all_of (λ p. not (has_link a p)) t ≡ true
  none_have t h =
      all_weak (λ (p : Record). all_of (apart a) (links_of p.links)) (λ p. not (has_link a p)) (λ p e. rw (without a p, e)) t (sym (all_links (apart a) t) ∙ h)

  pub only_here : (t : List Record) (i : ℕ) → distinct_of (link_addresses_of t) ≡ true → has_link a (get_or t i free_of) ≡ true → all_of (λ p. not (has_link a p)) (set t i free_of) ≡ true
  unfolding all_tails link_addresses_of
  only_here [] i d h = refl
  only_here (p ∷ ps) zero d h =
      join {a = not (has_link a free_of)} (rw (free_without a z)) (none_have ps (behind a z (links_of p.links) (link_addresses_of ps) d h))
  only_here (p ∷ ps) (suc i) d h =
      join {a = not (has_link a p)} (by_bool (has_link a p)
      (λ e.
      let none = none_have ps (behind a z (links_of p.links) (link_addresses_of ps) d e) in
      clash h (not-true _ (all_get (λ (q : Record). not (has_link a q)) ps i free_of none (rw (free_without a z)))))
      (λ e. rw e))
      (only_here ps i (distinct_right (links_of p.links) (link_addresses_of ps) d) h)

  pub link_place : (t : List Record) (i : ℕ) → distinct_of (link_addresses_of t) ≡ true → has_link a (get_or t i free_of) ≡ true → find_link_of t a ≡ Some i
  unfolding find_link_of
  link_place t i d h = rw z (first_only (has_link a) free_of t 0 i (free_without a z) h (only_here t i d h) ∙ ap Some (omega arith))

-- what is found
pub link_found : (t : List Record) (a i : ℕ) → find_link_of t a ≡ Some i → (eqb a 0 ≡ false) × (has_link a (get_or t i free_of) ≡ true)
unfolding find_link_of
link_found t a i e = by_bool (eqb a 0)
    (λ z.
    let q : None ≡ Some i = rw z at e in
    let w : ◌≡◌ {A = ℕ} 0 1 = cc in absurd (omega arith))
    (λ z.
    let at_i : i - 0 ≡ i = omega arith in
    (z, rw at_i at (first_at (has_link a) free_of t 0 i (rw z at e)).1))

has_inside : (a : ℕ) → eqb a 0 ≡ false → (t : List Record) (i : ℕ) → has_link a (get_or t i free_of) ≡ true → i < length t
has_inside a z [] i k = clash k (free_without a z)
has_inside a z (p ∷ ps) zero k = omega arith
has_inside a z (p ∷ ps) (suc i) k = let l = has_inside a z ps i k in omega arith

pub link_inside : (t : List Record) (a i : ℕ) → find_link_of t a ≡ Some i → i < length t
link_inside t a i e = let h = link_found t a i e in has_inside a h.0 t i h.1

pub unfound : (f : Option ℕ) → is_found f ≡ false → f ≡ None
unfound None e = refl
unfound (Some i) e = wrong (sym e)

pub link_some : (t : List Record) (a : ℕ) → eqb a 0 ≡ false → some_of (has_link a) t ≡ is_found (find_link_of t a)
unfolding find_link_of
link_some t a z = rw z (some_found (has_link a) 0 t)

-- what is not found is no record's link
pub link_nowhere : (t : List Record) (a : ℕ) → eqb a 0 ≡ false → find_link_of t a ≡ None → all_of (λ p. not (has_link a p)) t ≡ true
unfolding find_link_of
link_nowhere t a z e = first_none (has_link a) t 0 (rw z at e)

pub apart_links : (a : ℕ) (t : List Record) → all_of (λ p. not (has_link a p)) t ≡ true → all_of (apart a) (link_addresses_of t) ≡ true
apart_links a t h =
    all_links (apart a) t
    ∙ all_weak (λ (p : Record). not (has_link a p)) (λ p. all_of (apart a) (links_of p.links)) (λ p e. not-false _ (sym (without a p) ∙ not-true _ e)) t h

pub no_link : (t : List Record) (a : ℕ) → eqb a 0 ≡ false → find_link_of t a ≡ None → all_of (apart a) (link_addresses_of t) ≡ true
no_link t a z e = apart_links a t (link_nowhere t a z e)
