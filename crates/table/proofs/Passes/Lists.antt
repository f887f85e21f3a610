-- Laws of the definitions over lists: what one element stored, and what a map, leaves of a test of all, a count and distinct addresses.
-- Assumes nothing.
use Prim.Native.Nat.{ℕ, zero, suc, ◌+◌, ◌-◌, ◌≤◌}
use mathlib.Core.Path.{◌≡◌, refl, sym}
use mathlib.Core.Bool.{Bool, true, false, not, ◌&&◌}
use mathlib.Core.List.{List, [], ◌∷◌, map}
use native.Mathlib.Omega.{arith}
use lib.Dec.{eqb}
use lib.ListN.{get_or, set}
use borrow.Author.Tests.{eqb-true, eqb-false, ne_eqb, not-true}
use Rattle.octets.proofs.Branch.{by_bool}
use Rattle.octets.specs.Pick.{pick}
use Rattle.peer.proofs.Fits.{both, or_right}
use Rattle.peer.specs.declared.record.Record.{Record}
use Rattle.table.proofs.Passes.Loops.{at_most_one}
use Rattle.table.specs.Places.{first_from, all_tails, all_of, count_of, addresses_of}
use Rattle.table.specs.Fit.{alone_in, apart, distinct_of}
use Rattle.std.specs.Prelude.{Some, None}

pub join : {a b : Bool} → a ≡ true → b ≡ true → (a && b) ≡ true
join {a} {b} h k = rw (h, k)

pub all_get : {A : Type 0} (f : A → Bool) (t : List A) (i : ℕ) (d : A) → all_of f t ≡ true → f d ≡ true → f (get_or t i d) ≡ true
unfolding all_tails
all_get f [] i d h e = e
all_get f (p ∷ ps) zero d h e = (both (f p) _ h).0
all_get f (p ∷ ps) (suc i) d h e = all_get f ps i d (both (f p) _ h).1 e

pub all_set : {A : Type 0} (f : A → Bool) (t : List A) (i : ℕ) (a : A) → all_of f t ≡ true → f a ≡ true → all_of f (set t i a) ≡ true
unfolding all_tails
all_set f [] i a h e = refl
all_set f (p ∷ ps) zero a h e = join e (both (f p) _ h).1
all_set f (p ∷ ps) (suc i) a h e = join (both (f p) _ h).0 (all_set f ps i a (both (f p) _ h).1 e)

pub all_map :
    {A B : Type 0} (w : A → Bool) (f : B → Bool) (g : A → B) → ((p : A) → w p ≡ true → f (g p) ≡ true) → (t : List A) → all_of w t ≡ true
    → all_of f (map g t) ≡ true
unfolding all_tails
all_map w f g k [] h = refl
all_map w f g k (p ∷ ps) h = join (k p (both (w p) _ h).0) (all_map w f g k ps (both (w p) _ h).1)

one_low : (a b : Bool) → (a ≡ true → b ≡ true) → pick a 1 0 ≤ pick b 1 0
one_low true b h = rw (h refl) (omega arith)
one_low false b h = omega arith

pub count_set_low : {A : Type 0} (f : A → Bool) (t : List A) (i : ℕ) (d a : A) → (f a ≡ true → f (get_or t i d) ≡ true) → count_of f (set t i a) ≤ count_of f t
unfolding count_of
count_set_low f [] i d a h = omega arith
count_set_low f (p ∷ ps) zero d a h = omega (arith, one_low (f a) (f p) h)
count_set_low f (p ∷ ps) (suc i) d a h = omega (arith, count_set_low f ps i d a h)

pub count_set_one : {A : Type 0} (f : A → Bool) (t : List A) (i : ℕ) (a : A) → count_of f (set t i a) ≤ count_of f t + 1
unfolding count_of
count_set_one f [] i a = omega arith
count_set_one f (p ∷ ps) zero a = omega (arith, at_most_one (f a))
count_set_one f (p ∷ ps) (suc i) a = omega (arith, count_set_one f ps i a)

pub count_map :
    {A B : Type 0} (w : A → Bool) (f : B → Bool) (h : A → Bool) (g : A → B) → ((p : A) → w p ≡ true → f (g p) ≡ true → h p ≡ true)
    → (t : List A) → all_of w t ≡ true → count_of f (map g t) ≤ count_of h t
unfolding count_of all_tails
count_map w f h g k [] e = omega arith
count_map w f h g k (p ∷ ps) e =
    omega (arith, one_low (f (g p)) (h p) (k p (both (w p) _ e).0), count_map w f h g k ps (both (w p) _ e).1)

pub count_none : {A B : Type 0} (f : B → Bool) (g : A → B) → ((p : A) → f (g p) ≡ false) → (t : List A) → count_of f (map g t) ≡ 0
unfolding count_of
count_none f g k [] = refl
count_none f g k (p ∷ ps) = rw (k p, count_none f g k ps)

pub map_set : {A B : Type 0} (f : A → B) (l : List A) (i : ℕ) (a : A) → map f (set l i a) ≡ set (map f l) i (f a)
map_set f [] i a = refl
map_set f (p ∷ ps) zero a = refl
map_set f (p ∷ ps) (suc i) a = rw (map_set f ps i a)

pub map_same : {A B : Type 0} (f : A → B) (g : A → A) → ((p : A) → f (g p) ≡ f p) → (t : List A) → map f (map g t) ≡ map f t
map_same f g k [] = refl
map_same f g k (p ∷ ps) = rw (k p, map_same f g k ps)

pub get_map : {A B : Type 0} (f : A → B) (t : List A) (i : ℕ) (d : A) → get_or (map f t) i (f d) ≡ f (get_or t i d)
get_map f [] i d = refl
get_map f (p ∷ ps) zero d = refl
get_map f (p ∷ ps) (suc i) d = get_map f ps i d

-- ---- the first that passes a test

pub first_at : {A : Type 0} (f : A → Bool) (d : A) (l : List A) (n i : ℕ) → first_from f n l ≡ Some i → (n ≤ i) × (f (get_or l (i - n) d) ≡ true)
unfolding first_from
first_at f d [] n i e = wrong_found e
  where
    wrong_found : {P : Type 0} → None ≡ Some i → P
    wrong_found e = let z : ◌≡◌ {A = ℕ} 0 1 = cc in absurd (omega arith)
first_at f d (p ∷ ps) n i e = by_bool (f p)
    (λ b.
    let q : Some n ≡ Some i = rw b at e in
    let z : n ≡ i = cc in
    let zero_left : i - n ≡ 0 = omega arith in
    (omega arith, rw zero_left b))
    (λ b.
    let k = first_at f d ps (n + 1) i (rw b at e) in
    let low : n + 1 ≤ i = k.0 in
    let more : i - n ≡ suc (i - (n + 1)) = omega arith in
    (omega arith, rw more k.1))

pub first_none : {A : Type 0} (f : A → Bool) (l : List A) (n : ℕ) → first_from f n l ≡ None → all_of (λ b. not (f b)) l ≡ true
unfolding first_from all_tails
first_none f [] n e = refl
first_none f (p ∷ ps) n e = by_bool (f p)
    (λ b.
    let q : Some n ≡ None = rw b at e in
    let z : ◌≡◌ {A = ℕ} 0 1 = cc in absurd (omega arith))
    (λ b. rw b (first_none f ps (n + 1) (rw b at e)))

-- ---- distinct addresses

pub swap : (a b : ℕ) → eqb a b ≡ false → eqb b a ≡ false
swap a b e = ne_eqb b a (λ (z : b ≡ a). eqb-false a b e (sym z))

-- an address that is alone is so behind the first, and apart from it
alone_tail : (a b : ℕ) (bs : List ℕ) → alone_in a (b ∷ bs) ≡ true → alone_in a bs ≡ true
unfolding all_tails alone_in
alone_tail a b bs k = by_bool (eqb a 0) (λ z. rw z) (λ z. or_right (eqb a 0) _ (both (apart a b) _ (rw z at k)).1)

alone_apart : (a b : ℕ) (bs : List ℕ) → eqb b 0 ≡ false → alone_in a (b ∷ bs) ≡ true → apart b a ≡ true
unfolding all_tails alone_in
alone_apart a b bs e k = by_bool (eqb a 0)
    (λ z. rw (eqb-true a 0 z, swap b 0 e))
    (λ z. rw (swap b a (not-true _ (both (apart a b) _ (rw z at k)).0)))

-- an address that is 0 or nowhere may be stored anywhere
pub distinct_set : (ads : List ℕ) (i a : ℕ) → distinct_of ads ≡ true → alone_in a ads ≡ true → distinct_of (set ads i a) ≡ true
unfolding all_tails alone_in
distinct_set [] i a h k = refl
distinct_set (b ∷ bs) zero a h k = join (alone_tail a b bs k) (both (alone_in b bs) _ h).1
distinct_set (b ∷ bs) (suc i) a h k =
    join {a = alone_in b (set bs i a)} (by_bool (eqb b 0)
    (λ e. rw e)
    (λ e. rw e (all_set (apart b) bs i a (rw e at (both (alone_in b bs) _ h).0) (alone_apart a b bs e k))))
    (distinct_set bs i a (both (alone_in b bs) _ h).1 (alone_tail a b bs k))

-- addresses that stay or become 0 stay distinct
module _ (w : Record → Bool) (g : Record → Record) (k : (p : Record) → w p ≡ true → eqb (g p).address 0 ≡ false → (g p).address ≡ p.address) where
  apart_map :
      (a : ℕ) → eqb a 0 ≡ false → (t : List Record) → all_of w t ≡ true → all_of (apart a) (addresses_of t) ≡ true
      → all_of (apart a) (addresses_of (map g t)) ≡ true
  unfolding all_tails
  apart_map a z [] h e = refl
  apart_map a z (p ∷ ps) h e =
      join {a = apart a (g p).address} (by_bool (eqb (g p).address 0)
      (λ n. rw (eqb-true (g p).address 0 n, swap a 0 z))
      (λ n. rw (k p (both (w p) _ h).0 n) (both (apart a p.address) _ e).0))
      (apart_map a z ps (both (w p) _ h).1 (both (apart a p.address) _ e).1)

  pub alone_map : (a : ℕ) (t : List Record) → all_of w t ≡ true → alone_in a (addresses_of t) ≡ true → alone_in a (addresses_of (map g t)) ≡ true
  unfolding alone_in
  alone_map a t h e = by_bool (eqb a 0) (λ z. rw z) (λ z. rw z (apart_map a z t h (rw z at e)))

  pub distinct_map : (t : List Record) → all_of w t ≡ true → distinct_of (addresses_of t) ≡ true → distinct_of (addresses_of (map g t)) ≡ true
  unfolding all_tails alone_in
  distinct_map [] h e = refl
  distinct_map (p ∷ ps) h e =
      join {a = alone_in (g p).address (addresses_of (map g ps))} (by_bool (eqb (g p).address 0)
      (λ n. rw n)
      (λ n.
      let same : (g p).address ≡ p.address = k p (both (w p) _ h).0 n in
      let m : eqb p.address 0 ≡ false = rw same at n in
      rw (same, m) (apart_map p.address m ps (both (w p) _ h).1 (rw m at (both (alone_in p.address (addresses_of ps)) _ e).0))))
      (distinct_map ps (both (w p) _ h).1 (both (alone_in p.address (addresses_of ps)) _ e).1)
