-- A rearrangement given by places, and a test that antt computes: it keeps each peer's own events in order. And a test that every peer named
-- has a record. The examples of demand 3 pass both.
-- Assumes nothing.
use Prim.Native.Nat.{ℕ, zero, suc, ◌<◌}
use native.Mathlib.Nat.{not-suc-le-zero, le_of_suc-le-suc}
use native.Mathlib.Omega.{arith}
use mathlib.Core.Path.{◌≡◌, refl, sym, ap, ◌∙◌}
use mathlib.Core.Logic.{◌≢◌}
use mathlib.Core.Bool.{Bool, true, false, not, ◌&&◌, ◌||◌}
use mathlib.Core.Option.{Option, none, some}
use mathlib.Core.List.{List, [], ◌∷◌, map}
use lib.Dec.{T, eqb, ltb, ltb→lt, eqb→eq}
use lib.ListN.{length, get_or, get_elem?, length-map, get_or-map}
use borrow.Author.Tests.{eqb-true, eqb-false, eq-eqb, lt-ltb}
use Rattle.table.specs.Order.{Moved, Has, Named}
use Rattle.table.proofs.Order.Weave.{inside}

and_left : (a b : Bool) → T (a && b) → T a
and_left true b h = tt
and_left false b h = h

and_right : (a b : Bool) → T (a && b) → T b
and_right true b h = h
and_right false b h = absurd h

-- every test of a list passes
abbrev pub all : List Bool → Bool
all [] = true
all (b ∷ bs) = b && all bs

abbrev Each : List Bool → Type 0
Each [] = Unit {0}
Each (b ∷ bs) = T b × Each bs

each : (bs : List Bool) → T (all bs) → Each bs
each [] t = tt
each (b ∷ bs) t = (and_left b (all bs) t, each bs (and_right b (all bs) t))

-- the test passes at every number below n
abbrev below : (ℕ → Bool) → ℕ → Bool
below f zero = true
below f (suc n) = f n && below f n

below_at : (f : ℕ → Bool) (n k : ℕ) → T (below f n) → k < n → T (f k)
below_at f zero k t h = absurd (not-suc-le-zero h)
below_at f (suc n) k t h = go (eqb k n) refl (below_at f n k (and_right (f n) (below f n) t))
  where
    go : (b : Bool) → eqb k n ≡ b → (k < n → T (f k)) → T (f k)
    go true e ih = rw (eqb-true k n e) (and_left (f n) (below f n) t)
    go false e ih = ih (let ne : k ≢ n = eqb-false k n e in omega arith)

abbrev same_key : Option ℕ → Option ℕ → Bool
same_key none o = false
same_key (some a) none = false
same_key (some a) (some b) = eqb a b

elem_get_d : {E : Type 0} (l : List E) (k : ℕ) (d : E) → k < length l → get_elem? l k ≡ some (get_or l k d)
elem_get_d [] k d h = absurd (not-suc-le-zero h)
elem_get_d (x ∷ l) zero d h = refl
elem_get_d (x ∷ l) (suc k) d h = elem_get_d l k d (le_of_suc-le-suc h)

module _ {E : Type 0} (d : E) (key : E → Option ℕ) (l : List E) (ps qs : List ℕ) where
  -- the event at place k of the rearranged list is the one at place `qs k` of l; the event at place k of l goes to `ps k`
  abbrev pub rearranged : List E
  rearranged = map (λ q. get_or l q d) qs

  abbrev goods : ℕ → List Bool
  goods k = ltb (get_or ps k 0) (length l) ∷ ltb (get_or qs k 0) (length l) ∷ eqb (get_or qs (get_or ps k 0) 0) k ∷ eqb (get_or ps (get_or qs k 0) 0) k ∷ []

  abbrev order : ℕ → ℕ → Bool
  order j k = not (ltb j k) || not (same_key (key (get_or l j d)) (key (get_or l k d))) || ltb (get_or ps j 0) (get_or ps k 0)

  abbrev tests : List Bool
  tests = eqb (length qs) (length l) ∷ below (λ k. all (goods k)) (length l) ∷ below (λ j. below (order j) (length l)) (length l) ∷ []

  abbrev pub allowed : Bool
  allowed = all tests

  pub moved : T allowed → Moved key l rearranged (λ k. get_or ps k 0) (λ k. get_or qs k 0)
  moved t = record { to_in = to_in; from_in = from_in; from_to = from_to; to_from = to_from; same_event = same_event; in_order = in_order }
    where
      u : Each tests
      u = each tests t

      long : length rearranged ≡ length l
      long = length-map qs (λ q. get_or l q d) ∙ eqb→eq _ _ u.0

      good : (k : ℕ) → k < length l → Each (goods k)
      good k h = each (goods k) (below_at (λ i. all (goods i)) (length l) k u.1.0 h)

      ordered : (j k : ℕ) → j < length l → k < length l → T (order j k)
      ordered j k h g = below_at (order j) (length l) k (below_at (λ i. below (order i) (length l)) (length l) j u.1.1.0 h) g

      to_in : (k : ℕ) → k < length l → get_or ps k 0 < length rearranged
      to_in k h = rw long (ltb→lt _ _ (good k h).0)

      from_in : (k : ℕ) → k < length rearranged → get_or qs k 0 < length l
      from_in k h = ltb→lt _ _ (good k (rw long at h)).1.0

      from_to : (k : ℕ) → k < length l → get_or qs (get_or ps k 0) 0 ≡ k
      from_to k h = eqb→eq _ _ (good k h).1.1.0

      to_from : (k : ℕ) → k < length rearranged → get_or ps (get_or qs k 0) 0 ≡ k
      to_from k h = eqb→eq _ _ (good k (rw long at h)).1.1.1.0

      same_event : (k : ℕ) → k < length l → get_elem? rearranged (get_or ps k 0) ≡ get_elem? l k
      same_event k h =
          elem_get_d rearranged (get_or ps k 0) (get_or l 0 d) (to_in k h)
          ∙ ap some (get_or-map (λ q. get_or l q d) qs (get_or ps k 0) 0 ∙ ap (λ (q : ℕ). get_or l q d) (from_to k h))
          ∙ sym (elem_get_d l k d h)

      in_order : (j k : ℕ) (e f : E) (a : ℕ) → j < k → get_elem? l j ≡ some e → get_elem? l k ≡ some f → key e ≡ some a → key f ≡ some a → get_or ps j 0 < get_or ps k 0
      in_order j k e f a h p q y z =
          let hj : j < length l = inside l j e p in
          let hk : k < length l = inside l k f q in
          let ej : get_or l j d ≡ e = cc (elem_get_d l j d hj) in
          let ek : get_or l k d ≡ f = cc (elem_get_d l k d hk) in
          ltb→lt _ _ (rw (lt-ltb j k h, ej, ek, y, z, eq-eqb a a refl) at (ordered j k hj hk))

-- every peer that is named has a record: the test
module _ {R E : Type 0} (d : R) (addr : R → ℕ) (key : E → Option ℕ) where
  abbrev pub member : ℕ → List R → Bool
  member a [] = false
  member a (r ∷ t) = eqb (addr r) a || member a t

  abbrev pub known : List R → Option ℕ → Bool
  known t none = true
  known t (some a) = member a t

  member_has : (t : List R) (a : ℕ) → T (member a t) → Has d addr t a
  member_has [] a m = absurd m
  member_has (r ∷ t) a m = go (eqb (addr r) a) refl (member_has t a) m
    where
      go : (b : Bool) → eqb (addr r) a ≡ b → (T (member a t) → Has d addr t a) → T (b || member a t) → Has d addr (r ∷ t) a
      go true e ih u = (0, omega arith, eqb-true (addr r) a e)
      go false e ih u = let p = ih u in let l : p.0 < length t = p.1 in (suc p.0, omega arith, p.2)

  known_has : (t : List R) (o : Option ℕ) (a : ℕ) → o ≡ some a → T (known t o) → Has d addr t a
  known_has t none a e k = let z : ◌≡◌ {A = ℕ} 0 1 = cc in absurd (omega arith)
  known_has t (some b) a e k = let p : b ≡ a = cc in member_has t a (rw p at k)

  abbrev pub all_known : List R → List E → Bool
  all_known t [] = true
  all_known t (e ∷ l) = known t (key e) && all_known t l

  pub named_all : (t : List R) (l : List E) → T (all_known t l) → Named d addr key t l
  named_all t [] h k e a p q = let z : ◌≡◌ {A = ℕ} 0 1 = cc in absurd (omega arith)
  named_all t (x ∷ l) h zero e a p q = known_has t (key x) a ((let r : x ≡ e = cc in ap key r) ∙ q) (and_left (known t (key x)) (all_known t l) h)
  named_all t (x ∷ l) h (suc k) e a p q = named_all t l (and_right (known t (key x)) (all_known t l) h) k e a p q
