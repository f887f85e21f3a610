-- 02, K6, "once sorted by place": `sorted_of` sorts (`sorts`): the same reports, in rising place, those of one place in their order. And what the sort makes
-- of reports whose places are known.
-- Assumes nothing.
use Prim.Native.Nat.{ℕ, ◌+◌, ◌≤◌}
use mathlib.Core.Path.{◌≡◌, refl, ap}
use mathlib.Core.Bool.{Bool, true, false}
use mathlib.Core.List.Perm
use mathlib.Core.List.{List, [], ◌∷◌, ◌++◌, Perm}
use native.Mathlib.Omega.{arith}
use lib.Dec.{eqb, leb}
use borrow.Author.Tests.{eqb-true, le-leb, leb-false, leb-true, lt-leb, ne_eqb}
use Rattle.octets.proofs.Branch.{and_left, and_right, by_bool, pick_both}
use Rattle.table.specs.Places.{all_of, all_tails}
use Rattle.table.specs.Sleep.{Sorts, insert_of, of_place, place_in, sorted_of}

-- a report, eight octets
abbrev Report : Type 0
Report = List ℕ

-- ---- the same reports

insert_same : (r : Report) (l : List Report) → Perm (insert_of r l) (r ∷ l)
unfolding insert_of
insert_same r [] = Perm.refl (r ∷ [])
insert_same r (q ∷ l) =
    pick_both (λ (k : List Report). Perm k (r ∷ q ∷ l)) (leb (place_in r) (place_in q)) (Perm.refl (r ∷ q ∷ l))
    (Perm.trans (Perm.cons q (insert_same r l)) (Perm.swap r q l))

sorted_same : (l : List Report) → Perm (sorted_of l) l
unfolding sorted_of
sorted_same [] = Perm.refl []
sorted_same (r ∷ l) = Perm.trans (insert_same r (sorted_of l)) (Perm.cons r (sorted_same l))

-- ---- in rising place

abbrev from_on : ℕ → Report → Bool
from_on i q = leb i (place_in q)

abbrev rises : List Report → Bool
rises l = all_tails (λ r later. all_of (λ q. leb (place_in r) (place_in q)) later) l

all_insert : (i : ℕ) (r : Report) (l : List Report) → from_on i r ≡ true → all_of (from_on i) l ≡ true → all_of (from_on i) (insert_of r l) ≡ true
unfolding insert_of all_tails
all_insert i r [] h k = rw h
all_insert i r (q ∷ l) h k = by_bool (leb (place_in r) (place_in q))
    (λ a. rw (a, h) k)
    (λ a. rw (a, and_left (from_on i q) _ k) (all_insert i r l h (and_right (from_on i q) _ k)))

all_lower : (i j : ℕ) → i ≤ j → (l : List Report) → all_of (from_on j) l ≡ true → all_of (from_on i) l ≡ true
unfolding all_tails
all_lower i j h [] k = refl
all_lower i j h (q ∷ l) k =
    let b = leb-true j (place_in q) (and_left (from_on j q) _ k) in
    rw (le-leb i (place_in q) (omega arith)) (all_lower i j h l (and_right (from_on j q) _ k))

insert_rises : (r : Report) (l : List Report) → rises l ≡ true → rises (insert_of r l) ≡ true
unfolding insert_of all_tails
insert_rises r [] h = refl
insert_rises r (q ∷ l) h =
    let low = and_left (all_of (from_on (place_in q)) l) _ h in
    by_bool (leb (place_in r) (place_in q))
    (λ a. rw (a, a, all_lower (place_in r) (place_in q) (leb-true (place_in r) (place_in q) a) l low) h)
    (λ a.
    let b = leb-false (place_in r) (place_in q) a in
    rw (a, all_insert (place_in q) r l (le-leb (place_in q) (place_in r) (omega arith)) low)
    (insert_rises r l (and_right (all_of (from_on (place_in q)) l) _ h)))

sorted_rises : (l : List Report) → rises (sorted_of l) ≡ true
unfolding sorted_of all_tails
sorted_rises [] = refl
sorted_rises (r ∷ l) = insert_rises r (sorted_of l) (sorted_rises l)

-- ---- those of one place in their order

insert_stable : (i : ℕ) (r : Report) (l : List Report) → of_place i (insert_of r l) ≡ of_place i (r ∷ l)
unfolding insert_of of_place
insert_stable i r [] = refl
insert_stable i r (q ∷ l) = by_bool (leb (place_in r) (place_in q))
    (λ a. rw a)
    (λ a. by_bool (eqb (place_in q) i)
    (λ e.
    let other : eqb (place_in r) i ≡ false = ne_eqb (place_in r) i (λ (z : place_in r ≡ i). let b = leb-false (place_in r) (place_in q) a in let c = eqb-true (place_in q) i e in omega arith) in
    rw (a, e, insert_stable i r l, other))
    (λ e. rw (a, e, insert_stable i r l)))

sorted_stable : (i : ℕ) (l : List Report) → of_place i (sorted_of l) ≡ of_place i l
unfolding sorted_of of_place
sorted_stable i [] = refl
sorted_stable i (r ∷ l) = rw (insert_stable i r (sorted_of l), sorted_stable i l)

pub sorts : (l : List Report) → Sorts l (sorted_of l)
sorts l = record { same = sorted_same l; rising = sorted_rises l; stable = λ i. sorted_stable i l }

-- ---- reports of known places

-- every report is of place i or above
abbrev pub Above : ℕ → List Report → Type 0
Above i [] = Unit
Above i (r ∷ l) = (i ≤ place_in r) × Above i l

pub above_less : (i j : ℕ) (l : List Report) → i ≤ j → Above j l → Above i l
above_less i j [] h a = tt
above_less i j (r ∷ l) h a = (omega (arith, a.0), above_less i j l h a.1)

pub above_append : (i : ℕ) (l m : List Report) → Above i l → Above i m → Above i (l ++ m)
above_append i [] m a b = b
above_append i (r ∷ l) m a b = (a.0, above_append i l m a.1 b)

above_insert : (i : ℕ) (r : Report) (l : List Report) → i ≤ place_in r → Above i l → Above i (insert_of r l)
unfolding insert_of
above_insert i r [] h a = (h, tt)
above_insert i r (q ∷ l) h a = pick_both (Above i) (leb (place_in r) (place_in q)) (h, a) (a.0, above_insert i r l h a.1)

above_sorted : (i : ℕ) (l : List Report) → Above i l → Above i (sorted_of l)
unfolding sorted_of
above_sorted i [] a = tt
above_sorted i (r ∷ l) a = above_insert i r (sorted_of l) a.0 (above_sorted i l a.1)

insert_low : (r : Report) (l : List Report) → Above (place_in r) l → insert_of r l ≡ r ∷ l
unfolding insert_of
insert_low r [] a = refl
insert_low r (q ∷ l) a = rw (le-leb (place_in r) (place_in q) a.0)

-- the report of the lowest place comes first
lowest : (r : Report) (a b : List Report) → Above (place_in r + 1) a → Above (place_in r + 1) b → sorted_of (a ++ (r ∷ b)) ≡ r ∷ sorted_of (a ++ b)
unfolding sorted_of insert_of
lowest r [] b p q = insert_low r (sorted_of b) (above_sorted (place_in r) b (above_less (place_in r) (place_in r + 1) b (omega arith) q))
lowest r (x ∷ a) b p q = rw (lowest r a b p.1 q, lt-leb (place_in x) (place_in r) (let h = p.0 in omega arith))

-- none, or one of place i
pub data One (i : ℕ) (l : List Report) : Type 0 where
  none : l ≡ [] → One i l
  some : (r : Report) → l ≡ r ∷ [] → place_in r ≡ i → One i l

pub above_one : (i : ℕ) (l : List Report) → One i l → Above i l
above_one i l (none e) = rw e tt
above_one i l (some r e p) = rw e (omega (arith, p), tt)

pub put : (i : ℕ) (l a b : List Report) → One i l → Above (i + 1) a → Above (i + 1) b → sorted_of (a ++ (l ++ b)) ≡ l ++ sorted_of (a ++ b)
put i l a b (none e) p q = rw e
put i l a b (some r e h) p q = rw e (lowest r a b (rw h p) (rw h q))

pub sorted_after : (a x y : List Report) → sorted_of x ≡ sorted_of y → sorted_of (a ++ x) ≡ sorted_of (a ++ y)
unfolding sorted_of
sorted_after [] x y e = e
sorted_after (r ∷ a) x y e = ap (insert_of r) (sorted_after a x y e)
