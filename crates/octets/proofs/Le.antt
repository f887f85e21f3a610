-- Laws of little-endian numbers: a field is its first octets and then the rest, and a number's octets give it back.
-- Assumes nothing.
use mathlib.Core.Path.{◌≡◌, refl, ap, ◌∙◌}
use mathlib.Core.List.{List, [], ◌∷◌, ◌++◌}
use Prim.Native.Nat.{ℕ, zero, suc, ◌+◌, ◌*◌, ◌^◌, ◌/◌, ◌<◌, ◌≤◌}
use native.Mathlib.Nat.{pow-suc, div-lt_iff_lt-mul, mul_comm, mul_assoc, mul-add, mul-zero}
use native.Mathlib.Omega.{arith}
use lib.ListN.{length, get_or, take, drop, length-drop, drop_of_length-le}
use lib.Dec.{leb}
use borrow.Author.Tests.{leb-true, leb-false}
use lib.Seq.{drop-cons, take-add, drop-drop, length-take-le}
use Rattle.octets.specs.Field.{le, octets, field}
use Rattle.octets.proofs.Branch.{by_bool}

-- One octet.
pub le_one : (xs : List ℕ) (k : ℕ) → k < length xs → get_or xs k 0 ≡ field 1 k xs
le_one xs k h = rw (drop-cons xs k 0 h) (omega arith)

-- No octet.
pub le_none : (n : ℕ) (xs : List ℕ) (k : ℕ) → length xs ≤ k → 0 ≡ field n k xs
le_none zero xs k h = refl
le_none (suc n) xs k h = rw (drop_of_length-le xs h)

-- A number of n octets is what its octets give.
pub le_octets : (n v : ℕ) → v < 256 ^ n → le (octets n v) ≡ v
unfolding octets
le_octets zero v h = omega arith
le_octets (suc n) v h =
    let e : le (octets n (v / 256)) ≡ v / 256 = le_octets n (v / 256) ((div-lt_iff_lt-mul (omega arith)).1 (rw pow-suc at h)) in
    omega arith

le_append : (xs ys : List ℕ) → le (xs ++ ys) ≡ le xs + 256 ^ length xs * le ys
le_append [] ys = omega arith
le_append (x ∷ xs) ys =
    rw (le_append xs ys, pow-suc)
    (omega (arith, mul_comm (256 ^ length xs) 256, mul_assoc 256 (256 ^ length xs) (le ys), mul-add 256 (le xs) (256 ^ length xs * le ys)))

-- A field of n + m octets is a field of n and then one of m, also where the octets end before.
pub le_split : (n m k : ℕ) (xs : List ℕ) → field (n + m) k xs ≡ field n k xs + 256 ^ n * field m (k + n) xs
le_split n m k xs = by_bool (leb (k + n) (length xs)) (λ e. whole (leb-true (k + n) (length xs) e)) (λ e. short (leb-false (k + n) (length xs) e))
  where
    whole : k + n ≤ length xs → field (n + m) k xs ≡ field n k xs + 256 ^ n * field m (k + n) xs
    whole h =
        let l : length (take n (drop k xs)) ≡ n = length-take-le n (drop k xs) (simp length-drop (omega arith)) in
        rw (take-add, le_append, drop-drop, l)

    short : length xs < k + n → field (n + m) k xs ≡ field n k xs + 256 ^ n * field m (k + n) xs
    short h =
        rw (take-add, le_append, drop-drop, ← le_none m xs (k + n) (omega arith), mul-zero (256 ^ length (take n (drop k xs))), mul-zero (256 ^ n))

-- The same where the place of the second is written otherwise.
pub at_place : (n m i j : ℕ) (xs : List ℕ) → i + n ≡ j → field (n + m) i xs ≡ field n i xs + 256 ^ n * field m j xs
at_place n m i j xs q = le_split n m i xs ∙ rw q

pub length_octets : (n v : ℕ) → length (octets n v) ≡ n
unfolding octets
length_octets zero v = refl
length_octets (suc n) v = ap suc (length_octets n (v / 256))
