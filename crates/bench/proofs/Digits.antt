-- Laws of numbers in decimal: how long they are, and their last digit.
-- Assumes nothing.
use mathlib.Core.Path.{◌≡◌, refl}
use mathlib.Core.Bool.{Bool, true, false}
use mathlib.Core.List.{List, [], ◌∷◌, ◌++◌}
use Prim.Native.Nat.{ℕ, zero, suc, ◌+◌, ◌-◌, ◌/◌, ◌%◌, ◌≤◌}
use native.Mathlib.Omega.{arith}
use native.Mathlib.Numerals.{sub-one}
use lib.Dec.{ltb}
use lib.ListN.{length, length-append}
use Rattle.octets.specs.Pick.{pick}
use Rattle.bench.specs.Text.{tens, field_of}

pub tens_none : (n : ℕ) → tens 0 n ≡ []
unfolding tens
tens_none n = refl

-- Where a digit is left: the last digit behind the others.
pub tens_more : (k n : ℕ) → (k ≡ 0 → ⊥) → tens k n ≡ pick (ltb n 10) ((48 + n) ∷ []) (tens (k - 1) (n / 10) ++ ((48 + n % 10) ∷ []))
unfolding tens
tens_more zero n f = absurd (f refl)
tens_more (suc k) n f = rw sub-one refl

shorter : (k n : ℕ) (l : List ℕ) → length l ≤ k → (b : Bool) → length (pick b ((48 + n) ∷ []) (l ++ ((48 + n % 10) ∷ []))) ≤ suc k
shorter k n l h true = omega arith
shorter k n l h false = simp length-append (omega arith)

pub tens_length : (k n : ℕ) → length (tens k n) ≤ k
unfolding tens
tens_length zero n = omega arith
tens_length (suc k) n = shorter k n (tens k (n / 10)) (tens_length k (n / 10)) (ltb n 10)

pub field_length : (k n : ℕ) → length (field_of k n) ≤ k + 1
unfolding field_of
field_length k n = simp length-append (omega (arith, tens_length k n))
