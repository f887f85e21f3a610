-- Laws of a block's text: how long its parts are, and one number more.
-- Assumes nothing.
use Prim.Native.Nat.{ℕ, zero, suc, ◌+◌, ◌*◌, ◌-◌, ◌≤◌}
use native.Mathlib.Numerals.{sub-one}
use native.Mathlib.Omega.{arith}
use mathlib.Core.Path.{◌≡◌, refl}
use mathlib.Core.List.{List, [], ◌∷◌, ◌++◌}
use lib.ListN.{get_or, length, length-append}
use Rattle.sums.specs.Sums as sums
use Rattle.sums.specs.declared.fraction.Fraction.{Fraction}
use Rattle.sums.specs.Sums.{Total}
use Rattle.std.specs.Prelude.{Option, Some, None}
use Rattle.bench.specs.Block.{number_text, numbers_from, row_text, fraction_text, mean_number, mean_text}
use Rattle.bench.specs.Output.{Output, Line, put_of, put_all}
use Rattle.bench.proofs.Digits.{tens_length}

pub number_length : (t : Total) → length (number_text t) ≤ 21
number_length (Some n) = omega (arith, tens_length 20 n)
number_length None = omega arith

pub numbers_none : (b : List Total) (first : ℕ) → numbers_from b first 0 ≡ []
unfolding numbers_from
numbers_none b first = refl

-- Where a number is left: the first, and the others behind it.
pub numbers_more : (b : List Total) (first count : ℕ) → (count ≡ 0 → ⊥) → numbers_from b first count ≡ number_text (get_or b first sums.zero) ++ numbers_from b (first + 1) (count - 1)
unfolding numbers_from
numbers_more b first zero f = absurd (f refl)
numbers_more b first (suc count) f = rw sub-one refl

pub numbers_length : (b : List Total) (first count : ℕ) → length (numbers_from b first count) ≤ 21 * count
unfolding numbers_from
numbers_length b first zero = omega arith
numbers_length b first (suc count) =
    simp length-append (omega (arith, number_length (get_or b first sums.zero), numbers_length b (first + 1) count))

pub row_length : (word : List ℕ) (b : List Total) (first count : ℕ) → length word ≤ 8 → count ≤ 9 → length (row_text word b first count) ≤ 256
unfolding row_text
row_length word b first count h g = simp length-append (omega (arith, numbers_length b first count, h, g))

pub fraction_length : (f : Fraction) → length (fraction_text f) ≤ 41
unfolding fraction_text
fraction_length f = simp length-append (omega (arith, tens_length 20 f.top, tens_length 20 f.bottom))

pub mean_length : (m : Option Fraction) → length (mean_number m) ≤ 41
mean_length (Some f) = fraction_length f
mean_length None = omega arith

pub mean_line_length : (m : Option Fraction) → length (mean_text m) ≤ 256
unfolding mean_text
mean_line_length m = simp length-append (omega (arith, mean_length m))

-- Lines put one behind the other.
pub three_lines : (u v w : Line) (o o₁ o₂ o₃ : Output) → o₁ ≡ put_of u o → o₂ ≡ put_of v o₁ → o₃ ≡ put_of w o₂ → o₃ ≡ put_all (u ∷ v ∷ w ∷ []) o
unfolding put_all
three_lines u v w o o₁ o₂ o₃ e f g = rw (g, f, e)

pub four_lines : (u v w x : Line) (o o₁ o₂ o₃ o₄ : Output) → o₁ ≡ put_of u o → o₂ ≡ put_of v o₁ → o₃ ≡ put_of w o₂ → o₄ ≡ put_of x o₃ → o₄ ≡ put_all (u ∷ v ∷ w ∷ x ∷ []) o
unfolding put_all
four_lines u v w x o o₁ o₂ o₃ o₄ e f g h = rw (h, g, f, e)
