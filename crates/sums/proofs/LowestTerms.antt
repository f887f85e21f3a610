-- What reduced_of gives has the value of top / bottom, and is in lowest terms; where bottom is 0 it is 0/1.
-- Assumes nothing.
use Prim.Native.Nat.{ℕ, ◌*◌, ◌/◌, ◌<◌, ◌∣◌}
use native.Mathlib.Nat.{mul-one, mul-dvd-mul_left, dvd_of_mul-dvd-mul_left, eq-one_of_dvd-one, mul-div_cancel', mul_assoc, mul_comm}
use native.Mathlib.Omega.{arith}
use mathlib.Core.Path.{◌≡◌, refl, sym, ap, subst, ◌∙◌}
use borrow.Author.Tests.{ne_eqb}
use Rattle.sums.specs.Gcd.{gcd_of}
use Rattle.sums.specs.Lowest.{reduced_of}
use Rattle.sums.proofs.Divides.{gcd_divides_left, gcd_divides_right, gcd_greatest, gcd_pos}

-- the divisor times what is left of a term is the term
module _ (a b : ℕ) (h : 0 < b) where
  left : gcd_of a b * (a / gcd_of a b) ≡ a
  left = mul-div_cancel' (gcd_of a b) (gcd_divides_left a b)

  right : gcd_of a b * (b / gcd_of a b) ≡ b
  right = mul-div_cancel' (gcd_of a b) (gcd_divides_right a b)

  -- what still divided both would, times the divisor, divide the divisor
  coprime : gcd_of (a / gcd_of a b) (b / gcd_of a b) ≡ 1
  coprime =
      let g = gcd_of a b in
      let d = gcd_of (a / g) (b / g) in
      eq-one_of_dvd-one
      (dvd_of_mul-dvd-mul_left d (gcd_pos a b h)
      (rw (mul-one g)
      (gcd_greatest a b (g * d)
      (subst (λ (n : ℕ). g * d ∣ n) left (mul-dvd-mul_left d g (gcd_divides_left (a / g) (b / g))))
      (subst (λ (n : ℕ). g * d ∣ n) right (mul-dvd-mul_left d g (gcd_divides_right (a / g) (b / g)))))))

  cross : a / gcd_of a b * b ≡ a * (b / gcd_of a b)
  cross =
      let g = gcd_of a b in
      ap (λ (n : ℕ). a / g * n) (sym right) ∙ sym (mul_assoc (a / g) g (b / g)) ∙ ap (λ (n : ℕ). n * (b / g)) (mul_comm (a / g) g ∙ left)

-- where bottom is not 0, both terms are divided by the greatest common divisor
pub reduced_is : (top bottom : ℕ) → 0 < bottom → reduced_of top bottom ≡ record { top = top / gcd_of top bottom; bottom = bottom / gcd_of top bottom }
unfolding reduced_of
reduced_is top bottom h = rw (ne_eqb bottom 0 (λ e. omega arith))

pub reduced_none : (top : ℕ) → reduced_of top 0 ≡ record { top = 0; bottom = 1 }
unfolding reduced_of
reduced_none top = refl

-- the same value
pub same_value : (top bottom : ℕ) → 0 < bottom → (reduced_of top bottom).top * bottom ≡ top * (reduced_of top bottom).bottom
same_value top bottom h = rw (reduced_is top bottom h) (cross top bottom h)

-- in lowest terms
pub lowest_terms : (top bottom : ℕ) → 0 < bottom → gcd_of (reduced_of top bottom).top (reduced_of top bottom).bottom ≡ 1
lowest_terms top bottom h = rw (reduced_is top bottom h) (coprime top bottom h)
