-- A fraction in lowest terms. That it has the same value, and that its terms have no common divisor but 1, is in proofs/LowestTerms.antt.
-- Assumes nothing.
use Rattle.std.specs.Prelude.{ℕ, ◌/◌, eqb}
use Rattle.octets.specs.Pick.{pick}
use Rattle.sums.specs.Gcd.{gcd_of}
use Rattle.sums.specs.declared.fraction.Fraction.{Fraction}

-- both terms divided by their greatest common divisor; 0/1 where bottom is 0
unfoldable pub reduced_of : ℕ → ℕ → Fraction
reduced_of top bottom =
    pick (eqb bottom 0)
    (record { top = 0; bottom = 1 })
    (record { top = top / gcd_of top bottom; bottom = bottom / gcd_of top bottom })
