-- 02, K12: "the mean hold as a reduced fraction (0/1 where none was set; 0 may be set)"; "the mean follows the total hold".
-- Assumes nothing.
use Prim.Native.Nat.{ℕ, ◌*◌, ◌<◌}
use mathlib.Core.Path.{◌≡◌, ap₂}
use mathlib.Core.List.{List}
use lib.ListN.{get_or}
use Rattle.sums.specs.Block.{mean_by, mean_of}
use Rattle.sums.specs.Gcd.{gcd_of}
use Rattle.sums.specs.Lowest.{reduced_of}
use Rattle.sums.specs.Sums as sums
use Rattle.sums.specs.declared.fraction.Fraction.{Fraction}
use Rattle.sums.specs.Sums.{Total}
use Rattle.std.specs.Prelude.{Some, None}
use Rattle.sums.proofs.LowestTerms.{same_value, lowest_terms, reduced_none}

-- None where the total hold is.
pub mean_follows : (b : List Total) → get_or b 22 sums.zero ≡ None → mean_of b ≡ None
unfolding mean_of
mean_follows b e = rw e

-- Else, where holds were set: a fraction equal to the total over the holds, in lowest terms.
pub record IsMean (total holds : ℕ) (f : Fraction) : Type 0 where
  pub value : f.top * holds ≡ total * f.bottom
  pub lowest : gcd_of f.top f.bottom ≡ 1

pub mean_exact : (b : List Total) (total holds : ℕ) → get_or b 22 sums.zero ≡ Some total → get_or b 20 sums.zero ≡ Some holds → 0 < holds →
    (f : Fraction) × (mean_of b ≡ Some f) × IsMean total holds f
unfolding mean_of
mean_exact b total holds e g h =
    (reduced_of total holds, ap₂ mean_by e g, record { value = same_value total holds h; lowest = lowest_terms total holds h })

-- 0/1 where none was set.
pub mean_none : (b : List Total) (total : ℕ) → get_or b 22 sums.zero ≡ Some total → get_or b 20 sums.zero ≡ Some 0 → mean_of b ≡ Some (record { top = 0; bottom = 1 })
unfolding mean_of
mean_none b total e g = rw (e, g, reduced_none total)
