-- Two lists side by side, as far as they are alike: lines of two logs, and pieces of two lines.
-- Assumes nothing.
use Rattle.std.specs.Prelude.{ℕ, suc, Bool, true, false, ◌&&◌, List, [], ◌∷◌, eqb}
use Rattle.octets.specs.Pick.{pick}

-- How two lists stand to each other.
pub data Meeting (A : Type 0) : Type 0 where
  -- they are one and the same
  alike : Meeting A
  -- the first has n, all alike, and the second goes on; and the other way round
  longer : ℕ → Meeting A
  shorter : ℕ → Meeting A
  -- n of both are alike, and then come these two, which are not
  other : ℕ → A → A → Meeting A

-- The same octets.
unfoldable pub same : List ℕ → List ℕ → Bool
same [] [] = true
same [] (y ∷ ys) = false
same (x ∷ xs) [] = false
same (x ∷ xs) (y ∷ ys) = eqb x y && same xs ys

-- How two lists of octet lists stand, n of both being passed.
unfoldable pub met_from : ℕ → List (List ℕ) → List (List ℕ) → Meeting (List ℕ)
met_from n [] [] = alike
met_from n [] (b ∷ q) = longer n
met_from n (a ∷ p) [] = shorter n
met_from n (a ∷ p) (b ∷ q) = pick (same a b) (met_from (suc n) p q) (other n a b)
