-- 02, K7: octets end with their last element exactly if they are the octets of a list of elements (`whole_elements`, `elements_whole`), and then
-- the comeback is that of the first fitting element of that list (`elements_comeback`).
-- Assumes nothing.
use Prim.Native.Nat.{ℕ, zero, suc}
use mathlib.Core.Path.{◌≡◌, refl, sym, ◌∙◌}
use mathlib.Core.Bool.{true, true≢false}
use mathlib.Core.List.{List, [], ◌∷◌, ◌++◌}
use native.Mathlib.Omega.{arith}
use lib.ListN.{length}
use Rattle.octets.proofs.Walk.{ends_next, walk_next}
use Rattle.octets.specs.Element.{ends, element_octets, first_comeback, walk}

-- What is left of the octets, k of them still to be passed: contents of that length, then elements.
record Passed (xs : List ℕ) (k : ℕ) : Type 0 where
  contents : List ℕ
  elements : List (ℕ × List ℕ)
  long : length contents ≡ k
  octets : contents ++ element_octets elements ≡ xs

passed : (xs : List ℕ) (k : ℕ) → ends xs k ≡ true → Passed xs k
unfolding ends
passed [] zero h = record { contents = []; elements = []; long = refl; octets = refl }
passed [] (suc k) h = absurd (true≢false (sym h))
passed (x ∷ xs) (suc k) h =
    let p = passed xs k h in
    record { contents = x ∷ p.contents; elements = p.elements; long = rw p.long; octets = rw p.octets }
passed (x ∷ []) zero h = absurd (true≢false (sym h))
passed (x ∷ n ∷ rest) zero h =
    let p = passed rest n h in
    record { contents = []; elements = (x, p.contents) ∷ p.elements; long = refl; octets = rw (p.long, p.octets) }

-- Octets that end with their last element are those of a list of elements ..
pub record Made (xs : List ℕ) : Type 0 where
  pub elements : List (ℕ × List ℕ)
  pub octets : element_octets elements ≡ xs

pub whole_elements : (xs : List ℕ) → ends xs 0 ≡ true → Made xs
whole_elements xs h = go (passed xs 0 h)
  where
    go : Passed xs 0 → Made xs
    go p = nothing_before p.contents p.elements p.long p.octets
      where
        nothing_before : (c : List ℕ) (es : List (ℕ × List ℕ)) → length c ≡ 0 → c ++ element_octets es ≡ xs → Made xs
        nothing_before [] es l e = record { elements = es; octets = e }
        nothing_before (x ∷ c) es l e = absurd (omega arith)

-- .. and only those are.
pub elements_whole : (es : List (ℕ × List ℕ)) → ends (element_octets es) 0 ≡ true
unfolding ends
elements_whole [] = refl
elements_whole (e ∷ es) = ends_next e.0 e.1 (element_octets es) ∙ elements_whole es

pub elements_comeback : (es : List (ℕ × List ℕ)) → walk (element_octets es) 0 ≡ first_comeback es
unfolding walk
elements_comeback [] = refl
elements_comeback (e ∷ es) = rw (walk_next e.0 e.1 (element_octets es), elements_comeback es)
