-- Numbers counted one by one, and blocks added one behind the other from the empty one: the same numbers.
-- Assumes nothing.
use Prim.Native.Nat.{ℕ, zero, suc, ◌+◌, ◌<◌, max}
use native.Mathlib.Nat.{le_of_suc-le-suc}
use native.Mathlib.Omega.{arith}
use mathlib.Core.Path.{◌≡◌, refl, sym, ap, ap₂, ◌∙◌}
use mathlib.Core.Bool.{Bool, true, false}
use mathlib.Core.List.{List, [], ◌∷◌, ◌++◌, map, append-nil, append_assoc}
use lib.Dec.{eqb}
use lib.ListN.{get_or, length, set}
use Rattle.octets.specs.Pick.{pick}
use Rattle.sums.specs.Block.{placewise, both_at, join_at, nothing, both_of, single, tally, block_of, empty_of, added_to, plus_of}
use Rattle.sums.specs.Orders.{joined}
use Rattle.sums.specs.Sums as sums
use Rattle.sums.specs.Sums.{held}
use Rattle.sums.specs.Sums.{Total}
use Rattle.sums.proofs.Joining.{held_both, block_both, tally_joined}

none_more : (k m : ℕ) → both_at k m 0 ≡ m
unfolding both_at
none_more k m = go (eqb k 21)
  where
    go : (b : Bool) → pick b (max m 0) (m + 0) ≡ m
    go true = omega arith
    go false = omega arith

nothing_behind : (k : ℕ) (xs : List ℕ) → placewise both_at k xs [] ≡ xs
unfolding placewise
nothing_behind k [] = refl
nothing_behind k (x ∷ xs) = refl

counted : (k i n : ℕ) (xs : List ℕ) → i < length xs → set (map held xs) i (join_at (k + i) (get_or (map held xs) i sums.zero) (held n)) ≡ map held (placewise both_at k xs (single i n))
unfolding placewise
counted k i n [] h = absurd (omega arith)
counted k zero n (x ∷ xs) h =
    ap₂ (λ (t : Total) (ts : List Total). t ∷ ts)
    (ap (λ (j : ℕ). join_at j (held x) (held n)) (omega arith) ∙ sym (held_both k x n))
    (ap (map held) (sym (nothing_behind (k + 1) xs)))
counted k (suc i) n (x ∷ xs) h =
    ap₂ (λ (t : Total) (ts : List Total). t ∷ ts)
    (ap held (sym (none_more k x)))
    (ap (λ (j : ℕ). set (map held xs) i (join_at j (get_or (map held xs) i sums.zero) (held n))) (omega arith) ∙ counted (k + 1) i n xs (le_of_suc-le-suc h))

-- A number more at a place is that number counted, and nothing anywhere else.
pub plus_counts : (xs : List ℕ) (i n : ℕ) → i < length xs → plus_of (block_of xs) i (held n) ≡ block_of (both_of xs (single i n))
unfolding plus_of
plus_counts xs i n h =
    ap (λ (j : ℕ). set (block_of xs) i (join_at j (get_or (block_of xs) i sums.zero) (held n))) (omega arith) ∙ counted 0 i n xs h

pub empty_is : empty_of ≡ block_of nothing
unfolding held
empty_is = refl

-- The blocks of files added one behind the other to the empty block: the block of the joined lists.
module _ {A : Type 0} (of : A → List ℕ) where
  added_files : (ys : List A) (files : List (List A)) →
      added_to (block_of (tally of ys)) (map (λ (xs : List A). block_of (tally of xs)) files) ≡ block_of (tally of (ys ++ joined files))
  added_files ys [] = ap (λ (zs : List A). block_of (tally of zs)) (sym (append-nil ys))
  added_files ys (xs ∷ files) =
      ap (λ (b : List Total). added_to b (map (λ (zs : List A). block_of (tally of zs)) files))
      (sym (block_both (tally of ys) (tally of xs)) ∙ ap block_of (sym (tally_joined of ys xs)))
      ∙ added_files (ys ++ xs) files
      ∙ ap (λ (zs : List A). block_of (tally of zs)) (append_assoc ys xs (joined files))

  pub one_by_one : (files : List (List A)) → added_to empty_of (map (λ (xs : List A). block_of (tally of xs)) files) ≡ block_of (tally of (joined files))
  unfolding tally
  one_by_one files =
      ap (λ (b : List Total). added_to b (map (λ (xs : List A). block_of (tally of xs)) files)) empty_is ∙ added_files [] files
