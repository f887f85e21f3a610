-- The octets ahead in the input buffer: how many, those behind a record taken, and those there after a read.
-- Assumes nothing.
use Prim.Native.Nat.{ℕ, ◌+◌, ◌-◌, ◌≤◌}
use mathlib.Core.Path.{◌≡◌, ap, ◌∙◌}
use mathlib.Core.Bool.{true}
use mathlib.Core.List.{List, ◌++◌}
use native.Mathlib.Omega.{arith}
use lib.Dec.{leb}
use lib.ListN.{length, take, drop, length-drop}
use lib.Seq.{drop_at, drop-drop, length-take-le, take-add, take_at}
use borrow.Author.Tests.{le-leb, leb-true}
use Rattle.octets.proofs.Branch.{pick_by}
use Rattle.bench.specs.Run.{ahead_of, behind_of, left_of, shifted_of, within}

module _ (at have : ℕ) (xs : List ℕ) (h : at ≤ have) (g : have ≤ length xs) where
  pub ahead_length : length (ahead_of at have xs) ≡ have - at
  ahead_length = length-take-le (have - at) (drop at xs) (simp length-drop (omega arith))

  inside : within at have (length xs) ≡ true
  inside = rw (le-leb at have h, le-leb have (length xs) g)

  pub left_is : left_of at have (length xs) ≡ have - at
  unfolding left_of
  left_is = rw inside

  shifted_front : take (left_of at have (length xs)) (shifted_of at have xs) ≡ ahead_of at have xs
  unfolding shifted_of
  shifted_front = rw (left_is, inside) (take_at (ahead_of at have xs) (drop (have - at) xs) (have - at) ahead_length)

  -- a record of `size` octets is passed
  module _ (size : ℕ) (z : size ≤ length (ahead_of at have xs)) where
    fits : at + size ≤ have
    fits = omega (arith, ahead_length)

    pub behind_is : behind_of at size have ≡ at + size
    unfolding behind_of
    behind_is = rw (le-leb (at + size) have fits)

    pub ahead_behind : ahead_of (behind_of at size have) have xs ≡ drop size (ahead_of at have xs)
    ahead_behind =
        let f = fits in
        let n : have - at ≡ size + (have - (at + size)) = omega arith in
        let l : length (take size (drop at xs)) ≡ size = length-take-le size (drop at xs) (simp length-drop (omega arith)) in
        rw (behind_is, n, take-add size (have - (at + size)) (drop at xs), drop_at (take size (drop at xs)) (take (have - (at + size)) (drop size (drop at xs))) size l, drop-drop)

  -- a read of n octets into the buffer, which becomes ys
  module _ (ys : List ℕ) (n : ℕ) (e : length ys ≡ length xs) (k : take (left_of at have (length xs)) ys ≡ take (left_of at have (length xs)) (shifted_of at have xs)) where
    abbrev more : ℕ
    more = behind_of (left_of at have (length xs)) n (length xs)

    pub more_inside : more ≤ length ys
    unfolding behind_of
    more_inside =
        let l = left_is in
        pick_by (λ (m : ℕ). m ≤ length ys) (leb (left_of at have (length xs) + n) (length xs)) (λ b. omega (arith, leb-true (left_of at have (length xs) + n) (length xs) b)) (λ b. omega arith)

    left_more : left_of at have (length xs) ≤ more
    unfolding behind_of
    left_more =
        let l = left_is in
        pick_by (λ (m : ℕ). left_of at have (length xs) ≤ m) (leb (left_of at have (length xs) + n) (length xs)) (λ b. omega arith) (λ b. omega arith)

    pub ahead_more : ahead_of 0 more ys ≡ ahead_of at have xs ++ ahead_of (left_of at have (length xs)) more ys
    ahead_more =
        let s : more - 0 ≡ left_of at have (length xs) + (more - left_of at have (length xs)) = omega (arith, left_more) in
        ap (λ (m : ℕ). take m ys) s
        ∙ (take-add (left_of at have (length xs)) (more - left_of at have (length xs)) ys
        ∙ ap (λ (l : List ℕ). l ++ ahead_of (left_of at have (length xs)) more ys) (k ∙ shifted_front))
