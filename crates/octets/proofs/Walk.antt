-- Laws of the walk over elements: where no whole element stands first it ends, and else it goes on behind that element.
-- Assumes nothing.
use mathlib.Core.Path.{◌≡◌, ◌∙◌, refl, sym}
use mathlib.Core.Bool.{true, false}
use mathlib.Core.List.{List, [], ◌∷◌, ◌++◌}
use Prim.Native.Nat.{ℕ, zero, suc, ◌<◌, ◌≤◌}
use native.Mathlib.Omega.{arith}
use lib.Dec.{eqb, eqb-suc-zero}
use borrow.Author.Tests.{le-leb, lt-leb, ltb-true, eqb-true}
use lib.ListN.{length, length-append, drop}
use lib.Seq.{take-append-le}
use Rattle.std.specs.Prelude.{Some, None}
use Rattle.octets.specs.Pick.{pick}
use Rattle.octets.specs.Field.{field}
use Rattle.octets.specs.Element.{ends, is_comeback, is_cut, walk, wanted_at}
use Rattle.octets.proofs.Branch.{and_left, and_right, by_bool}

-- Passing k octets.
pub walk_skip : (xs : List ℕ) (k : ℕ) → walk xs k ≡ walk (drop k xs) 0
unfolding walk
walk_skip [] zero = refl
walk_skip [] (suc k) = refl
walk_skip (x ∷ xs) zero = refl
walk_skip (x ∷ xs) (suc k) = walk_skip xs k

pub walk_cut : (xs : List ℕ) → is_cut xs ≡ true → walk xs 0 ≡ None
unfolding walk
walk_cut [] h = refl
walk_cut (x ∷ []) h = refl
walk_cut (x ∷ n ∷ rest) h = rw (lt-leb n (length rest) (ltb-true (length rest) n h))

walk_past : (c rest : List ℕ) → walk (c ++ rest) (length c) ≡ walk rest 0
unfolding walk
walk_past [] rest = refl
walk_past (x ∷ c) rest = walk_past c rest

wanted_in : (i : ℕ) (c rest : List ℕ) → wanted_at (i ∷ length c ∷ (c ++ rest)) (length c) ≡ is_comeback i c
wanted_in i [] rest = refl
wanted_in i (x ∷ c) rest = refl

value_in : (c rest : List ℕ) → length c ≡ 5 → field 4 1 (c ++ rest) ≡ field 4 1 c
value_in [] rest h = absurd (omega arith)
value_in (x ∷ c) rest h =
    let k : 4 ≤ length c = omega arith in
    rw (take-append-le 4 c rest k)

pub walk_next : (i : ℕ) (c rest : List ℕ) → walk (i ∷ length c ∷ (c ++ rest)) 0 ≡ pick (is_comeback i c) (Some (field 4 1 c)) (walk rest 0)
unfolding walk
walk_next i c rest =
    rw (le-leb (length c) (length (c ++ rest)) (simp length-append (omega arith)), wanted_in i c rest, walk_past c rest)
    (by_bool (is_comeback i c)
    (λ w. rw (w, value_in c rest (eqb-true (length c) 5 (and_left (eqb (length c) 5) _ (and_right (eqb i 56) _ w)))))
    (λ w. rw w))

-- ---- whether the walk reaches the end exactly

ends_over : (xs : List ℕ) (k : ℕ) → length xs < k → ends xs k ≡ false
unfolding ends
ends_over [] zero h = absurd (omega arith)
ends_over [] (suc k) h = refl
ends_over (x ∷ xs) zero h = absurd (omega arith)
ends_over (x ∷ xs) (suc k) h = ends_over xs k (omega arith)

pub ends_cut : (xs : List ℕ) → is_cut xs ≡ true → ends xs 0 ≡ eqb (length xs) 0
unfolding ends
ends_cut [] h = refl
ends_cut (x ∷ []) h = refl
ends_cut (x ∷ n ∷ rest) h = ends_over rest n (ltb-true (length rest) n h) ∙ sym (eqb-suc-zero (suc (length rest)))

ends_past : (c rest : List ℕ) → ends (c ++ rest) (length c) ≡ ends rest 0
unfolding ends
ends_past [] rest = refl
ends_past (x ∷ c) rest = ends_past c rest

pub ends_next : (i : ℕ) (c rest : List ℕ) → ends (i ∷ length c ∷ (c ++ rest)) 0 ≡ ends rest 0
unfolding ends
ends_next i c rest = ends_past c rest
