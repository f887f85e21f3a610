-- What an array holds that is made place by place: the list that each place was read from.
-- Assumes nothing.
use Prim.Native.Nat.{ℕ, zero, suc, ◌+◌, ◌≤◌, ◌<◌}
use mathlib.Core.Path.{◌≡◌, refl, subst, ◌∙◌}
use mathlib.Core.List.{List, [], ◌∷◌}
use native.Mathlib.Omega.{arith}
use lib.Dec.{leb}
use lib.ListN.{length, get_or}
use borrow.Author.Tests.{leb-false, leb-true}
use denote.Param.Members.{Mut}
use Rattle.octets.proofs.Branch.{by_bool}
use Rattle.std.specs.Array.{IsFromFnResult, IsFromFnResultFrom}
use Rattle.std.specs.Fn.{Called}

-- two lists with the same element at every place, by a default
all_same : {B : Type 0} (ys xs : List B) (d : B) → length ys ≡ length xs → ((k : ℕ) → k < length ys → get_or ys k d ≡ get_or xs k d) → ys ≡ xs
all_same [] [] d e h = refl
all_same [] (x ∷ xs) d e h = absurd (omega arith)
all_same (y ∷ ys) [] d e h = absurd (omega arith)
all_same (y ∷ ys) (x ∷ xs) d e h =
    let t : ys ≡ xs = all_same ys xs d (omega arith) (λ k l. h (suc k) (omega arith)) in
    let a : y ≡ x = h 0 (omega arith) in
    cc

-- Each call gives the element of xs at its number, and leaves the closure as it is.
module _ {F B : Type 0} (g : Mut F (ℕ × Unit {0}) B) (xs : List B) (d : B) (f : F) (once : (i : ℕ) (y : B) (q : F) → Called g f (i, tt) y q → (y ≡ get_or xs i d) × (q ≡ f)) where
  made_from : (ys : List B) (i n : ℕ) → i + n ≤ length xs → IsFromFnResultFrom g f ys i n → (k : ℕ) → i ≤ k → k < i + n → get_or ys k d ≡ get_or xs k d
  made_from ys i zero h r k a b = absurd (omega arith)
  made_from ys i (suc n) h r k a b =
      let o = once i r.1 r.0 r.3 in
      by_bool (leb (i + 1) k)
      (λ e. made_from ys (i + 1) n (omega arith) (subst (λ (p : F). IsFromFnResultFrom g p ys (i + 1) n) o.1 r.4) k (leb-true (i + 1) k e) (omega arith))
      (λ e. let l : k < i + 1 = leb-false (i + 1) k e in let s : k ≡ i = omega arith in rw s (r.2.1 d ∙ o.0))

  pub made_all : (ys : List B) (n : ℕ) → length xs ≡ n → IsFromFnResult g f ys n → ys ≡ xs
  made_all ys n e r =
      let l = r.long in
      all_same ys xs d (omega arith) (λ k h. made_from ys 0 n (omega arith) r.each k (omega arith) (omega arith))
