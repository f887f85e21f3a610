-- How two lists stand to each other, said of the lists, is what `met_from` finds: both ways.
-- Assumes nothing.
use Prim.Native.Nat.{ℕ, zero, suc}
use mathlib.Core.Path.{◌≡◌, refl, sym, ap, ◌∙◌}
use mathlib.Core.Bool.{true, false}
use mathlib.Core.List.{List, [], ◌∷◌, ◌++◌}
use native.Mathlib.Omega.{arith}
use lib.Dec.{eqb}
use lib.ListN.{get_or, take}
use borrow.Author.Tests.{eq-eqb, eqb-true}
use Rattle.octets.proofs.Branch.{and_left, and_right, by_bool}
use Rattle.rival.specs.Alike.{Meeting, alike, longer, met_from, other, same, shorter}
use Rattle.rival.specs.Says.{Longer, Parted}

pub same_refl : (a : List ℕ) → same a a ≡ true
unfolding same
same_refl [] = refl
same_refl (x ∷ a) = rw (eq-eqb x x refl) (same_refl a)

pub same_true : (a b : List ℕ) → same a b ≡ true → a ≡ b
unfolding same
same_true [] [] h = refl
same_true [] (y ∷ b) h = cc
same_true (x ∷ a) [] h = cc
same_true (x ∷ a) (y ∷ b) h =
    let e : x ≡ y = eqb-true x y (and_left (eqb x y) (same a b) h) in
    let f : a ≡ b = same_true a b (and_right (eqb x y) (same a b) h) in
    cc

pub same_append : (w a b : List ℕ) → same (w ++ a) (w ++ b) ≡ same a b
unfolding same
same_append [] a b = refl
same_append (x ∷ w) a b = rw (eq-eqb x x refl) (same_append w a b)

pub differ_same : (a b : List ℕ) → (a ≡ b → ⊥) → same a b ≡ false
differ_same a b h = by_bool (same a b) (λ e. absurd (h (same_true a b e))) (λ e. e)

pub same_false : (a b : List ℕ) → same a b ≡ false → a ≡ b → ⊥
same_false a b h e =
    let z : ◌≡◌ {A = ℕ} 0 1 = cc (same_refl b, rw e at h) in
    omega arith

pub met_itself : (n : ℕ) (p : List (List ℕ)) → met_from n p p ≡ alike
unfolding met_from
met_itself n [] = refl
met_itself n (a ∷ p) = rw (same_refl a) (met_itself (suc n) p)

-- one more before both
abbrev one_on : Meeting (List ℕ) → Meeting (List ℕ)
one_on alike = alike
one_on (longer n) = longer (suc n)
one_on (shorter n) = shorter (suc n)
one_on (other n a b) = other (suc n) a b

met_on : (n : ℕ) (p q : List (List ℕ)) → met_from (suc n) p q ≡ one_on (met_from n p q)
unfolding met_from
met_on n [] [] = refl
met_on n [] (b ∷ q) = refl
met_on n (a ∷ p) [] = refl
met_on n (a ∷ p) (b ∷ q) = by_bool (same a b) (λ e. rw e (met_on (suc n) p q)) (λ e. rw e)

met_cons : (a : List ℕ) (p q : List (List ℕ)) (b : List ℕ) → a ≡ b → met_from 0 (a ∷ p) (b ∷ q) ≡ one_on (met_from 0 p q)
unfolding met_from
met_cons a p q b e = rw (← e, same_refl a) (met_on 0 p q)

-- How two lists stand, said of them.
abbrev pub Meets : List (List ℕ) → List (List ℕ) → Meeting (List ℕ) → Type 0
Meets p q alike = p ≡ q
Meets p q (longer n) = Longer p q n
Meets p q (shorter n) = Longer q p n
Meets p q (other n a b) = Parted p q n × (get_or p n [] ≡ a) × (get_or q n [] ≡ b)

longer_on : {a : List ℕ} {p q : List (List ℕ)} {n : ℕ} → Longer p q n → Longer (a ∷ p) (a ∷ q) (suc n)
longer_on {a} m = record { has = ap suc m.has; goes_on = omega (arith, m.goes_on); begins = ap (λ (l : List (List ℕ)). a ∷ l) m.begins }

meets_on : (a : List ℕ) (p q : List (List ℕ)) (m : Meeting (List ℕ)) → Meets p q m → Meets (a ∷ p) (a ∷ q) (one_on m)
meets_on a p q alike m = ap (λ (l : List (List ℕ)). a ∷ l) m
meets_on a p q (longer n) m = longer_on m
meets_on a p q (shorter n) m = longer_on m
meets_on a p q (other n x y) m = (
  record {
    ours = omega (arith, m.0.ours);
    theirs = omega (arith, m.0.theirs);
    before = ap (λ (l : List (List ℕ)). a ∷ l) m.0.before;
    differ = m.0.differ;
  },
  m.1,
  m.2,
)

-- What is found holds.
pub meets : (p q : List (List ℕ)) → Meets p q (met_from 0 p q)
unfolding met_from
meets [] [] = refl
meets [] (b ∷ q) = record { has = refl; goes_on = omega arith; begins = refl }
meets (a ∷ p) [] = record { has = refl; goes_on = omega arith; begins = refl }
meets (a ∷ p) (b ∷ q) =
    by_bool (same a b)
    (λ e.
    let f : a ≡ b = same_true a b e in
    rw (e, ← f, met_on 0 p q) (meets_on a p q (met_from 0 p q) (meets p q)))
    (λ e. rw e (record { ours = omega arith; theirs = omega arith; before = refl; differ = same_false a b e }, refl, refl))

head_is : (a b : List ℕ) (p q : List (List ℕ)) → ◌≡◌ {A = List (List ℕ)} (a ∷ p) (b ∷ q) → a ≡ b
head_is a b p q e = cc

tail_is : (a b : List ℕ) (p q : List (List ℕ)) → ◌≡◌ {A = List (List ℕ)} (a ∷ p) (b ∷ q) → p ≡ q
tail_is a b p q e = cc

-- What holds is found.
pub found : (p q : List (List ℕ)) (m : Meeting (List ℕ)) → Meets p q m → met_from 0 p q ≡ m
unfolding met_from
found [] [] alike m = refl
found [] [] (longer n) m = absurd (omega (arith, m.goes_on))
found [] [] (shorter n) m = absurd (omega (arith, m.goes_on))
found [] [] (other n x y) m = absurd (omega (arith, m.0.ours))
found [] (b ∷ q) alike m = cc
found [] (b ∷ q) (longer n) m = ap longer m.has
found [] (b ∷ q) (shorter n) m = absurd (omega (arith, m.goes_on))
found [] (b ∷ q) (other n x y) m = absurd (omega (arith, m.0.ours))
found (a ∷ p) [] alike m = cc
found (a ∷ p) [] (longer n) m = absurd (omega (arith, m.goes_on))
found (a ∷ p) [] (shorter n) m = ap shorter m.has
found (a ∷ p) [] (other n x y) m = absurd (omega (arith, m.0.theirs))
found (a ∷ p) (b ∷ q) alike m = met_cons a p q b (head_is a b p q m) ∙ ap one_on (found p q alike (tail_is a b p q m))
found (a ∷ p) (b ∷ q) (longer zero) m = absurd (omega (arith, m.has))
found (a ∷ p) (b ∷ q) (longer (suc n)) m =
    met_cons a p q b (sym (head_is b a (take n q) p m.begins))
    ∙ ap one_on (found p q (longer n) (record { has = omega (arith, m.has); goes_on = omega (arith, m.goes_on); begins = tail_is b a (take n q) p m.begins }))
found (a ∷ p) (b ∷ q) (shorter zero) m = absurd (omega (arith, m.has))
found (a ∷ p) (b ∷ q) (shorter (suc n)) m =
    met_cons a p q b (head_is a b (take n p) q m.begins)
    ∙ ap one_on (found p q (shorter n) (record { has = omega (arith, m.has); goes_on = omega (arith, m.goes_on); begins = tail_is a b (take n p) q m.begins }))
found (a ∷ p) (b ∷ q) (other zero x y) m =
    let e : same a b ≡ false = differ_same a b m.0.differ in
    let f : a ≡ x = m.1 in
    let g : b ≡ y = m.2 in
    rw e (cc)
found (a ∷ p) (b ∷ q) (other (suc n) x y) m =
    met_cons a p q b (head_is a b (take n p) (take n q) m.0.before)
    ∙ ap one_on
    (found p q (other n x y) (
      record {
        ours = omega (arith, m.0.ours);
        theirs = omega (arith, m.0.theirs);
        before = tail_is a b (take n p) (take n q) m.0.before;
        differ = m.0.differ;
      },
      m.1,
      m.2,
    ))
