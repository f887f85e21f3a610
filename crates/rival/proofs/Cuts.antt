-- Lines cut out of octets: the first line of a list, behind what was read of it already, and what follows.
-- Assumes nothing.
use Prim.Native.Nat.{ℕ, suc}
use mathlib.Core.Path.{◌≡◌, refl, ap, ◌∙◌}
use mathlib.Core.Bool.{Bool, true, false}
use mathlib.Core.List.{List, [], ◌∷◌, ◌++◌}
use lib.Dec.{eqb}
use Rattle.octets.proofs.Branch.{by_bool}
use Rattle.octets.specs.Pick.{pick}
use Rattle.rival.specs.Log.{lines_of, onto}

-- the first line, with its line feed; the lines behind it
unfoldable pub line_of : List ℕ → List ℕ
line_of [] = []
line_of (x ∷ xs) = x ∷ pick (eqb x 10) [] (line_of xs)

unfoldable pub rest_of : List ℕ → List (List ℕ)
rest_of [] = []
rest_of (x ∷ xs) = pick (eqb x 10) (lines_of xs) (rest_of xs)

-- Of the octets w of a line: whether there are some; no line feed is among them; the field behind them, from k on.
abbrev pub some : List ℕ → Bool
some [] = false
some (x ∷ w) = true

unfoldable pub plain : List ℕ → Bool
plain [] = true
plain (x ∷ w) = pick (eqb x 10) false (plain w)

unfoldable pub blanks_from : ℕ → List ℕ → ℕ
blanks_from k [] = k
blanks_from k (x ∷ w) = pick (eqb x 32) (blanks_from (suc k) w) (blanks_from k w)

-- one octet more
pub some_more : (w : List ℕ) (x : ℕ) → some (w ++ (x ∷ [])) ≡ true
some_more [] x = refl
some_more (z ∷ w) x = refl

pub some_both : (w xs : List ℕ) (x : ℕ) → some (w ++ x ∷ xs) ≡ true
some_both [] xs x = refl
some_both (z ∷ w) xs x = refl

pub some_left : (w xs : List ℕ) → some w ≡ true → some (w ++ xs) ≡ true
some_left [] xs h = cc
some_left (z ∷ w) xs h = refl

pub plain_more : (w : List ℕ) (x : ℕ) → plain w ≡ true → eqb x 10 ≡ false → plain (w ++ (x ∷ [])) ≡ true
unfolding plain
plain_more [] x p h = rw h
plain_more (z ∷ w) x p h =
    by_bool (eqb z 10)
    (λ e. let q : false ≡ true = rw e at p in cc)
    (λ e. rw e (plain_more w x (rw e at p) h))

pub blanks_more : (k : ℕ) (w : List ℕ) (x : ℕ) → blanks_from k (w ++ (x ∷ [])) ≡ pick (eqb x 32) (suc (blanks_from k w)) (blanks_from k w)
unfolding blanks_from
blanks_more k [] x = refl
blanks_more k (z ∷ w) x = by_bool (eqb z 32) (λ e. rw e (blanks_more (suc k) w x)) (λ e. rw e (blanks_more k w x))

-- a list that has an octet has a first line
pub cut_off : (xs : List ℕ) → some xs ≡ true → lines_of xs ≡ line_of xs ∷ rest_of xs
unfolding lines_of line_of rest_of
cut_off [] h = cc
cut_off (x ∷ []) h = by_bool (eqb x 10) (λ e. rw e) (λ e. rw e)
cut_off (x ∷ y ∷ xs) h =
    by_bool (eqb x 10)
    (λ e. rw e)
    (λ e. let i = cut_off (y ∷ xs) refl in rw (e, i))

-- where w was read of it
pub line_behind : (w xs : List ℕ) → plain w ≡ true → line_of (w ++ xs) ≡ w ++ line_of xs
unfolding line_of plain
line_behind [] xs p = refl
line_behind (z ∷ w) xs p =
    by_bool (eqb z 10)
    (λ e. let q : false ≡ true = rw e at p in cc)
    (λ e. rw e (ap (λ (l : List ℕ). z ∷ l) (line_behind w xs (rw e at p))))

pub rest_behind : (w xs : List ℕ) → plain w ≡ true → rest_of (w ++ xs) ≡ rest_of xs
unfolding rest_of plain
rest_behind [] xs p = refl
rest_behind (z ∷ w) xs p =
    by_bool (eqb z 10)
    (λ e. let q : false ≡ true = rw e at p in cc)
    (λ e. rw e (rest_behind w xs (rw e at p)))

pub cut_behind : (w xs : List ℕ) → plain w ≡ true → some (w ++ xs) ≡ true → lines_of (w ++ xs) ≡ (w ++ line_of xs) ∷ rest_of xs
cut_behind w xs p h = rw (cut_off (w ++ xs) h, line_behind w xs p, rest_behind w xs p)

-- the line ends there
pub cut_at : (w xs : List ℕ) (x : ℕ) → plain w ≡ true → eqb x 10 ≡ true → lines_of (w ++ x ∷ xs) ≡ (w ++ (x ∷ [])) ∷ lines_of xs
unfolding line_of rest_of
cut_at w xs x p h = cut_behind w (x ∷ xs) p (some_both w xs x) ∙ rw h

-- Lines put together are the octets again.
unfoldable pub joined : List (List ℕ) → List ℕ
joined [] = []
joined (l ∷ ls) = l ++ joined ls

join_onto : (x : ℕ) (ls : List (List ℕ)) → joined (onto x ls) ≡ x ∷ joined ls
unfolding joined
join_onto x [] = refl
join_onto x (l ∷ ls) = refl

pub join_lines : (xs : List ℕ) → joined (lines_of xs) ≡ xs
unfolding lines_of joined
join_lines [] = refl
join_lines (x ∷ xs) =
    by_bool (eqb x 10)
    (λ e. rw e (ap (λ (l : List ℕ). x ∷ l) (join_lines xs)))
    (λ e. rw e (join_onto x (lines_of xs) ∙ ap (λ (l : List ℕ). x ∷ l) (join_lines xs)))
