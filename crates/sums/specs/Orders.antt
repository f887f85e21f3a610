-- What it is for a list to be another in some order, and for parts to be brought together in some bracketing.
-- Assumes nothing.
use Rattle.std.specs.Prelude.{List, [], ◌∷◌, ◌++◌}

-- The second list is the first in some order: the usual relation, by exchanges of two neighbours.
pub data Perm {A : Type 0} : List A → List A → Type 0 where
  nil : Perm [] []
  cons : {x : A} {xs ys : List A} → Perm xs ys → Perm (x ∷ xs) (x ∷ ys)
  swap : {x y : A} {xs : List A} → Perm (x ∷ y ∷ xs) (y ∷ x ∷ xs)
  trans : {xs ys zs : List A} → Perm xs ys → Perm ys zs → Perm xs zs

-- Parts brought together two at a time, in any bracketing.
pub data Tree (A : Type 0) : Type 0 where
  part : A → Tree A
  both : Tree A → Tree A → Tree A

-- The parts of a tree, from left to right.
abbrev pub parts : {A : Type 0} → Tree A → List A
parts (part x) = x ∷ []
parts (both s t) = parts s ++ parts t

-- What comes out where each part counts for `of part`, and two are brought together by `plus`.
abbrev pub brought : {A M : Type 0} → (A → M) → (M → M → M) → Tree A → M
brought of plus (part x) = of x
brought of plus (both s t) = plus (brought of plus s) (brought of plus t)

-- Lists one behind the other: the joined lists.
abbrev pub joined : {A : Type 0} → List (List A) → List A
joined [] = []
joined (xs ∷ rest) = xs ++ joined rest
