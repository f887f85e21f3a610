-- Laws of the definitions over lists, for a loop that counts up: what is left at i, and what is left at i + 1.
-- The equation that the loop keeps stands first among the premises: from it antt reads f, t, i and r.
-- Assumes nothing.
use Prim.Native.Nat.{ℕ, suc, ◌+◌, ◌≤◌, ◌<◌}
use mathlib.Core.Path.{◌≡◌, refl, sym, ◌∙◌}
use mathlib.Core.Bool.{Bool, true, false, ◌&&◌}
use mathlib.Core.List.{List, [], ◌∷◌, ◌++◌, map, append_assoc, append-nil}
use native.Mathlib.Numerals.{add-one}
use native.Mathlib.Omega.{arith}
use lib.ListN.{length, take, drop, get_or, set, drop_of_length-le}
use lib.Seq.{drop-cons, take-suc-set, drop-set-lt, take_all}
use Rattle.octets.specs.Pick.{pick}
use Rattle.table.specs.Places.{first_from, all_tails, all_of, count_of}
use Rattle.std.specs.Prelude.{Option, Some, None}

module _ {A B : Type 0} (F : List A → B) (t : List A) (i : ℕ) where
  -- what a definition says of the places from i on: the place i, and those from i + 1 on
  pub left_step : (d : A) → i < length t → F (drop i t) ≡ F (get_or t i d ∷ drop (i + 1) t)
  left_step d h = rw (add-one, drop-cons t i d h)

  pub left_end : length t ≤ i → F (drop i t) ≡ F []
  left_end h = rw (drop_of_length-le t h)

module _ {A : Type 0} (f : A → Bool) (t : List A) (i : ℕ) (r : Option ℕ) (q : first_from f i (drop i t) ≡ r) where
  pub first_yes : (d : A) → i < length t → f (get_or t i d) ≡ true → Some i ≡ r
  unfolding first_from
  first_yes d h e = sym (left_step (first_from f i) t i d h ∙ rw e) ∙ q

  pub first_no : (d : A) → i < length t → f (get_or t i d) ≡ false → first_from f (i + 1) (drop (i + 1) t) ≡ r
  unfolding first_from
  first_no d h e = sym (left_step (first_from f i) t i d h ∙ rw e) ∙ q

  pub first_end : length t ≤ i → None ≡ r
  unfolding first_from
  first_end h = sym (left_end (first_from f i) t i h) ∙ q

module _ {A : Type 0} (f : A → List A → Bool) (t : List A) (i : ℕ) (r : Bool) (q : all_tails f (drop i t) ≡ r) where
  pub tails_no : (d : A) → i < length t → f (get_or t i d) (drop (i + 1) t) ≡ false → false ≡ r
  unfolding all_tails
  tails_no d h e = sym (left_step (all_tails f) t i d h ∙ rw e) ∙ q

  pub tails_yes : (d : A) → i < length t → f (get_or t i d) (drop (i + 1) t) ≡ true → all_tails f (drop (i + 1) t) ≡ r
  unfolding all_tails
  tails_yes d h e = sym (left_step (all_tails f) t i d h ∙ rw e) ∙ q

  pub tails_end : length t ≤ i → true ≡ r
  unfolding all_tails
  tails_end h = sym (left_end (all_tails f) t i h) ∙ q

module _ {A : Type 0} (f : A → Bool) (t : List A) (i : ℕ) where
  -- a count goes up by what the place i adds
  pub count_step : (d : A) → i < length t → count_of f (drop i t) ≡ pick (f (get_or t i d)) 1 0 + count_of f (drop (i + 1) t)
  unfolding count_of
  count_step d h = left_step (count_of f) t i d h

  pub count_end : length t ≤ i → count_of f (drop i t) ≡ 0
  unfolding count_of
  count_end h = left_end (count_of f) t i h

  pub all_step : (d : A) → i < length t → all_of f (drop i t) ≡ (f (get_or t i d) && all_of f (drop (i + 1) t))
  unfolding all_tails
  all_step d h = left_step (all_of f) t i d h

  pub all_end : length t ≤ i → all_of f (drop i t) ≡ true
  unfolding all_tails
  all_end h = left_end (all_of f) t i h

-- a list of which the first i elements are mapped and the others are not: one more is mapped
pub map_step : {A : Type 0} (f : A → A) (l : List A) (i : ℕ) (d v : A) → i < length l → v ≡ f (get_or l i d) → take (i + 1) (set l i v) ++ map f (drop (i + 1) (set l i v)) ≡ take i l ++ map f (drop i l)
map_step f l i d v h e =
    rw (add-one, take-suc-set l i v h, drop-set-lt (suc i) l i v (omega arith), drop-cons l i d h, append_assoc, e)

-- after the last
pub map_end : {A : Type 0} (f : A → A) (l m : List A) (i : ℕ) → length l ≤ i → take i l ++ map f (drop i l) ≡ m → l ≡ m
map_end f l m i h q = sym (take_all i l h) ∙ sym (append-nil (take i l)) ∙ rw (drop_of_length-le l h) at q

pub and_true : (a : Bool) → (a && true) ≡ a
and_true true = refl
and_true false = refl

pub and_false : (a : Bool) → (a && false) ≡ false
and_false true = refl
and_false false = refl

pub at_most_one : (b : Bool) → pick b 1 0 ≤ 1
at_most_one true = omega arith
at_most_one false = omega arith
