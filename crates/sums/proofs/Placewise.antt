-- Laws of two lists brought together place by place.
-- Assumes nothing.
use Prim.Native.Nat.{ℕ, zero, suc, ◌+◌, ◌≤◌, ◌<◌}
use native.Mathlib.Nat.{le_of_suc-le-suc}
use native.Mathlib.Numerals.{add-one}
use native.Mathlib.Omega.{arith}
use mathlib.Core.Path.{◌≡◌, refl, sym, ap, ap₂, ◌∙◌}
use mathlib.Core.List.{List, [], ◌∷◌, ◌++◌, map, append_assoc, append-nil}
use lib.ListN.{length, take, drop, get_or, set, drop_of_length-le}
use lib.Seq.{drop-cons, take-suc-set, drop-set-lt, take_all}
use Rattle.sums.specs.Block.{placewise}

module _ {A : Type 0} (f : ℕ → A → A → A) where
  -- in either order, where each place is; in either bracketing, where each place is
  pub placewise_comm : ((k : ℕ) (a b : A) → f k a b ≡ f k b a) → (k : ℕ) (xs ys : List A) → placewise f k xs ys ≡ placewise f k ys xs
  unfolding placewise
  placewise_comm c k [] [] = refl
  placewise_comm c k [] (y ∷ ys) = refl
  placewise_comm c k (x ∷ xs) [] = refl
  placewise_comm c k (x ∷ xs) (y ∷ ys) = ap₂ (λ (z : A) (zs : List A). z ∷ zs) (c k x y) (placewise_comm c (k + 1) xs ys)

  pub placewise_assoc : ((k : ℕ) (a b d : A) → f k (f k a b) d ≡ f k a (f k b d)) → (k : ℕ) (xs ys zs : List A) → placewise f k (placewise f k xs ys) zs ≡ placewise f k xs (placewise f k ys zs)
  unfolding placewise
  placewise_assoc c k [] ys zs = refl
  placewise_assoc c k (x ∷ xs) [] zs = refl
  placewise_assoc c k (x ∷ xs) (y ∷ ys) [] = refl
  placewise_assoc c k (x ∷ xs) (y ∷ ys) (z ∷ zs) = ap₂ (λ (w : A) (ws : List A). w ∷ ws) (c k x y z) (placewise_assoc c (k + 1) xs ys zs)

  pub placewise_length : (k : ℕ) (xs ys : List A) → length xs ≡ length ys → length (placewise f k xs ys) ≡ length xs
  unfolding placewise
  placewise_length k [] [] e = refl
  placewise_length k [] (y ∷ ys) e = absurd (omega arith)
  placewise_length k (x ∷ xs) [] e = refl
  placewise_length k (x ∷ xs) (y ∷ ys) e = ap suc (placewise_length (k + 1) xs ys (omega arith))

  -- a place of both is that place of each, whatever the other places are
  pub placewise_place : (k i : ℕ) (xs ys : List A) (d : A) → i < length xs → i < length ys → get_or (placewise f k xs ys) i d ≡ f (k + i) (get_or xs i d) (get_or ys i d)
  unfolding placewise
  placewise_place k i [] ys d h g = absurd (omega arith)
  placewise_place k i (x ∷ xs) [] d h g = absurd (omega arith)
  placewise_place k zero (x ∷ xs) (y ∷ ys) d h g = ap (λ (n : ℕ). f n x y) (omega arith)
  placewise_place k (suc i) (x ∷ xs) (y ∷ ys) d h g =
      placewise_place (k + 1) i xs ys d (le_of_suc-le-suc h) (le_of_suc-le-suc g)
      ∙ ap (λ (n : ℕ). f n (get_or xs i d) (get_or ys i d)) (omega arith)

  -- a loop over both: the first i places are done, the others are still to come; one more, and the end
  pub placewise_step : (xs ys : List A) (i : ℕ) (d v : A) → i < length xs → i < length ys → v ≡ f i (get_or xs i d) (get_or ys i d) →
      take (i + 1) (set xs i v) ++ placewise f (i + 1) (drop (i + 1) (set xs i v)) (drop (i + 1) ys) ≡ take i xs ++ placewise f i (drop i xs) (drop i ys)
  unfolding placewise
  placewise_step xs ys i d v h g e =
      rw (add-one, take-suc-set xs i v h, drop-set-lt (suc i) xs i v (omega arith), drop-cons xs i d h, drop-cons ys i d g, append_assoc, e, add-one)

  pub placewise_end : (xs ys zs : List A) (i : ℕ) → length xs ≤ i → length ys ≤ i → take i xs ++ placewise f i (drop i xs) (drop i ys) ≡ zs → xs ≡ zs
  unfolding placewise
  placewise_end xs ys zs i h g q =
      sym (take_all i xs h) ∙ sym (append-nil (take i xs)) ∙ rw (drop_of_length-le xs h, drop_of_length-le ys g) at q

-- what holds of each place holds of the whole
pub placewise_map : {A B : Type 0} (f : ℕ → A → A → A) (g : ℕ → B → B → B) (h : A → B) → ((k : ℕ) (a b : A) → h (f k a b) ≡ g k (h a) (h b)) →
    (k : ℕ) (xs ys : List A) → map h (placewise f k xs ys) ≡ placewise g k (map h xs) (map h ys)
unfolding placewise
placewise_map f g h e k [] ys = refl
placewise_map f g h e k (x ∷ xs) [] = refl
placewise_map {B = B} f g h e k (x ∷ xs) (y ∷ ys) = ap₂ (λ (z : B) (zs : List B). z ∷ zs) (e k x y) (placewise_map f g h e (k + 1) xs ys)
