-- `Since` as a fold over the list, which is how it is kept from one event to the next; and that the two say the same.
-- Assumes nothing.
use mathlib.Core.Path.{◌≡◌, refl, ap, ◌∙◌}
use mathlib.Core.Bool.{Bool, true, false, not, ◌&&◌, ◌||◌}
use mathlib.Core.List.{List, [], ◌∷◌, ◌++◌}
use Rattle.octets.proofs.Branch.{by_bool}
use Rattle.peer.proofs.Fits.{both, wrong}
use Rattle.table.specs.Joined.{Since}
use Rattle.table.specs.Places.{all_of, all_tails}
use Rattle.table.proofs.Passes.Lists.{join}

module _ {A : Type 0} (such ends : A → Bool) where
  -- whether it is so after one more, and after a list, where b says whether it was before
  abbrev pub on : Bool → A → Bool
  on b a = such a || (b && not (ends a))

  abbrev pub held : Bool → List A → Bool
  held b [] = b
  held b (a ∷ l) = held (on b a) l

  pub held_append : (b : Bool) (l k : List A) → held b (l ++ k) ≡ held (held b l) k
  held_append b [] k = refl
  held_append b (a ∷ l) k = held_append (on b a) l k

  goes_on : (a : A) → not (ends a) ≡ true → on true a ≡ true
  goes_on a h = by_bool (such a) (λ e. rw e) (λ e. rw (e, h))

  stays : (l : List A) → all_of (λ a. not (ends a)) l ≡ true → held true l ≡ true
  unfolding all_tails
  stays [] h = refl
  stays (a ∷ l) h = let k = both (not (ends a)) _ h in rw (goes_on a k.0) (stays l k.1)

  -- what the words have, the fold has
  pub of_since : (b : Bool) (l : List A) → Since such ends l → held b l ≡ true
  of_since b l k = ap (held b) k.split ∙ held_append b k.before (k.one ∷ k.after) ∙ rw k.is (stays k.after k.none)

  -- what the fold has, the words have, or it was so before and nothing ended it
  since_or : (P : Type 0) (b : Bool) (l : List A) → held b l ≡ true → (Since such ends l → P) → (b ≡ true → all_of (λ a. not (ends a)) l ≡ true → P) → P
  unfolding all_tails
  since_or P b [] h new old = old h refl
  since_or P b (a ∷ l) h new old = since_or P (on b a) l h
      (λ k. new (record { before = a ∷ k.before; one = k.one; after = k.after; split = ap (λ (r : List A). a ∷ r) k.split; is = k.is; none = k.none }))
      (λ e n. by_bool (such a)
      (λ w. new (record { before = []; one = a; after = l; split = refl; is = w; none = n }))
      (λ w. let k = both b _ (rw w at e) in old k.0 (join k.1 n)))

  pub since_of : (l : List A) → held false l ≡ true → Since such ends l
  since_of l h = since_or (Since such ends l) false l h (λ k. k) (λ e n. wrong e)
