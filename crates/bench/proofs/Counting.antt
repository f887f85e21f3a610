-- What is counted of an event: how long it is as octets, and the laws of the two passes that count.
-- Assumes nothing.
use Prim.Native.Nat.{ℕ, zero, suc, ◌+◌, ◌-◌, ◌≤◌, ◌<◌}
use mathlib.Core.Path.{◌≡◌, refl, sym, ap, ◌∙◌}
use mathlib.Core.Bool.{Bool}
use mathlib.Core.List.{List, [], ◌∷◌, ◌++◌, append_assoc}
use native.Mathlib.Nat.{le_of_suc-le-suc, not-suc-le-zero}
use native.Mathlib.Omega.{arith}
use lib.Dec.{eqb, leb}
use lib.ListN.{length, drop, get_or, take, drop_of_length-le, length-append}
use lib.Seq.{drop-cons, drop-drop, length-take-le, take_all}
use borrow.Author.Tests.{leb-false, leb-true}
use Rattle.octets.proofs.Branch.{by_bool}
use Rattle.octets.proofs.Le.{length_octets}
use Rattle.octets.proofs.Stores.{then}
use Rattle.octets.specs.Stored.{Stored}
use Rattle.octets.specs.Field.{octets}
use Rattle.table.specs.declared.rules.answer.Answer.{Answer}
use Rattle.table.specs.declared.rules.event.Event.{Event}
use Rattle.table.specs.declared.rules.event.Event.TheVariants as event
use Rattle.bench.specs.Facts.{answer_numbers, dropped_by, facts_of, front_numbers, one, ones_from, reported_by, reports_in, timeout_numbers}

-- One number more.
pub ones_none : (k v : ℕ) → ones_from k 0 v ≡ []
unfolding ones_from
ones_none k v = refl

pub ones_more : (k n v : ℕ) → (n ≡ 0 → ⊥) → ones_from k n v ≡ (one (eqb v k) ∷ []) ++ ones_from (k + 1) (n - 1) v
unfolding ones_from
ones_more k zero v h = absurd (h refl)
ones_more k (suc n) v h = let e : suc n - 1 ≡ n = omega arith in rw e

pub ones_length : (n k v : ℕ) → length (ones_from k n v) ≡ n
unfolding ones_from
ones_length zero k v = refl
ones_length (suc n) k v = ap suc (ones_length n (k + 1) v)

-- 21 numbers; 25 octets
pub front_is : (a : Answer) (dropped : ℕ) (reports : List ℕ) (set : Bool) → length (front_numbers a dropped reports set) ≡ 21
unfolding front_numbers answer_numbers timeout_numbers ones_from
front_is a dropped reports set = refl

pub facts_length : (a : Answer) (dropped : ℕ) (reports : List ℕ) (set : Bool) (hold : ℕ) → length (facts_of a dropped reports set hold) ≡ 25
unfolding facts_of
facts_length a dropped reports set hold =
    length-append (front_numbers a dropped reports set) (octets 4 hold) ∙ omega (arith, front_is a dropped reports set, length_octets 4 hold)

pub facts_short : (a : Answer) (dropped : ℕ) (reports : List ℕ) (set : Bool) (hold : ℕ) → length (facts_of a dropped reports set hold) ≤ 64
facts_short a dropped reports set hold = omega (arith, facts_length a dropped reports set hold)

-- They are stored one behind the other.
answer_length : (a : Answer) (dropped : ℕ) → length (answer_numbers a dropped) ≡ 15
unfolding answer_numbers ones_from
answer_length a dropped = refl

timeout_length : (reports : List ℕ) → length (timeout_numbers reports) ≡ 5
unfolding timeout_numbers
timeout_length reports = refl

pub answer_stored : {l m₁ m₂ m₃ k : List ℕ} {at p₁ p₂ : ℕ} (a : Answer) (dropped : ℕ) → Stored l at (1 ∷ []) m₁ → Stored m₁ (at + 1) (ones_from 1 9 a.refusal) m₂ → p₁ ≡ at + 1 + 9 →
    Stored m₂ p₁ (ones_from 10 3 dropped) m₃ → p₂ ≡ p₁ + 3 → Stored m₃ p₂ (ones_from 1 2 a.ds) k → Stored l at (answer_numbers a dropped) k
unfolding answer_numbers
answer_stored {at = at} {p₁ = p₁} {p₂ = p₂} a dropped s₀ s₁ e₁ s₂ e₂ s₃ =
    let n₁ = ones_length 9 1 a.refusal in
    let n₂ = ones_length 3 10 dropped in
    let h₁ : length ((1 ∷ []) ++ ones_from 1 9 a.refusal) ≡ 10 = omega arith in
    let h₂ : length ((1 ∷ []) ++ ones_from 1 9 a.refusal ++ ones_from 10 3 dropped) ≡ 13 = length-append ((1 ∷ []) ++ ones_from 1 9 a.refusal) (ones_from 10 3 dropped) ∙ omega arith in
    then (then (then s₀ s₁ refl) s₂ (omega arith)) s₃ (omega arith)

pub facts_stored : {l m₁ m₂ k : List ℕ} {at p₁ p₂ : ℕ} (a : Answer) (dropped : ℕ) (reports : List ℕ) (set : Bool) (hold : ℕ) → Stored l at (answer_numbers a dropped) m₁ → p₁ ≡ at + 15 →
    Stored m₁ p₁ (timeout_numbers reports) m₂ → p₂ ≡ p₁ + 5 → Stored m₂ p₂ (one set ∷ octets 4 hold) k → Stored l at (facts_of a dropped reports set hold) k
unfolding facts_of front_numbers
facts_stored {at = at} {p₁ = p₁} {p₂ = p₂} a dropped reports set hold s₁ e₁ s₂ e₂ s₃ =
    let n₁ = answer_length a dropped in
    let h₂ : length (answer_numbers a dropped ++ timeout_numbers reports) ≡ 20 = length-append (answer_numbers a dropped) (timeout_numbers reports) ∙ omega (arith, timeout_length reports, n₁) in
    rw (append_assoc (answer_numbers a dropped ++ timeout_numbers reports) (one set ∷ []) (octets 4 hold)) (then (then s₁ s₂ (omega arith)) s₃ (omega arith))

-- The octets that a clock step wrote are no more than the scratch.
pub take_more : (n : ℕ) (xs : List ℕ) → length xs < n → xs ≡ take n xs
take_more n xs h = sym (take_all n xs (omega arith))

pub get_d_none : (xs : List ℕ) (i : ℕ) → length xs ≤ i → get_or xs i 0 ≡ 0
get_d_none [] i h = refl
get_d_none (x ∷ xs) zero h = absurd (not-suc-le-zero h)
get_d_none (x ∷ xs) (suc i) h = get_d_none xs i (le_of_suc-le-suc h)

take_short : (n : ℕ) (xs : List ℕ) → length (take n xs) ≤ length xs
take_short n xs =
    by_bool (leb n (length xs))
    (λ e. omega (arith, length-take-le n xs (leb-true n (length xs) e), leb-true n (length xs) e))
    (λ e. rw (take_all n xs (omega (arith, leb-false n (length xs) e))) (omega arith))

pub reported_short : {ys : List ℕ} (e : Event) (written : ℕ) (xs : List ℕ) → ys ≡ reported_by e written xs → length xs ≡ 256 → length ys ≤ 256
reported_short event.Frame written xs p h = rw p (omega arith)
reported_short (event.Ask q a c) written xs p h = rw p (omega arith)
reported_short event.Links written xs p h = rw p (omega arith)
reported_short (event.Clock d) written xs p h = rw p (omega (arith, take_short written xs, h))

-- a frame that was dropped
pub dropped_frame : {e : Event} (verdict reason : ℕ) → e ≡ event.Frame → verdict ≡ 2 → dropped_by e verdict reason ≡ reason
dropped_frame verdict reason f v = rw (f, v)

-- Octets to pass before the next kind.
module _ (kind : ℕ) where
  skip : (j : ℕ) (xs : List ℕ) → reports_in kind j xs ≡ reports_in kind 0 (drop j xs)
  unfolding reports_in
  skip zero xs = refl
  skip (suc j) [] = refl
  skip (suc j) (x ∷ xs) = skip j xs

  pub reports_start : (xs : List ℕ) → 0 + reports_in kind 0 (drop 1 xs) ≡ reports_in kind 1 xs
  reports_start xs = omega (arith, skip 1 xs)

  -- one kind, and the eight octets up to the next
  front : (x : ℕ) (rest : List ℕ) → reports_in kind 0 (x ∷ rest) ≡ one (eqb x kind) + reports_in kind 0 (drop 7 rest)
  unfolding reports_in
  front x rest = ap (λ (n : ℕ). one (eqb x kind) + n) (skip 7 rest)

  pub reports_step : (count i n : ℕ) (xs : List ℕ) → i < length xs → n ≡ one (eqb (get_or xs i 0) kind) → count + reports_in kind 0 (drop i xs) ≡ reports_in kind 1 xs →
      count + n + reports_in kind 0 (drop (i + 8) xs) ≡ reports_in kind 1 xs
  reports_step count i n xs h e p =
      let z : suc i + 7 ≡ i + 8 = omega arith in
      let d : drop 7 (drop (suc i) xs) ≡ drop (i + 8) xs = rw (drop-drop 7 (suc i) xs, z) in
      let f : reports_in kind 0 (drop i xs) ≡ one (eqb (get_or xs i 0) kind) + reports_in kind 0 (drop (i + 8) xs) =
      ap (reports_in kind 0) (drop-cons xs i 0 h) ∙ (front (get_or xs i 0) (drop (suc i) xs) ∙ ap (λ (l : List ℕ). one (eqb (get_or xs i 0) kind) + reports_in kind 0 l) d) in
      omega (arith, f, e, p)

  pub reports_end : (count i : ℕ) (xs : List ℕ) → length xs ≤ i → count + reports_in kind 0 (drop i xs) ≡ reports_in kind 1 xs → count ≡ reports_in kind 1 xs
  unfolding reports_in
  reports_end count i xs h p =
      let z : reports_in kind 0 (drop i xs) ≡ 0 = rw (drop_of_length-le xs h) in
      omega (arith, z, p)
