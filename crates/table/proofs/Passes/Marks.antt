-- The search for two of one address, from the last place to the first: each address passed has its mark set, and no two passed are the same.
-- What a mark is does not matter.
-- Assumes nothing.
use mathlib.Core.Path.{◌≡◌, refl, sym, ◌∙◌}
use mathlib.Core.Bool.{Bool, true, false, not, ◌||◌}
use mathlib.Core.List.{List, [], ◌∷◌}
use Prim.Native.Nat.{ℕ, zero, suc, ◌+◌, ◌-◌, ◌*◌, ◌<◌, ◌≤◌, ◌/◌, ◌%◌}
use native.Mathlib.Omega.{arith}
use lib.Dec.{eqb}
use lib.ListN.{length, drop, get_or, set, length-set}
use lib.Seq.{get_or-set_same, get_or-set_other, drop-length}
use borrow.Author.Tests.{eqb-true, eqb-false}
use Rattle.octets.proofs.Branch.{by_bool, and_left, and_right}
use Rattle.table.specs.Places.{all_tails, all_of}
use Rattle.table.specs.Fit.{apart, alone_in, distinct_of}
use Rattle.table.proofs.Passes.Loops.{left_step, and_false}

-- the mark of an address, as `survey` takes it
abbrev pub mark_of : ℕ → ℕ
mark_of a = (a / 4294967296 + a / 1099511627776) % 256

-- the mark of an address, as `links_apart` takes it
abbrev pub broad_of : ℕ → ℕ
broad_of a = (16 * (a % 256) + 2 * (a / 4294967296) + a / 1099511627776) % 256

-- each address but 0 has its mark set; f: the mark of an address
abbrev pub Marked : (ℕ → ℕ) → List Bool → List ℕ → Bool
Marked f marks l = all_of (λ b. eqb b 0 || get_or marks (f b) false) l

or_true : (x : Bool) → (x || true) ≡ true
or_true true = refl
or_true false = refl

-- an address whose mark is not set is none of those passed
pub none_behind : (f : ℕ → ℕ) (marks : List Bool) (a : ℕ) (l : List ℕ) → eqb a 0 ≡ false → get_or marks (f a) false ≡ false → Marked f marks l ≡ true → all_of (apart a) l ≡ true
unfolding all_tails
none_behind f marks a [] z m h = refl
none_behind f marks a (b ∷ l) z m h = by_bool (eqb b a)
    (λ e.
    let q : b ≡ a = eqb-true b a e in
    let set_a : (eqb a 0 || get_or marks (f a) false) ≡ true = rw q at (and_left (eqb b 0 || get_or marks (f b) false) (Marked f marks l) h) in
    let no : false ≡ true = rw (z, m) at set_a in
    cc no)
    (λ e. rw (e, none_behind f marks a l z m (and_right (eqb b 0 || get_or marks (f b) false) (Marked f marks l) h)))

pub marked_more : (f : ℕ → ℕ) (marks : List Bool) (k : ℕ) (l : List ℕ) → k < length marks → Marked f marks l ≡ true → Marked f (set marks k true) l ≡ true
unfolding all_tails
marked_more f marks k [] h e = refl
marked_more f marks k (b ∷ l) h e =
    rw (marked_more f marks k l h (and_right (eqb b 0 || get_or marks (f b) false) (Marked f marks l) e), head) refl
  where
    head : (eqb b 0 || get_or (set marks k true) (f b) false) ≡ true
    head = by_bool (eqb (f b) k)
        (λ q. rw (eqb-true (f b) k q, get_or-set_same marks k true false h) (or_true (eqb b 0)))
        (λ q. rw (get_or-set_other marks k (f b) true false (eqb-false (f b) k q)) (and_left (eqb b 0 || get_or marks (f b) false) (Marked f marks l) e))

-- what fails behind a place fails from the first on
fails_from : {A : Type 0} (g : A → List A → Bool) (i : ℕ) (l : List A) → all_tails g (drop i l) ≡ false → all_tails g l ≡ false
unfolding all_tails
fails_from g zero l e = e
fails_from g (suc i) [] e = e
fails_from g (suc i) (x ∷ l) e = rw (fails_from g i l e) (and_false (g x l))

-- the places from i on are passed
pub record Passed (f : ℕ → ℕ) (l : List ℕ) (marks : List Bool) (i : ℕ) : Type 0 where
  pub low : i ≤ length l
  pub wide : (a : ℕ) → f a < length marks
  pub marked : Marked f marks (drop i l) ≡ true
  pub apart : distinct_of (drop i l) ≡ true

pub passed_none : (f : ℕ → ℕ) (l : List ℕ) (marks : List Bool) → ((a : ℕ) → f a < length marks) → Passed f l marks (length l)
unfolding all_tails
passed_none f l marks h = record { low = omega arith; wide = h; marked = rw (drop-length l); apart = rw (drop-length l) }

pub passed_all : {f : ℕ → ℕ} (l : List ℕ) (marks : List Bool) (i : ℕ) → Passed f l marks i → i ≤ 0 → true ≡ distinct_of l
passed_all l marks i p h =
    let e : i ≡ 0 = omega arith in
    sym (rw e at p.apart)

-- a: the address at the place before i, whose mark may be set
module _ {f : ℕ → ℕ} (l : List ℕ) (marks : List Bool) (i : ℕ) (p : Passed f l marks i) (h : 0 < i) (a : ℕ) (ea : a ≡ get_or l (i - 1) 0) where
  next : i - 1 + 1 ≡ i
  next = omega arith

  here : {B : Type 0} (F : List ℕ → B) → F (drop (i - 1) l) ≡ F (a ∷ drop i l)
  here F = left_step F l (i - 1) 0 (omega (arith, p.low)) ∙ rw (next, ea)

  pub passed_zero : a ≡ 0 → Passed f l marks (i - 1)
  unfolding all_tails alone_in
  passed_zero z = record {
    low = omega (arith, p.low);
    wide = p.wide;
    marked = here (Marked f marks) ∙ rw (z, p.marked);
    apart = here distinct_of ∙ rw (z, p.apart);
  }

  -- k: its mark
  module _ (z : eqb a 0 ≡ false) (k : ℕ) (ek : k ≡ f a) where
    pub same_twice : (not (get_or marks k false) || all_of (apart a) (drop (i - 1 + 1) l)) ≡ false → false ≡ distinct_of l
    unfolding all_tails alone_in
    same_twice e = sym (fails_from alone_in (i - 1) l (here distinct_of ∙ rw (z, found (get_or marks k false) (rw next at e))))
      where
        found : (m : Bool) → (not m || all_of (apart a) (drop i l)) ≡ false → all_of (apart a) (drop i l) ≡ false
        found true e = e
        found false e = cc e

    pub passed_one : (not (get_or marks k false) || all_of (apart a) (drop (i - 1 + 1) l)) ≡ true → Passed f l (set marks k true) (i - 1)
    unfolding all_tails alone_in
    passed_one e = record {
      low = omega (arith, p.low);
      wide = rw (length-set marks k true) p.wide;
      marked = here (Marked f (set marks k true)) ∙ rw (marked_more f marks k (drop i l) inside p.marked, ← ek, get_or-set_same marks k true false inside, or_true (eqb a 0));
      apart = here distinct_of ∙ rw (z, alone (get_or marks k false) refl (rw next at e), p.apart);
    }
      where
        inside : k < length marks
        inside = rw ek (p.wide a)

        alone : (m : Bool) → get_or marks k false ≡ m → (not m || all_of (apart a) (drop i l)) ≡ true → all_of (apart a) (drop i l) ≡ true
        alone true em e = e
        alone false em e = none_behind f marks a (drop i l) z (rw ek at em) p.marked
