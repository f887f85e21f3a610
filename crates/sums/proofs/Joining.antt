-- 02, K12: "Totals over files equal the totals over the joined lists, whichever order the files come in."
-- A file is a list of events, `of` gives an event's 23 numbers; both are any: what is counted is the bench's.
-- Assumes nothing.
use Prim.Native.Nat.{ℕ, ◌+◌, ◌<◌, max}
use native.Mathlib.Omega.{arith}
use mathlib.Core.Path.{◌≡◌, refl, sym, ap, ap₂, ◌∙◌}
use mathlib.Core.Bool.{Bool, true, false}
use mathlib.Core.List.{List, [], ◌∷◌, ◌++◌, append-nil, append_assoc}
use lib.Dec.{eqb}
use lib.ListN.{get_or, length, get_or-map}
use Rattle.sums.specs.Block.{placewise, both_at, join_at, nothing, both_of, tally, block_of, join_of}
use Rattle.sums.specs.Orders.{Perm, Tree, part, both, parts, brought, joined}
use Rattle.octets.specs.Pick.{pick}
use Rattle.sums.specs.Sums.{held, zero, add_of, longer_of}
use Rattle.sums.specs.Sums.{Total}
use Rattle.sums.proofs.Placewise.{placewise_comm, placewise_assoc, placewise_map, placewise_place}
use Rattle.sums.proofs.Totals.{held_fits, held_add, held_longer, add_comm, add_assoc, longer_comm, longer_assoc}

-- exact numbers, in any order and bracketing
both_at_comm : (k m n : ℕ) → both_at k m n ≡ both_at k n m
unfolding both_at
both_at_comm k m n = go (eqb k 21)
  where
    go : (b : Bool) → pick b (max m n) (m + n) ≡ pick b (max n m) (n + m)
    go true = omega arith
    go false = omega arith

both_at_assoc : (k m n o : ℕ) → both_at k (both_at k m n) o ≡ both_at k m (both_at k n o)
unfolding both_at
both_at_assoc k m n o = go (eqb k 21)
  where
    go : (b : Bool) → pick b (max (pick b (max m n) (m + n)) o) (pick b (max m n) (m + n) + o) ≡ pick b (max m (pick b (max n o) (n + o))) (m + pick b (max n o) (n + o))
    go true = omega arith
    go false = omega arith

pub both_comm : (xs ys : List ℕ) → both_of xs ys ≡ both_of ys xs
both_comm = placewise_comm both_at both_at_comm 0

pub both_assoc : (xs ys zs : List ℕ) → both_of (both_of xs ys) zs ≡ both_of xs (both_of ys zs)
both_assoc = placewise_assoc both_at both_at_assoc 0

-- blocks, in any order and bracketing, whatever stands in them
join_at_comm : (k : ℕ) (a b : Total) → join_at k a b ≡ join_at k b a
unfolding join_at
join_at_comm k a b = ap₂ (pick (eqb k 21)) (longer_comm a b) (add_comm a b)

join_at_assoc : (k : ℕ) (a b d : Total) → join_at k (join_at k a b) d ≡ join_at k a (join_at k b d)
unfolding join_at
join_at_assoc k a b d = go (eqb k 21)
  where
    go : (t : Bool) → pick t (longer_of (pick t (longer_of a b) (add_of a b)) d) (add_of (pick t (longer_of a b) (add_of a b)) d) ≡ pick t (longer_of a (pick t (longer_of b d) (add_of b d))) (add_of a (pick t (longer_of b d) (add_of b d)))
    go true = longer_assoc a b d
    go false = add_assoc a b d

pub join_comm : (a b : List Total) → join_of a b ≡ join_of b a
join_comm = placewise_comm join_at join_at_comm 0

pub join_assoc : (a b d : List Total) → join_of (join_of a b) d ≡ join_of a (join_of b d)
join_assoc = placewise_assoc join_at join_at_assoc 0

-- the block of two lots of numbers together is their blocks joined
pub held_both : (k m n : ℕ) → held (both_at k m n) ≡ join_at k (held m) (held n)
unfolding both_at join_at
held_both k m n = go (eqb k 21)
  where
    go : (b : Bool) → held (pick b (max m n) (m + n)) ≡ pick b (longer_of (held m) (held n)) (add_of (held m) (held n))
    go true = held_longer m n
    go false = held_add m n

pub block_both : (xs ys : List ℕ) → block_of (both_of xs ys) ≡ join_of (block_of xs) (block_of ys)
block_both = placewise_map both_at join_at held held_both 0

-- each place stands by itself: the exact number where 64 bits hold it, whatever the others are
pub place_alone : (xs : List ℕ) (i : ℕ) → get_or (block_of xs) i zero ≡ held (get_or xs i 0)
place_alone xs i = ap (get_or (block_of xs) i) (sym (held_fits 0 (omega arith))) ∙ get_or-map held xs i 0

pub joined_place : (a b : List Total) (i : ℕ) → i < length a → i < length b → get_or (join_of a b) i zero ≡ join_at i (get_or a i zero) (get_or b i zero)
joined_place a b i h g = placewise_place join_at 0 i a b zero h g ∙ ap (λ (n : ℕ). join_at n (get_or a i zero) (get_or b i zero)) (omega arith)

joined_parts : {A : Type 0} (fs gs : List (List A)) → joined (fs ++ gs) ≡ joined fs ++ joined gs
joined_parts [] gs = refl
joined_parts (xs ∷ fs) gs = ap (λ (r : List _). xs ++ r) (joined_parts fs gs) ∙ sym (append_assoc xs (joined fs) (joined gs))

both_nothing : both_of nothing nothing ≡ nothing
unfolding placewise both_at
both_nothing = refl

module _ {A : Type 0} (of : A → List ℕ) where
  -- a tally goes on from nothing
  pub tally_nothing : (xs : List A) → both_of nothing (tally of xs) ≡ tally of xs
  unfolding tally
  tally_nothing [] = both_nothing
  tally_nothing (x ∷ xs) =
      sym (both_assoc nothing (of x) (tally of xs)) ∙ ap (λ (ns : List ℕ). both_of ns (tally of xs)) (both_comm nothing (of x))
      ∙ both_assoc (of x) nothing (tally of xs) ∙ ap (both_of (of x)) (tally_nothing xs)

  -- the numbers of two lists joined are the numbers of both together
  pub tally_joined : (xs ys : List A) → tally of (xs ++ ys) ≡ both_of (tally of xs) (tally of ys)
  unfolding tally
  tally_joined [] ys = sym (tally_nothing ys)
  tally_joined (x ∷ xs) ys = ap (both_of (of x)) (tally_joined xs ys) ∙ sym (both_assoc (of x) (tally of xs) (tally of ys))

  -- in any order
  pub tally_order : {xs ys : List A} → Perm xs ys → tally of xs ≡ tally of ys
  unfolding tally
  tally_order Perm.nil = refl
  tally_order (Perm.cons {x = x} p) = ap (both_of (of x)) (tally_order p)
  tally_order (Perm.swap {x = x} {y = y} {xs = xs}) =
      sym (both_assoc (of x) (of y) (tally of xs)) ∙ ap (λ (ns : List ℕ). both_of ns (tally of xs)) (both_comm (of x) (of y))
      ∙ both_assoc (of y) (of x) (tally of xs)
  tally_order (Perm.trans p q) = tally_order p ∙ tally_order q

module _ {A : Type 0} (of : A → List ℕ) where
  -- the numbers of files, file by file, are those of the joined lists
  pub tally_files : (files : List (List A)) → tally (tally of) files ≡ tally of (joined files)
  unfolding tally
  tally_files [] = refl
  tally_files (xs ∷ files) = ap (both_of (tally of xs)) (tally_files files) ∙ sym (tally_joined of xs (joined files))

  -- The totals over files: the block of each, joined two at a time in any bracketing, is the block of the joined lists.
  pub totals_joined : (t : Tree (List A)) → brought (λ (xs : List A). block_of (tally of xs)) join_of t ≡ block_of (tally of (joined (parts t)))
  totals_joined (part xs) = ap (λ (ys : List A). block_of (tally of ys)) (sym (append-nil xs))
  totals_joined (both s t) =
      ap₂ join_of (totals_joined s) (totals_joined t)
      ∙ sym (block_both (tally of (joined (parts s))) (tally of (joined (parts t))))
      ∙ ap block_of (sym (tally_joined of (joined (parts s)) (joined (parts t))) ∙ ap (tally of) (sym (joined_parts (parts s) (parts t))))

  -- Whichever order the files come in, and whichever way they are added up.
  pub any_way : (s t : Tree (List A)) → Perm (parts s) (parts t) →
      brought (λ (xs : List A). block_of (tally of xs)) join_of s ≡ brought (λ (xs : List A). block_of (tally of xs)) join_of t
  any_way s t p =
      totals_joined s
      ∙ ap block_of (sym (tally_files (parts s)) ∙ tally_order (tally of) p ∙ tally_files (parts t))
      ∙ sym (totals_joined t)
