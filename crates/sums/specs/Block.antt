-- 02, K12: "For each file and for all together: events, refusals by number, discards by reason, joins, leaves, timeouts by kind, the longest and
-- the total hold set, and the mean hold as a reduced fraction". A block has 23 places: 0 events; 1 to 9 refusals 1 to 9; 10 to 12 discards (no
-- class, class filter, group rule); 13 joins; 14 leaves; 15 to 19 timeouts of kinds 1 to 5; 20 holds set; 21 the longest; 22 their total.
-- Assumes nothing.
use Rattle.std.specs.Prelude.{ℕ, zero, suc, ◌+◌, max, List, [], ◌∷◌, map, eqb, get_or, replicate, set, Option, Some, None}
use Rattle.sums.specs.Lowest.{reduced_of}
use Rattle.octets.specs.Pick.{pick}
use Rattle.sums.specs.Sums as sums
use Rattle.sums.specs.Sums.{Total, add_of, held, longer_of}
use Rattle.sums.specs.declared.fraction.Fraction.{Fraction}

-- Two lists brought together place by place, the first place being k; where one has ended, what the other has.
unfoldable pub placewise : {A : Type 0} → (ℕ → A → A → A) → ℕ → List A → List A → List A
placewise f k [] bs = bs
placewise f k (a ∷ rest) [] = a ∷ rest
placewise f k (a ∷ rest) (b ∷ bs) = f k a b ∷ placewise f (k + 1) rest bs

-- "the longest": of two the longer; every other place: the sum.
unfoldable pub both_at : ℕ → ℕ → ℕ → ℕ
both_at place m n = pick (eqb place 21) (max m n) (m + n)

unfoldable pub join_at : ℕ → Total → Total → Total
join_at place a b = pick (eqb place 21) (longer_of a b) (add_of a b)

-- The exact numbers, without end: of nothing, and of two lists of events together.
abbrev pub nothing : List ℕ
nothing = replicate 23 0

abbrev pub both_of : List ℕ → List ℕ → List ℕ
both_of xs ys = placewise both_at 0 xs ys

-- The exact numbers of a list: those of each of its elements, together.
unfoldable pub tally : {A : Type 0} → (A → List ℕ) → List A → List ℕ
tally of [] = nothing
tally of (x ∷ xs) = both_of (of x) (tally of xs)

-- One number at a place, and nothing anywhere else.
abbrev pub single : ℕ → ℕ → List ℕ
single zero n = n ∷ []
single (suc place) n = 0 ∷ single place n

-- The block of exact numbers: each as 64 bits hold it, "and the others stand".
abbrev pub block_of : List ℕ → List Total
block_of xs = map held xs

abbrev pub empty_of : List Total
empty_of = replicate 23 sums.zero

abbrev pub join_of : List Total → List Total → List Total
join_of a b = placewise join_at 0 a b

-- Blocks joined one behind the other.
abbrev pub added_to : List Total → List (List Total) → List Total
added_to b [] = b
added_to b (x ∷ xs) = added_to (join_of b x) xs

-- A number more, at one place.
unfoldable pub plus_of : List Total → ℕ → Total → List Total
plus_of b place t = set b place (join_at place (get_or b place sums.zero) t)

-- "the mean hold as a reduced fraction (0/1 where none was set; 0 may be set)"; "the mean follows the total hold". None is `over`.
abbrev pub mean_by : Total → Total → Option Fraction
mean_by None holds = None
mean_by (Some m) None = None
mean_by (Some m) (Some n) = Some (reduced_of m n)

unfoldable pub mean_of : List Total → Option Fraction
mean_of b = mean_by (get_or b 22 sums.zero) (get_or b 20 sums.zero)
