-- Values at the limits, computed: the last sum that 64 bits hold and the first that they don't, `over` in its own place alone, means.
-- Assumes nothing.
use Prim.Native.Nat.{ℕ, ◌^◌, ◌-◌}
use mathlib.Core.Path.{◌≡◌, refl}
use mathlib.Core.List.{List}
use lib.ListN.{get_or, set}
use Rattle.sums.specs.Block.{placewise, join_at, nothing, block_of, empty_of, join_of, mean_of}
use Rattle.sums.specs.Gcd.{euclid, gcd_of}
use Rattle.sums.specs.Lowest.{reduced_of}
use Rattle.sums.specs.Sums as sums
use Rattle.sums.specs.Sums.{held, add_of, longer_of}
use Rattle.std.specs.Prelude.{Some, None}

last_that_fits : add_of (Some (2 ^ 64 - 2)) (Some 1) ≡ Some (2 ^ 64 - 1)
unfolding held
last_that_fits = refl

first_over : add_of (Some (2 ^ 64 - 1)) (Some 1) ≡ None
unfolding held
first_over = refl

-- the longest never passes what it was the longest of
longest_at_the_end : longer_of (Some (2 ^ 64 - 1)) (Some 7) ≡ Some (2 ^ 64 - 1)
longest_at_the_end = refl

-- a block with a number at one place and another at a second
abbrev two : ℕ → ℕ → ℕ → ℕ → List ℕ
two i m j n = set (set nothing i m) j n

-- events pass 64 bits; the refusals beside them, and the longest, stand
one_over : join_of (block_of (two 0 (2 ^ 64 - 1) 1 5)) (block_of (two 0 1 1 7)) ≡ set (set empty_of 0 None) 1 (Some 12)
unfolding placewise join_at held
one_over = refl

longest_of_two : get_or (join_of (block_of (two 21 9 22 9)) (block_of (two 21 4 22 4))) 21 sums.zero ≡ Some 9
unfolding placewise join_at held
longest_of_two = refl

-- the mean of 6 over 4; of none; of a hold of 0; and over with the total
three_halves : mean_of (block_of (two 20 4 22 6)) ≡ Some (record { top = 3; bottom = 2 })
unfolding mean_of held reduced_of gcd_of euclid
three_halves = refl

none_set : mean_of empty_of ≡ Some (record { top = 0; bottom = 1 })
unfolding mean_of held reduced_of gcd_of euclid
none_set = refl

a_hold_of_0 : mean_of (block_of (two 20 5 22 0)) ≡ Some (record { top = 0; bottom = 1 })
unfolding mean_of held reduced_of gcd_of euclid
a_hold_of_0 = refl

mean_over : mean_of (block_of (two 20 5 22 (2 ^ 64))) ≡ None
unfolding mean_of held
mean_over = refl

large : gcd_of (2 ^ 64 - 1) (2 ^ 32 - 1) ≡ 4294967295
unfolding gcd_of euclid
large = refl
