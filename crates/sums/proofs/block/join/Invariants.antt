-- `sums::block::join` meets its contract. The loop's invariant: the first i places are joined, the others are still to come.
-- Assumes nothing.
use mathlib.Core.Path.{◌≡◌}
use mathlib.Core.List.{◌++◌}
use lib.ListN.{drop, length, take}
use Rattle.sums.specs.Block.{join_at, join_of, placewise}
use Rattle.sums.proofs.block.join.Given as goal

abbrev pub invariant-loop-i : goal.invariant-loop-i
invariant-loop-i l = (length l.sums ≡ 23) × (take l.i l.sums ++ placewise join_at l.i (drop l.i l.sums) (drop l.i l.fn.b) ≡ join_of l.initial.sums l.fn.b)
