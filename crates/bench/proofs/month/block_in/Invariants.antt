-- `bench::month::block_in` meets its contract. The loop's invariant: the first i numbers are set, one behind the other.
-- Assumes nothing.
use Prim.Native.Nat.{ℕ, zero, suc}
use mathlib.Core.Path.{◌≡◌}
use mathlib.Core.List.{List}
use lib.ListN.{get_or, replicate, set}
use Rattle.octets.specs.Field.{field}
use Rattle.sums.specs.Sums.{Total, held}
use Rattle.bench.proofs.month.block_in.Given as goal

abbrev pub filled : List ℕ → ℕ → List Total
filled fs zero = replicate 23 (held (field 4 21 fs))
filled fs (suc i) = set (filled fs i) i (held (get_or fs i 0))

abbrev pub invariant-loop-i : goal.invariant-loop-i
invariant-loop-i l = l.block ≡ filled l.fn.facts l.i
