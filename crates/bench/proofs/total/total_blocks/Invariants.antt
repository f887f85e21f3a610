-- `bench::total::total_blocks` meets its contract: its pieces go one behind the other.
-- Assumes nothing.
use lib.ListN.{length}
use mathlib.Core.Path.{◌≡◌}
use Rattle.bench.proofs.Came.{Came}
use Rattle.bench.proofs.total.total_blocks.Given as goal

abbrev pub invariant-loop : goal.invariant-loop
invariant-loop l = (length l.input ≡ 65536) × Came l.a
