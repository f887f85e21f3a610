-- `bench::month::count_file` meets its contract: its turns go one behind the other, and what each left is counted.
-- Assumes nothing.
use Rattle.bench.specs.Month.{Counting}
use lib.ListN.{length}
use mathlib.Core.Path.{◌≡◌}
use Rattle.bench.proofs.month.count_file.Given as goal

abbrev pub invariant-loop-gone : goal.invariant-loop-gone
invariant-loop-gone l =
    (length l.table ≡ 1536) × (length l.input ≡ 65536) × (length l.output ≡ 65536) × (Counting l.table l.input l.output (record { run = l.r; block = l.block; stopped = l.stopped }))
