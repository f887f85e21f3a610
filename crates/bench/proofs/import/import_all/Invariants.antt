-- `bench::import::import_all` meets its contract: both buffers keep their length.
-- Assumes nothing.
use lib.ListN.{length}
use mathlib.Core.Path.{◌≡◌}
use Rattle.bench.proofs.import.import_all.Given as goal

abbrev pub invariant-loop : goal.invariant-loop
invariant-loop l = (length l.input ≡ 65536) × (length l.output ≡ length l.initial.output)
