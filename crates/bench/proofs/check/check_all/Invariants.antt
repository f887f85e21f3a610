-- `bench::check::check_all` meets its contract: its rounds keep to the run and to the comparison (specs/Check.antt).
-- Assumes nothing.
use lib.ListN.{length}
use mathlib.Core.Bool.{false}
use mathlib.Core.Path.{◌≡◌}
use Rattle.bench.specs.Check.{Held}
use Rattle.bench.proofs.check.check_all.Given as goal

abbrev pub invariant-loop : goal.invariant-loop
invariant-loop l =
    (length l.table ≡ 1536) × (length l.input ≡ 65536) × (length l.output ≡ 65536) × (length l.log ≡ 65536) × (l.c.broken ≡ false) × (Held l.table l.input l.output l.log l.c)
