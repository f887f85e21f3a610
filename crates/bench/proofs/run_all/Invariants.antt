-- `bench::run_all` meets its contract: its rounds go one behind the other (specs/Rounds.antt).
-- Assumes nothing.
use lib.ListN.{length}
use mathlib.Core.Path.{◌≡◌}
use Rattle.bench.proofs.Reached.{Reached}
use Rattle.bench.proofs.run_all.Given as goal

abbrev pub invariant-loop : goal.invariant-loop
invariant-loop l = (length l.table ≡ 1536) × (length l.input ≡ 65536) × (length l.output ≡ 65536) × (Reached l.initial.r.prints l.table l.input l.output l.r)
