-- `bench::changes::same_row` meets its contract: as long as none differs, the octets so far are the same.
-- Assumes nothing.
use lib.ListN.{take, drop}
use mathlib.Core.Bool.{true}
use mathlib.Core.Path.{◌≡◌}
use Rattle.bench.proofs.changes.same_row.Given as goal

abbrev pub invariant-loop-j : goal.invariant-loop-j
invariant-loop-j l = l.same ≡ true → take l.j (drop l.at l.a) ≡ take l.j (drop l.at l.b)
