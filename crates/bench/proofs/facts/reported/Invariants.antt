-- `bench::facts::reported` meets its contract: what is counted and what is still to be counted are the reports of the kind.
-- Assumes nothing.
use Prim.Native.Nat.{◌+◌, ◌-◌, ◌*◌, ◌≤◌}
use Rattle.bench.specs.Facts.{reports_in}
use lib.ListN.{drop, length}
use mathlib.Core.Path.{◌≡◌}
use Rattle.bench.proofs.facts.reported.Given as goal

abbrev pub invariant-loop-i : goal.invariant-loop-i
invariant-loop-i l = (l.count + reports_in l.kind 0 (drop l.i l.reports) ≡ reports_in l.kind 1 l.reports) × (8 * l.count ≤ l.i + 7) × (length l.reports ≤ 256)

abbrev pub decreases-loop-i : goal.decreases-loop-i
decreases-loop-i l = length l.reports - l.i
