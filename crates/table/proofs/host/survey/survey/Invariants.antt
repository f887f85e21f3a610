-- `table::host::survey::survey` meets its contract: every place passed is well formed, and what is counted of them is all there is at the end.
-- Assumes nothing.
use Prim.Native.Nat.{◌≤◌}
use Rattle.peer.specs.Settings.{settings_fit}
use Rattle.table.proofs.Octets.Surveys.{Surveyed}
use lib.ListN.{length}
use mathlib.Core.Bool.{true}
use mathlib.Core.Path.{◌≡◌}
use Rattle.table.proofs.host.survey.survey.Given as goal

abbrev pub invariant-loop-i-2 : goal.invariant-loop-i-2
invariant-loop-i-2 l = (settings_fit l.s ≡ true) × (l.i ≤ l.initial.i) × (length l.marks ≡ 256) × Surveyed l.s l.table l.marks l.associated l.joined l.associating l.i

abbrev pub decreases-loop-i-2 : goal.decreases-loop-i-2
decreases-loop-i-2 l = l.i

abbrev pub invariant-loop-i : goal.invariant-loop-i
invariant-loop-i l = (settings_fit l.s ≡ true) × (length l.marks ≡ 256) × Surveyed l.s l.table l.marks l.associated l.joined l.associating l.i

abbrev pub decreases-loop-i : goal.decreases-loop-i
decreases-loop-i l = l.i
