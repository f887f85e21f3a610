-- `table::host::survey::any_linked` meets its contract: nothing is found in the places passed.
-- Assumes nothing.
use Prim.Native.Nat.{◌%◌, ◌+◌, ◌≤◌}
use Rattle.table.specs.Rows.{linked_in, records_of}
use lib.ListN.{drop, length}
use mathlib.Core.Bool.{false}
use mathlib.Core.Path.{◌≡◌}
use Rattle.table.proofs.host.survey.any_linked.Given as goal

abbrev pub invariant-loop-n : goal.invariant-loop-n
invariant-loop-n l = (length l.table ≡ 1536) × (l.i + 4 ≤ 32) × (l.i % 4 ≡ 0) × (linked_in (drop (l.i + 4) (records_of l.table)) ≡ false)

abbrev pub decreases-loop-n : goal.decreases-loop-n
decreases-loop-n l = l.i
