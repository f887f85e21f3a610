-- `table::host::apart::mark_devices` meets its contract: the marks of the devices passed are set.
-- Assumes nothing.
use Prim.Native.Nat.{◌<◌, ℕ}
use Rattle.table.proofs.Passes.Marks.{broad_of}
use Rattle.table.specs.Places.{addresses_of}
use Rattle.table.specs.Rows.{records_of}
use lib.ListN.{get_or, length}
use mathlib.Core.Bool.{true}
use mathlib.Core.Path.{◌≡◌}
use Rattle.table.proofs.host.apart.mark_devices.Given as goal

abbrev pub invariant-loop-i : goal.invariant-loop-i
invariant-loop-i l = (length l.marks ≡ 256) × ((j : ℕ) → j < l.i → get_or l.marks (broad_of (get_or (addresses_of (records_of l.table)) j 0)) true ≡ true)
