-- `table::host::rows::part_all` meets its contract: the places passed hold what they must, the others what they held.
-- Assumes nothing.
use Prim.Native.Nat.{◌≤◌}
use Rattle.octets.proofs.RowTrip.{Octets}
use Rattle.peer.specs.Association.{parted_of}
use Rattle.table.proofs.Octets.RowStores.{Rewritten}
use lib.ListN.{length}
use mathlib.Core.Path.{◌≡◌}
use Rattle.table.proofs.host.rows.part_all.Given as goal

abbrev pub invariant-loop-i : goal.invariant-loop-i
invariant-loop-i l = (length l.initial.table ≡ 1536) × (l.i ≤ 32) × Octets l.initial.table × Rewritten parted_of l.initial.table l.i l.table
