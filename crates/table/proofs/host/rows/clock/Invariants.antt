-- `table::host::rows::clock` meets its contract: the places passed hold what they must, the others what they held, and what ended is told.
-- Assumes nothing.
use Prim.Native.Nat.{◌≤◌}
use Rattle.octets.proofs.RowTrip.{Octets}
use Rattle.table.proofs.Octets.RowStores.{Rewritten}
use Rattle.table.proofs.Passes.Ticks.{Told}
use Rattle.table.specs.Pass.{after_of}
use Rattle.table.specs.Rows.{records_of}
use lib.ListN.{length}
use mathlib.Core.Path.{◌≡◌}
use Rattle.table.proofs.host.rows.clock.Given as goal

abbrev pub invariant-loop-i : goal.invariant-loop-i
invariant-loop-i l = (length l.initial.table ≡ 1536) × (256 ≤ length l.initial.out) × Octets l.initial.table × Rewritten (after_of l.s l.d) l.initial.table l.i l.table × Told l.s l.d l.initial.out (records_of l.initial.table) l.out l.n l.i
