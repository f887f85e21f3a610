-- `table::host::rows::find` meets its contract: what is found from the place reached on is what is found at all.
-- Assumes nothing.
use Prim.Native.Nat.{◌≤◌}
use Rattle.table.specs.Places.{addresses_of, find_of, first_from}
use Rattle.table.specs.Rows.{records_of}
use lib.Dec.{eqb}
use lib.ListN.{drop, length}
use mathlib.Core.Path.{◌≡◌}
use Rattle.table.proofs.host.rows.find.Given as goal

abbrev pub invariant-loop-i : goal.invariant-loop-i
invariant-loop-i l = (length l.table ≡ 1536) × (l.i ≤ 32) × (first_from (λ b. eqb b l.address) l.i (drop l.i (addresses_of (records_of l.table))) ≡ find_of (addresses_of (records_of l.table)) l.address)
