-- `table::host::apart::links_apart` meets its contract: no link passed is in a later slot or a device's address.
-- Assumes nothing.
use Prim.Native.Nat.{◌≤◌}
use Rattle.table.proofs.Passes.LinkMarks.{Compared}
use Rattle.table.proofs.Passes.Marks.{broad_of}
use Rattle.table.specs.Places.{addresses_of, link_addresses_of}
use Rattle.table.specs.Rows.{records_of}
use Rattle.table.proofs.host.apart.links_apart.Given as goal

abbrev pub invariant-loop-k : goal.invariant-loop-k
invariant-loop-k l = (l.k ≤ 128) × Compared broad_of (link_addresses_of (records_of l.table)) (addresses_of (records_of l.table)) l.marks l.k
