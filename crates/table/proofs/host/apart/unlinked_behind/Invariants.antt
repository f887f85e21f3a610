-- `table::host::apart::unlinked_behind` meets its contract: what holds from the slot reached on holds at all.
-- Assumes nothing.
use Prim.Native.Nat.{◌+◌, ◌<◌}
use Rattle.table.specs.Fit.{apart}
use Rattle.table.specs.Places.{all_of, link_addresses_of}
use Rattle.table.specs.Rows.{records_of}
use lib.ListN.{drop}
use mathlib.Core.Path.{◌≡◌}
use Rattle.table.proofs.host.apart.unlinked_behind.Given as goal

abbrev pub invariant-loop-i : goal.invariant-loop-i
invariant-loop-i l = (l.k < l.i) × (all_of (apart l.a) (drop l.i (link_addresses_of (records_of l.table))) ≡ all_of (apart l.a) (drop (l.k + 1) (link_addresses_of (records_of l.table))))
