-- `table::host::apart::unused_from` meets its contract: what holds from the place reached on holds at all.
-- Assumes nothing.
use Rattle.table.specs.Fit.{apart}
use Rattle.table.specs.Places.{addresses_of, all_of}
use Rattle.table.specs.Rows.{records_of}
use lib.ListN.{drop}
use mathlib.Core.Path.{◌≡◌}
use Rattle.table.proofs.host.apart.unused_from.Given as goal

abbrev pub invariant-loop-i : goal.invariant-loop-i
invariant-loop-i l = all_of (apart l.a) (drop l.i (addresses_of (records_of l.table))) ≡ all_of (apart l.a) (drop l.from (addresses_of (records_of l.table)))
