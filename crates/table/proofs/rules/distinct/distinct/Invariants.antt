-- `table::rules::distinct::distinct` meets its contract: what holds from the place reached on holds at all.
-- Assumes nothing.
use Rattle.std.proofs.Common.{◌≡◌, drop}
use Rattle.table.specs.Fit.{alone_in, distinct_of}
use Rattle.table.specs.Places.{all_tails}
use Rattle.table.proofs.rules.distinct.distinct.Given as goal

abbrev pub invariant-loop-i : goal.invariant-loop-i
invariant-loop-i l = all_tails alone_in (drop l.i l.addresses) ≡ distinct_of l.addresses
