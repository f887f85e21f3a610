-- `table::host::standing::all_links_standing` meets its contract: what holds from the place reached on holds at all.
-- Assumes nothing.
use Rattle.peer.specs.Fit.{links_fit}
use Rattle.table.specs.Places.{all_of}
use Rattle.table.specs.Rows.{records_of}
use lib.ListN.{drop}
use mathlib.Core.Path.{◌≡◌}
use Rattle.table.proofs.host.standing.all_links_standing.Given as goal

abbrev pub invariant-loop-i : goal.invariant-loop-i
invariant-loop-i l = all_of (links_fit l.s) (drop l.i (records_of l.table)) ≡ all_of (links_fit l.s) (records_of l.table)
