-- `table::host::seek::first_link` meets its contract: nothing is found in the places passed, nor in the slots passed of the one reached.
-- Assumes nothing.
use Prim.Native.Nat.{◌+◌, ◌-◌, ◌<◌, ◌≤◌}
use Rattle.octets.specs.Links.{links_of}
use Rattle.peer.specs.Record.{free_of}
use Rattle.table.proofs.Walks.LinkLists.{within}
use Rattle.table.specs.Places.{first_from, has_link}
use Rattle.table.specs.Rows.{records_of}
use Rattle.std.specs.Prelude.{Some, None}
use lib.Dec.{eqb}
use lib.ListN.{drop, get_or}
use mathlib.Core.Path.{◌≡◌}
use Rattle.table.proofs.host.seek.first_link.Given as goal

abbrev pub invariant-loop-j : goal.invariant-loop-j
invariant-loop-j v = (v.i < 32) × (v.j ≤ 4) × (v.found ≡ None) × (within (λ l. eqb l v.address) (drop v.j (links_of (get_or (records_of v.table) v.i free_of).links)) (Some v.i) (first_from (has_link v.address) (v.i + 1) (drop (v.i + 1) (records_of v.table))) ≡ first_from (has_link v.address) 0 (records_of v.table))

abbrev pub decreases-loop-j : goal.decreases-loop-j
decreases-loop-j l = 4 - l.j

abbrev pub invariant-search : goal.invariant-search
invariant-search l = (l.i ≤ 32) × (l.found ≡ None) × (first_from (has_link l.address) l.i (drop l.i (records_of l.table)) ≡ first_from (has_link l.address) 0 (records_of l.table))

abbrev pub decreases-search : goal.decreases-search
decreases-search l = 32 - l.i
