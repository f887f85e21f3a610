-- `table::records::places::first_link` meets its contract. The outer loop keeps: what is found from place i on is what is found at all. The inner
-- one: place i where a slot from j on has the address, else what is found from place i + 1 on, is what is found at all.
-- Assumes nothing.
use Prim.Native.Nat.{◌+◌, ◌-◌, ◌≤◌}
use Rattle.octets.specs.Links.{links_of}
use Rattle.table.proofs.Walks.LinkLists.{within}
use Rattle.table.specs.Places.{first_from, has_link}
use Rattle.std.specs.Prelude.{Some, None}
use lib.Dec.{eqb}
use lib.ListN.{drop, length}
use mathlib.Core.Path.{◌≡◌}
use Rattle.table.proofs.records.places.first_link.Given as goal

abbrev pub invariant-loop-j : goal.invariant-loop-j
invariant-loop-j v = (v.j ≤ 4) × (v.found ≡ None) × (within (λ l. eqb l v.address) (drop v.j (links_of v.links)) (Some v.i) (first_from (has_link v.address) (v.i + 1) (drop (v.i + 1) v.t)) ≡ first_from (has_link v.address) 0 v.t)

abbrev pub decreases-loop-j : goal.decreases-loop-j
decreases-loop-j l = 4 - l.j

abbrev pub invariant-search : goal.invariant-search
invariant-search l = (length l.t ≡ 32) × (l.i ≤ 32) × (l.found ≡ None) × (first_from (has_link l.address) l.i (drop l.i l.t) ≡ first_from (has_link l.address) 0 l.t)

abbrev pub decreases-search : goal.decreases-search
decreases-search l = 32 - l.i
