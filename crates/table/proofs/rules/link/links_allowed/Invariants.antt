-- `table::rules::link::links_allowed` meets its contract: what holds from the link reached on holds at all.
-- Assumes nothing.
use Prim.Native.Nat.{◌-◌}
use Rattle.octets.specs.Links.{links_of}
use Rattle.table.specs.Link.{link_allowed}
use Rattle.table.specs.Places.{addresses_of, all_of, find_link_of, find_of}
use lib.ListN.{drop, take}
use mathlib.Core.Path.{◌≡◌}
use Rattle.table.proofs.rules.link.links_allowed.Given as goal

abbrev pub invariant-loop-j : goal.invariant-loop-j
invariant-loop-j g l =
    let t = g.T.Lookup.records l.t in
    g.T.Lookup.sound l.t →
    all_of (λ a. link_allowed l.s l.at (find_of (addresses_of t) a) (find_link_of t a) a) (drop l.j (take l.count (links_of l.links)))
    ≡ all_of (λ a. link_allowed l.s l.at (find_of (addresses_of t) a) (find_link_of t a) a) (take l.count (links_of l.links))

abbrev pub decreases-loop-j : goal.decreases-loop-j
decreases-loop-j g l = l.count - l.j
