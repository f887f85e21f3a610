-- `table::rules::link::named_at` meets its contract: by what its callees ensure; which place is free is asked only for a device without a record.
-- Assumes nothing.
use Rattle.table.proofs.Octets.HostLaws.{vacant_links, vacant_turn}
use Rattle.table.specs.Link.{linked_at}
use Rattle.table.specs.Places.{addresses_of, find_of}
use Rattle.table.specs.Refusals.{unless}
use mathlib.Core.Path.{◌∙◌, ap}
use Rattle.table.proofs.rules.link.named_at.Goals as goal

pub returns : goal.returns
unfolding linked_at
returns g c =
    let a = c.args in
    let t = g.T.Lookup.records a.t in
    let f = find_of (addresses_of t) 0 in
    λ l. rw (← c.device_in-device.ensures, ← c.find-at.ensures, ← c.peer_at.ensures, ← c.may_link.ensures l, ← c.count_in.ensures, ← c.links_in.ensures)
    (c.linked_at.ensures t ∙ rw (c.vacancy.ensures, vacant_links a.s c.peer_at.result c.may_link.result c.find-at.result f c.count_in.result)
    (ap (unless _ _) (vacant_turn t c.find-at.result f _ _)))
