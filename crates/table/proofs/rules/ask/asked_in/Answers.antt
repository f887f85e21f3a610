-- `table::rules::ask::asked_in` meets its contract: by what its callees ensure; which place is free is asked only for a peer without a record.
-- Assumes nothing.
use Rattle.table.proofs.Octets.HostLaws.{vacant_refusal, vacant_turn}
use Rattle.table.specs.Ask.{asked_at}
use Rattle.table.specs.Places.{addresses_of, find_of}
use Rattle.table.specs.Refusals.{unless}
use mathlib.Core.Path.{◌∙◌, ap}
use Rattle.table.proofs.rules.ask.asked_in.Goals as goal

pub returns : goal.returns
unfolding asked_at
returns g c =
    let a = c.args in
    let t = g.T.Lookup.records a.t in
    let free = find_of (addresses_of t) 0 in
    λ l e. rw (← e, ← c.find-at.ensures, ← c.find_link.ensures l, ← c.peer_at.ensures)
    (c.asked_at.ensures t ∙ rw (c.vacancy.ensures, vacant_refusal a.s c.peer_at.result a.o c.find-at.result free c.find_link.result a.primitive a.address a.code)
    (ap (unless _ _) (vacant_turn t c.find-at.result free _ _)))
