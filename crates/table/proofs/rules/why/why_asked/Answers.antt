-- `table::rules::why::why_asked` meets its contract: the first refusal of its list, and what is beside it; which place is free is asked only for a peer without a record.
-- Assumes nothing.
use mathlib.Core.Path.{ap, ◌∙◌}
use Prim.Native.Nat.{ℕ}
use Rattle.table.specs.Places.{addresses_of, find_of}
use Rattle.table.proofs.Octets.HostLaws.{vacant_refusal}
use Rattle.table.specs.Why.{ask_why, why_asked}
use Rattle.table.proofs.rules.why.why_asked.Goals as goal

pub returns : goal.returns
unfolding why_asked
returns g c =
    let a = c.args in
    let at = c.find-at in
    let peer = c.peer_at-p in
    let link = c.find_link in
    λ l e. rw (← e, ← at.ensures, ← peer.ensures, ← link.ensures l)
    (c.ask_why.ensures ∙ ap (λ (k : ℕ). ask_why k peer.result) (c.refusal-n.ensures ∙ rw c.vacancy.ensures (vacant_refusal a.s peer.result a.o at.result (find_of (addresses_of (g.T.Lookup.records a.t)) 0) link.result a.primitive a.address a.code)))
