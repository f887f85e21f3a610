-- `table::rules::why::why_linked` meets its contract: the first refusal of its list, and what is beside it; which place is free is asked only for a device without a record.
-- Assumes nothing.
use mathlib.Core.Path.{ap, ◌∙◌}
use Prim.Native.Nat.{ℕ}
use Rattle.table.specs.Places.{addresses_of, find_of}
use Rattle.table.proofs.Octets.HostLaws.{vacant_links}
use Rattle.table.specs.Why.{ask_why, why_linked}
use Rattle.table.proofs.rules.why.why_linked.Goals as goal

pub returns : goal.returns
unfolding why_linked
returns g c =
    let a = c.args in
    let device = c.device_in-device in
    let at = c.find-at in
    let peer = c.peer_at-p in
    let may = c.may_link in
    let count = c.count_in in
    λ l. rw (← device.ensures, ← at.ensures, ← peer.ensures, ← may.ensures l, ← count.ensures)
    (c.ask_why.ensures ∙ ap (λ (k : ℕ). ask_why k peer.result) (c.refusal-n.ensures ∙ rw c.vacancy.ensures (vacant_links a.s peer.result may.result at.result (find_of (addresses_of (g.T.Lookup.records a.t)) 0) count.result)))
