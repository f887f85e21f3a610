-- `table::rules::receive::heard_at` meets its contract: each answer by the tests that led to it and what its callees ensure.
-- Assumes nothing.
use Prim.Native.Nat.{ℕ}
use Rattle.peer.specs.Turn.{admit}
use Rattle.table.proofs.Octets.HostLaws.{vacant_turn}
use Rattle.table.proofs.Passes.Commons.{quiet_turn}
use Rattle.table.specs.Answer.{settled_of}
use Rattle.table.specs.Places.{addresses_of, find_of, on_found}
use Rattle.table.specs.Receive.{heard_from}
use Rattle.table.specs.declared.rules.answer.Answer.{Answer}
use mathlib.Core.Path.{◌∙◌, ap, sym}
use Rattle.table.proofs.rules.receive.heard_at.Goals as goal

abbrev admitted : ℕ → Answer
admitted n = record { current = 0; code = 0; written = 0; refusal = 0; verdict = admit; notice = 0; ds = 0; state = n }

pub returns-in-Refused : goal.returns-in-Refused
returns-in-Refused g c = λ e. rw c.in-Refused.is (c.refused.ensures _)

pub returns-in-Discarded : goal.returns-in-Discarded
returns-in-Discarded g c = λ e. rw (c.in-Discarded.is, ← c.verdict.ensures) (c.settled.ensures _)

pub returns-in-Admitted : goal.returns-in-Admitted
returns-in-Admitted g c = λ e. rw (c.in-Admitted.is, ← c.verdict-in-Admitted.ensures) (c.settled-in-Admitted.ensures _)

pub returns-then-quiet : goal.returns-then-quiet
unfolding heard_from
returns-then-quiet g c =
    let t = g.T.Lookup.records c.args.t in
    let at = c.seek-at.result in
    let state = c.state_at-state in
    let known = c.quiet.ensures c.if-quiet.true in
    λ e.
    rw (c.in-From.is, known.0, ← c.seek-at.ensures e)
    (c.settled-then-quiet.ensures t
    ∙ ap (settled_of t) (c.admitted.ensures ∙ ap admitted (c.shown.ensures ∙ ap (λ n. on_found at 0 (λ i. n)) (state.ensures _)))
    ∙ sym (quiet_turn c.args.s t at (find_of (addresses_of t) 0) _ _ _ _ (rw (← state.ensures _) known.1)))

pub returns-else-quiet : goal.returns-else-quiet
unfolding heard_from
returns-else-quiet g c =
    let t = g.T.Lookup.records c.args.t in
    let at = c.seek-at in
    λ e.
    rw (c.in-From.is, ← at.ensures e, ← c.peer_at.ensures)
    (c.heard_from.ensures t ∙ rw c.vacancy.ensures (vacant_turn t at.result (find_of (addresses_of t) 0) _ _))
