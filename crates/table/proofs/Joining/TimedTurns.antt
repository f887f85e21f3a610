-- What a clock step makes of one record, for K9: over the lines of State 2 and State 3.
-- Assumes nothing.
use Prim.Native.Nat.{ℕ, ◌≤◌}
use mathlib.Core.Path.{◌≡◌, refl, sym, ◌∙◌}
use mathlib.Core.Bool.{true, false, not, ◌&&◌}
use native.Mathlib.Omega.{arith}
use lib.Dec.{eqb, leb, ltb}
use borrow.Author.Tests.{eqb-true, le-leb, lt-leb, ltb-false, ltb-true}
use Rattle.octets.proofs.Branch.{by_bool, pick_by}
use Rattle.octets.specs.Links.{no_links}
use Rattle.octets.specs.declared.heard.Kind.TheVariants as kind
use Rattle.peer.proofs.Fits.{Fits, both, clash, wrong}
use Rattle.peer.specs.Fit.{asked_fits, awaiting_fits, exchange_fits, sent_fits}
use Rattle.peer.specs.Record.{associates, changed_of, is_associating, queried_of, under_way}
use Rattle.peer.specs.Settings.{role_answers, role_asks, time_fits}
use Rattle.peer.specs.Tick.{expired_move, freed_of, queried_timed, tick_of, timed_of}
use Rattle.peer.specs.Turn.{ended_of}
use Rattle.peer.specs.declared.exchange.Exchange.{Exchange}
use Rattle.peer.specs.declared.exchange.Exchange.TheVariants.{None, Asked, Awaiting, Sent}
use Rattle.peer.specs.declared.record.Record.{Record}
use Rattle.peer.specs.declared.settings.Settings.{Settings}
use Rattle.table.specs.Written.{times_out}
use Rattle.table.proofs.Joining.Lines.{gone, kept, stands_two}

-- an exchange that has a time is one that was sent; where it is no authentication it stands in State 2 or above
running :
    (e : Exchange) (role state left : ℕ) → exchange_fits e role state left ≡ true → eqb left 0 ≡ false → eqb (under_way e) 1 ≡ false
    → (leb 2 state ≡ true) × (leb 2 (under_way e) ≡ true)
unfolding sent_fits awaiting_fits asked_fits
running None role state left h z n = clash h z
running (Asked k) role state left h z n = clash (both (eqb left 0) _ (both (role_answers role) _ h).1).0 z
running (Awaiting k) role state left h z n = clash (both (eqb left 0) _ (both (role_answers role) _ (both (is_associating k) _ h).1).1).0 z
running (Sent kind.Authentication) role state left h z n = wrong (sym n)
running (Sent kind.Association) role state left h z n = (stands_two kind.Association role state refl (both (time_fits left) _ (both (role_asks role) _ h).1).1, refl)
running (Sent kind.Reassociation) role state left h z n = (stands_two kind.Reassociation role state refl (both (time_fits left) _ (both (role_asks role) _ h).1).1, refl)

-- a place is freed in State 1
freed_over : (n : ℕ) (q : Record) → 2 ≤ n → leb n (freed_of q).state ≡ leb n q.state
unfolding freed_of
freed_over n q h = pick_by (λ (r : Record). leb n r.state ≡ leb n q.state) (eqb q.state 1 && (eqb q.hold 0 && (eqb (under_way q.exchange) 0 && no_links q.links)))
    (λ e. rw (eqb-true q.state 1 (both (eqb q.state 1) _ e).0) (lt-leb n 0 (omega arith) ∙ sym (lt-leb n 1 (omega arith))))
    (λ e. refl)

freed_same : (q : Record) → leb 2 q.state ≡ true → (freed_of q).address ≡ q.address
unfolding freed_of
freed_same q h = pick_by (λ (r : Record). r.address ≡ q.address) (eqb q.state 1 && (eqb q.hold 0 && (eqb (under_way q.exchange) 0 && no_links q.links)))
    (λ e. wrong (rw (eqb-true q.state 1 (both (eqb q.state 1) _ e).0) at h))
    (λ e. refl)

module _ (s : Settings) (p : Record) (f : Fits s p) (tu : ℕ) where
  timed_two : leb 2 (timed_of s p tu).peer.state ≡ leb 2 p.state
  unfolding timed_of ended_of changed_of expired_move
  timed_two = by_bool (eqb p.left 0) (λ z. rw z) (λ z.
      by_bool (ltb tu p.left) (λ l. rw (z, l)) (λ l.
      by_bool (eqb (under_way p.exchange) 1) (λ u. rw (z, l, u)) (λ u.
      rw (z, l, u, (running p.exchange s.role p.state p.left f.suits z u).0))))

  timed_three : leb 3 (timed_of s p tu).peer.state ≡ (leb 3 p.state && not (associates p && times_out tu p))
  unfolding timed_of ended_of changed_of expired_move associates
  timed_three = by_bool (eqb p.left 0)
      (λ z. rw (z, ← gone (leb 2 (under_way p.exchange))) (kept (leb 3 p.state))) (λ z.
      by_bool (ltb tu p.left)
      (λ l. rw (z, l, lt-leb p.left tu (ltb-true tu p.left l), ← gone (leb 2 (under_way p.exchange))) (kept (leb 3 p.state))) (λ l.
      let up = le-leb p.left tu (ltb-false tu p.left l) in
      by_bool (eqb (under_way p.exchange) 1)
      (λ u. rw (z, l, u, eqb-true (under_way p.exchange) 1 u) (kept (leb 3 p.state))) (λ u.
      rw (z, l, u, up, (running p.exchange s.role p.state p.left f.suits z u).1) (gone (leb 3 p.state)))))

  timed_same : (timed_of s p tu).peer.address ≡ p.address
  unfolding timed_of ended_of changed_of
  timed_same = by_bool (eqb p.left 0) (λ z. rw z) (λ z. by_bool (ltb tu p.left) (λ l. rw (z, l)) (λ l. rw (z, l)))

  pub tick_two : leb 2 (tick_of s p tu).peer.state ≡ leb 2 p.state
  unfolding tick_of queried_timed queried_of
  tick_two = freed_over 2 (queried_timed s (timed_of s p tu).peer tu) (omega arith) ∙ timed_two

  -- a (re)association that times out ends below State 3
  pub tick_three : leb 3 (tick_of s p tu).peer.state ≡ (leb 3 p.state && not (associates p && times_out tu p))
  unfolding tick_of queried_timed queried_of
  tick_three = freed_over 3 (queried_timed s (timed_of s p tu).peer tu) (omega arith) ∙ timed_three

  -- and who is above State 1 keeps the place
  pub tick_same : leb 2 p.state ≡ true → (tick_of s p tu).peer.address ≡ p.address
  unfolding tick_of queried_timed queried_of
  tick_same h = freed_same (queried_timed s (timed_of s p tu).peer tu) (timed_two ∙ h) ∙ timed_same
