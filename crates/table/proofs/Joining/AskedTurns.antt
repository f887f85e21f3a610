-- What a primitive that nothing refuses makes of one peer, for K9, in the words of specs/Joined.antt: over the lines of State 2 and State 3.
-- Assumes nothing.
use Prim.Native.Nat.{ℕ, ◌≤◌}
use mathlib.Core.Path.{◌≡◌, refl, sym, ◌∙◌}
use mathlib.Core.Bool.{Bool, true, false, not, ◌&&◌, ◌||◌}
use native.Mathlib.Omega.{arith}
use lib.Dec.{eqb, leb, ltb}
use borrow.Author.Tests.{eq-eqb, eqb-true, ltb-true, ltb-false, le-leb, lt-leb, leb-true, eqb-false, not-true, not-false}
use Rattle.octets.proofs.Branch.{and_right, by_bool, pick_both, pick_by}
use Rattle.octets.specs.Pick.{pick}
use Rattle.octets.specs.declared.heard.Kind.{Kind}
use Rattle.octets.specs.declared.heard.Kind.TheVariants as kind
use Rattle.peer.proofs.Fits.{Fits, and_none, asked_stands, both, wrong}
use Rattle.peer.specs.Ask.{answer_of, ask_of, associate_of, awaited_of, deauthenticate_of, declined_move, declined_of, disassociate_of, failed_of, reassociate_of, report_of, reported_move, respond_of, secure_of, started_of}
use Rattle.peer.specs.Challenge.{inquired_of}
use Rattle.peer.specs.Fit.{asked_fits, awaiting_fits, exchange_fits}
use Rattle.peer.specs.Moves.{moved_of}
use Rattle.peer.specs.Record.{asked_of, awaiting_of, changed_of, is_asked, is_associating, queried_of}
use Rattle.peer.specs.Refuse.{mismatch_of}
use Rattle.peer.specs.Settings.{role_answers, role_associates, settings_fit, time_fits}
use Rattle.peer.specs.Turn.{begun_of, ended_of, none, nothing_told, turn_of}
use Rattle.peer.specs.Reply.{response_to}
use Rattle.peer.specs.declared.moves.Move.TheVariants as move
use Rattle.peer.specs.declared.exchange.Exchange.{Exchange}
use Rattle.peer.specs.declared.exchange.Exchange.TheVariants.{None, Asked, Awaiting, Sent}
use Rattle.peer.specs.declared.record.Record.{Record}
use Rattle.peer.specs.declared.refuse.Others.{Others}
use Rattle.peer.specs.declared.settings.Settings.{Settings}
use Rattle.peer.specs.declared.turn.Turn.{Turn}
use Rattle.table.specs.Joined.{acknowledges, deauthenticates, disassociates, grants, rejects}
use Rattle.table.proofs.Joining.Lines.{Turned, answered_three, answered_two, gone, joined_three, joined_two, kept, remains, stands_two}

-- a response that awaits its acknowledgement stands in State 2 or above
pub awaiting_two : (e : Exchange) (role state left : ℕ) → exchange_fits e role state left ≡ true → eqb (awaiting_of e) 0 ≡ false → leb 2 state ≡ true
unfolding awaiting_fits asked_fits
awaiting_two None role state left h q = wrong (sym q)
awaiting_two (Asked k) role state left h q = wrong (sym q)
awaiting_two (Awaiting k) role state left h q =
    let a = both (is_associating k) _ h in
    stands_two k role state a.0 (both (eqb left 0) _ (both (role_answers role) _ a.1).1).1
awaiting_two (Sent k) role state left h q = wrong (sym q)

-- the edition is 1 or 2
edition_two : (s : Settings) → settings_fit s ≡ true → eqb s.edition 1 ≡ false → eqb s.edition 2 ≡ true
unfolding settings_fit
edition_two s fit n =
    let a = both (not (eqb s.role 0)) _ fit in
    let b = both (leb s.role 3) _ a.1 in
    let c = both (leb s.rsna 1) _ b.1 in
    let d = both (time_fits s.authentication) _ c.1 in
    let e = both (time_fits s.association) _ d.1 in
    let g = both (leb s.protection 1) _ e.1 in
    let h = both (not (eqb s.edition 0)) _ g.1 in
    let i = both (leb s.edition 2) _ h.1 in
    eq-eqb s.edition 2 (omega (arith, eqb-false s.edition 1 n, eqb-false s.edition 0 (not-true _ h.0), leb-true s.edition 2 i.0))

-- what stays over each line that it was over: a rejection in edition 2, and the keys
lowered : (n rsna state : ℕ) → n ≤ 3 → leb n (moved_of rsna state move.Lower) ≡ leb n state
lowered n rsna state h = by_bool (eqb state 4)
    (λ e. rw (e, eqb-true state 4 e) (le-leb n 3 h ∙ sym (le-leb n 4 (omega arith))))
    (λ e. rw e)

secured : (n rsna state : ℕ) → n ≤ 3 → leb n (moved_of rsna state move.Secure) ≡ leb n state
secured n rsna state h = by_bool (eqb state 3)
    (λ e. rw (e, eqb-true state 3 e) (le-leb n 4 (omega arith) ∙ sym (le-leb n 3 h)))
    (λ e. rw e)

module _ (s : Settings) (p : Record) (fit : settings_fit s ≡ true) (f : Fits s p) where
  abbrev Asks : ℕ → ℕ → Turn → Type 0
  Asks q c t = Turned p (grants p.exchange q c) (deauthenticates q c) (acknowledges p.exchange q c) (deauthenticates q c || (disassociates q c || rejects s p.exchange q c)) t

  asked_as : (q c : ℕ) (t : Turn) (g x a y : Bool) → grants p.exchange q c ≡ g → deauthenticates q c ≡ x → acknowledges p.exchange q c ≡ a
      → (deauthenticates q c || (disassociates q c || rejects s p.exchange q c)) ≡ y → Turned p g x a y t → Asks q c t
  asked_as q c t g x a y eg ex ea ey k = rw (eg, ea, ey, ex) k

  -- what grants, acknowledges and rejects nothing
  no_grant : (q c : ℕ) → eqb q 2 ≡ false → grants p.exchange q c ≡ false
  unfolding grants
  no_grant q c e = and_none (is_asked kind.Authentication p.exchange) _ (rw e)

  no_report : (q c : ℕ) → eqb q 10 ≡ false → acknowledges p.exchange q c ≡ false
  unfolding acknowledges
  no_report q c e = and_none (not (eqb (awaiting_of p.exchange) 0)) _ (rw e)

  no_reject : (q c : ℕ) → eqb q 7 ≡ false → eqb q 8 ≡ false → rejects s p.exchange q c ≡ false
  unfolding rejects
  no_reject q c e g = rw (e, g, ← gone (is_asked kind.Association p.exchange), ← gone (is_asked kind.Reassociation p.exchange))

  idle : (q c : ℕ) (t : Turn) → eqb q 2 ≡ false → eqb q 3 ≡ false → eqb q 6 ≡ false → eqb q 7 ≡ false → eqb q 8 ≡ false → eqb q 10 ≡ false
      → t.peer.state ≡ p.state → Asks q c t
  idle q c t e2 e3 e6 e7 e8 e10 k =
      asked_as q c t false false false false (no_grant q c e2) e3 (no_report q c e10) (rw (e3, e6, no_reject q c e7 e8)) (remains t k)

  -- 7 and 8: a rejection is a teardown in edition 1 alone
  responds : (k : Kind) (q c aid n : ℕ) → leb 2 n ≡ true → eqb (asked_of p.exchange) n ≡ true → eqb q 2 ≡ false → eqb q 3 ≡ false → eqb q 6 ≡ false → eqb q 10 ≡ false
      → rejects s p.exchange q c ≡ (not (eqb c 0) && not (eqb s.edition 2)) → Asks q c (respond_of s aid p k c)
  unfolding respond_of awaited_of declined_of declined_move turn_of begun_of ended_of changed_of
  responds k q c aid n two asked e2 e3 e6 e10 r =
      let high : leb 2 p.state ≡ true = and_right (role_associates s.role) _ (asked_stands p.exchange n s.role p.state p.left f.suits two asked) in
      pick_by (Asks q c) (eqb c 0)
      (λ z. asked_as q c _ false false false false (no_grant q c e2) e3 (no_report q c e10) (rw (e3, e6, r, z)) (remains _ refl))
      (λ z. by_bool (eqb s.edition 1)
      (λ one. asked_as q c _ false false false true (no_grant q c e2) e3 (no_report q c e10) (rw (e3, e6, r, z, eqb-true s.edition 1 one))
      (rw one (record { two = rw high; three = gone (leb 3 p.state) })))
      (λ one. asked_as q c _ false false false false (no_grant q c e2) e3 (no_report q c e10) (rw (e3, e6, r, z, edition_two s fit one)) (rw one (spared (eqb s.protection 1)))))
    where
      spared : (b : Bool) → Turned p false false false false (turn_of s p (ended_of s p (pick b move.Keep move.Lower) p.hold) none nothing_told (response_to s p.address k c 0))
      spared true = remains _ refl
      spared false = record { two = lowered 2 s.rsna p.state (omega arith) ∙ kept (leb 2 p.state); three = lowered 3 s.rsna p.state (omega arith) ∙ kept (leb 3 p.state) }

  answers : (q c : ℕ) → q ≡ 2 → is_asked kind.Authentication p.exchange ≡ true → Asks q c (answer_of s p c)
  unfolding answer_of turn_of ended_of changed_of grants
  answers q c z a = asked_as q c _ (eqb c 0) false false false (rw (a, z)) (rw z) (no_report q c (rw z)) (rw (z, no_reject 2 c refl refl))
      (record { two = answered_two s.rsna p.state c f.low ∙ rw (← kept (leb 2 p.state)); three = answered_three s.rsna p.state c ∙ kept (leb 3 p.state) })

  leaves : (q c : ℕ) → eqb q 2 ≡ false → eqb q 3 ≡ false → eqb q 6 ≡ true → q ≡ 6 → Asks q c (disassociate_of s p c)
  unfolding disassociate_of turn_of ended_of changed_of
  leaves q c e2 e3 e6 z = pick_by (Asks q c) (ltb p.state 3)
      (λ l. asked_as q c _ false false false true (no_grant q c e2) e3 (no_report q c (rw z)) (rw (e3, e6)) (record { two = kept (leb 2 p.state); three = rw (lt-leb 3 p.state (ltb-true p.state 3 l)) }))
      (λ l.
      let three : 3 ≤ p.state = ltb-false p.state 3 l in
      asked_as q c _ false false false true (no_grant q c e2) e3 (no_report q c (rw z)) (rw (e3, e6)) (record { two = rw (le-leb 2 p.state (omega arith)); three = gone (leb 3 p.state) }))

  by_seven : (q c : ℕ) → eqb (asked_of p.exchange) 2 ≡ true → q ≡ 7 → rejects s p.exchange q c ≡ (not (eqb c 0) && not (eqb s.edition 2))
  unfolding rejects
  by_seven q c a z = rw (a, z)

  by_eight : (q c : ℕ) → eqb (asked_of p.exchange) 3 ≡ true → q ≡ 8 → rejects s p.exchange q c ≡ (not (eqb c 0) && not (eqb s.edition 2))
  unfolding rejects
  by_eight q c a z = rw (a, z, ← gone (is_asked kind.Association p.exchange))

  reports : (q c : ℕ) → eqb q 2 ≡ false → eqb q 3 ≡ false → eqb q 6 ≡ false → eqb q 7 ≡ false → eqb q 8 ≡ false → q ≡ 10 → eqb (awaiting_of p.exchange) 0 ≡ false → Asks q c (report_of s p c)
  unfolding report_of reported_move turn_of ended_of changed_of acknowledges
  reports q c e2 e3 e6 e7 e8 z w = by_bool (eqb c 1)
      (λ one. asked_as q c _ false false true false (no_grant q c e2) e3 (rw (w, z, one)) (rw (e3, e6, no_reject q c e7 e8))
      (rw one (record { two = rw (joined_two s.rsna p.state, awaiting_two p.exchange s.role p.state p.left f.suits w); three = joined_three s.rsna p.state })))
      (λ one. asked_as q c _ false false false false (no_grant q c e2) e3 (rw (w, z, one)) (rw (e3, e6, no_reject q c e7 e8)) (rw one (remains _ refl)))

  -- Each primitive, where it finds what it needs.
  pub ask_asks : (aid : ℕ) (o : Others) (q c : ℕ) → mismatch_of p o q ≡ false → Asks q c (ask_of s aid p o q c)
  unfolding ask_of mismatch_of started_of answer_of deauthenticate_of associate_of reassociate_of failed_of disassociate_of secure_of report_of reported_move inquired_of queried_of turn_of begun_of ended_of changed_of
  ask_asks aid o q c m =
      pick_by (Asks q c) (eqb q 1) (λ e. let z = eqb-true q 1 e in idle q c _ (rw z) (rw z) (rw z) (rw z) (rw z) (rw z) refl) (λ e1.
      pick_by (Asks q c) (eqb q 2) (λ e. answers q c (eqb-true q 2 e) (not-false _ (rw (eqb-true q 2 e) at m))) (λ e2.
      pick_by (Asks q c) (eqb q 3) (λ e. let z = eqb-true q 3 e in
      asked_as q c _ false true false true (no_grant q c e2) e (no_report q c (rw z)) (rw e) (record { two = gone (leb 2 p.state); three = gone (leb 3 p.state) })) (λ e3.
      pick_by (Asks q c) (eqb q 4) (λ e. let z = eqb-true q 4 e in
      pick_both (Asks q c) (eqb p.state 1) (idle q c _ e2 e3 (rw z) (rw z) (rw z) (rw z) refl) (idle q c _ e2 e3 (rw z) (rw z) (rw z) (rw z) refl)) (λ e4.
      pick_by (Asks q c) (eqb q 5) (λ e. let z = eqb-true q 5 e in
      pick_both (Asks q c) (eqb o.associated 0 || eqb p.state 1) (idle q c _ e2 e3 (rw z) (rw z) (rw z) (rw z) refl) (idle q c _ e2 e3 (rw z) (rw z) (rw z) (rw z) refl)) (λ e5.
      pick_by (Asks q c) (eqb q 6) (λ e. leaves q c e2 e3 e (eqb-true q 6 e)) (λ e6.
      pick_by (Asks q c) (eqb q 7) (λ e. let z = eqb-true q 7 e in let a = not-false _ (rw z at m) in responds kind.Association q c aid 2 refl a e2 e3 e6 (rw z) (by_seven q c a z)) (λ e7.
      pick_by (Asks q c) (eqb q 8) (λ e. let z = eqb-true q 8 e in let a = not-false _ (rw z at m) in responds kind.Reassociation q c aid 3 refl a e2 e3 e6 (rw z) (by_eight q c a z)) (λ e8.
      pick_by (Asks q c) (eqb q 9) (λ e. asked_as q c _ false false false false (no_grant q c e2) e3 (no_report q c (rw (eqb-true q 9 e))) (rw (e3, e6, no_reject q c e7 e8))
      (record { two = secured 2 s.rsna p.state (omega arith) ∙ kept (leb 2 p.state); three = secured 3 s.rsna p.state (omega arith) ∙ kept (leb 3 p.state) })) (λ e9.
      pick_by (Asks q c) (eqb q 10) (λ e. reports q c e2 e3 e6 e7 e8 (eqb-true q 10 e) (rw (eqb-true q 10 e) at m)) (λ e10. idle q c _ e2 e3 e6 e7 e8 e10 refl))))))))))
