-- 01, Settings, table, clock, of "Well formed": "Each step keeps this." A primitive that nothing refuses, at one peer.
-- Assumes nothing.
use Rattle.std.proofs.Common.{◌≡◌, ℕ, ◌≤◌, true, false, not, ◌||◌, eqb, ltb, leb, sym, refl, ◌∙◌, arith, ltb-false, eqb-true, le-leb, leb-true}
use borrow.Author.Tests.{eqb-false, not-false}
use Rattle.octets.proofs.Branch.{by_bool}
use Rattle.octets.specs.declared.heard.Kind.TheVariants.{Association, Authentication, Reassociation}
use Rattle.octets.specs.declared.heard.Kind.{Kind}
use Rattle.peer.specs.Authentication.{answered_move}
use Rattle.peer.specs.Ask.{answer_of, ask_of, associate_of, awaited_of, deauthenticate_of, declined_move, declined_of, disassociate_of, failed_of, reassociate_of, report_of, reported_move, respond_of, secure_of, started_of, timeout_of}
use Rattle.peer.specs.Challenge.{inquired_of}
use Rattle.peer.specs.Fit.{asked_fits, awaiting_fits, sent_fits, stands}
use Rattle.peer.specs.Moves.{moved_of}
use Rattle.peer.specs.Query.{sent_query}
use Rattle.peer.specs.Record.{asked_of, is_associating, kind_of, under_way}
use Rattle.peer.specs.Refuse.{code_allowed, conflict_of, join_conflict, mismatch_of, role_allowed}
use Rattle.peer.specs.Settings.{ap, role_asks, settings_fit, station, time_fits}
use Rattle.peer.specs.Turn.{turn_of}
use Rattle.peer.specs.declared.moves.Move.TheVariants as move
use Rattle.peer.specs.declared.exchange.Exchange.TheVariants.{Awaiting, Sent}
use Rattle.peer.specs.declared.record.Record.{Record}
use Rattle.peer.specs.declared.refuse.Others.{Others}
use Rattle.peer.specs.declared.settings.Settings.{Settings}
use Rattle.peer.proofs.Fits.{Fits, asked_stands, both, clash, keeps_changed, or_left, suits_still, wrong}
use Rattle.peer.proofs.Roles.{ap_answers, station_asks, station_associates}
use Rattle.peer.proofs.Moved.{moved_high, moved_low}
use Rattle.peer.proofs.Keeps.{Turns, answered_calm, begun, declined_calm, ended, queried, stood, stood_any, turned}
use Rattle.peer.proofs.QueryFits.{sent_fits_lem}

-- the statement
abbrev pub PrimitiveKeeps : Type 0
PrimitiveKeeps =
    (s : Settings) (p : Record) → Fits s p → (o : Others) → settings_fit s ≡ true → (aid q code : ℕ) → code_allowed q code ≡ true
    → role_allowed q s.role ≡ true → conflict_of p o q ≡ false → mismatch_of p o q ≡ false
    → Turns s o.busy p (ask_of s aid p o q code)

above_one : (state : ℕ) → 1 ≤ state → eqb state 1 ≡ false → leb 2 state ≡ true
above_one state low e = le-leb 2 state (let ne : state ≡ 1 → ⊥ = eqb-false state 1 e in omega arith)

timeouts : (s : Settings) → settings_fit s ≡ true → (k : Kind) → time_fits (timeout_of s k) ≡ true
unfolding settings_fit
timeouts s h k =
    let a = both (not (eqb s.role 0)) _ h in
    let b = both (leb s.role 3) _ a.1 in
    let c = both (leb s.rsna 1) _ b.1 in
    let d = both (time_fits s.authentication) _ c.1 in
    let e = both (time_fits s.association) _ d.1 in
    go k d.0 e.0
  where
    go : (k : Kind) → time_fits s.authentication ≡ true → time_fits s.association ≡ true → time_fits (timeout_of s k) ≡ true
    go Authentication x y = x
    go Association x y = y
    go Reassociation x y = y

module _ (s : Settings) (p : Record) (f : Fits s p) (o : Others) (fit : settings_fit s ≡ true) where
  started :
      (k : Kind) (current : ℕ) → role_asks s.role ≡ true → stands k s.role p.state ≡ true
      → (o.busy ≡ true → leb 2 (kind_of k) ≡ true → leb 2 (under_way p.exchange) ≡ true) → Turns s o.busy p (started_of s p k current)
  unfolding started_of sent_fits
  started k current r st starts =
      begun f (Sent k) (timeout_of s k) _ _ _ (rw (r, timeouts s fit k, st)) (λ a b j. starts b j)

  failed : (k : Kind) → Turns s o.busy p (failed_of s p k)
  unfolding failed_of
  failed k = turned f _ _ _

  free_of : join_conflict p o ≡ false → o.busy ≡ false
  unfolding join_conflict
  free_of h = (or_left (not (eqb (under_way p.exchange) 0)) o.busy h).1

  -- a station's request stands where the peer is above State 1
  may_stand : (k : Kind) → eqb s.role station ≡ true → eqb p.state 1 ≡ false → stands k s.role p.state ≡ true
  may_stand k r e = stood k s.role p.state (rw (station_associates s.role r) (above_one p.state f.low e))

  associate : eqb s.role station ≡ true → join_conflict p o ≡ false → Turns s o.busy p (associate_of s p)
  unfolding associate_of
  associate r c = by_bool (eqb p.state 1)
      (λ e. rw e (failed Association))
      (λ e. rw e (started Association 0 (station_asks s.role r) (may_stand Association r e) (λ b j. clash b (free_of c))))

  reassociate : eqb s.role station ≡ true → join_conflict p o ≡ false → Turns s o.busy p (reassociate_of s p o)
  unfolding reassociate_of
  reassociate r c = by_bool (eqb o.associated 0 || eqb p.state 1)
      (λ e. rw e (failed Reassociation))
      (λ e. rw e (started Reassociation o.associated (station_asks s.role r)
      (may_stand Reassociation r (or_left (eqb o.associated 0) _ e).1) (λ b j. clash b (free_of c))))

  answer : (status : ℕ) → Turns s o.busy p (answer_of s p status)
  unfolding answer_of
  answer status = ended f (answered_move status) p.hold _ _ _ f.held (clash (answered_calm status))

  deauthenticate : (reason : ℕ) → Turns s o.busy p (deauthenticate_of s p reason)
  unfolding deauthenticate_of
  deauthenticate reason = ended f move.Deauthenticate p.hold _ _ _ f.held (clash refl)

  disassociate : (reason : ℕ) → Turns s o.busy p (disassociate_of s p reason)
  unfolding disassociate_of
  disassociate reason = by_bool (ltb p.state 3)
      (λ e. rw e (turned f _ _ _))
      (λ e. rw e (ended f move.Drop p.hold _ _ _ f.held (clash refl)))

  respond :
      (aid : ℕ) (k : Kind) (status : ℕ) → eqb s.role ap ≡ true → awaiting_fits k s.role p.state 0 ≡ true
      → Turns s o.busy p (respond_of s aid p k status)
  unfolding respond_of awaited_of declined_of
  respond aid k status r fits = by_bool (eqb status 0)
      (λ e. rw e (begun f (Awaiting k) 0 _ _ _ fits (λ b c j. clash (ap_answers s.role r) b)))
      (λ e. rw e (ended f (declined_move s) p.hold _ _ _ f.held (clash (declined_calm s))))

  awaits :
      (k : Kind) (n : ℕ) → eqb s.role ap ≡ true → is_associating k ≡ true → leb 2 n ≡ true → eqb (asked_of p.exchange) n ≡ true
      → awaiting_fits k s.role p.state 0 ≡ true
  unfolding awaiting_fits asked_fits
  awaits k n r i two e =
      rw (i, ap_answers s.role r) (stood k s.role p.state (asked_stands p.exchange n s.role p.state p.left f.suits two e))

  secured : leb 3 p.state ≡ true → Turns s o.busy p (secure_of s p)
  unfolding secure_of turn_of
  secured three =
      let high : 3 ≤ moved_of s.rsna p.state move.Secure =
      by_bool (eqb p.state 3) (λ e. rw e (omega arith)) (λ e. rw e (leb-true 3 p.state three)) in
      let here : 3 ≤ p.state = leb-true 3 p.state three in
      keeps_changed s o.busy p f (moved_of s.rsna p.state move.Secure) p.exchange p.left p.hold false
      (moved_low s.rsna p.state move.Secure f.low) (moved_high s.role s.rsna p.state move.Secure (λ n. wrong (sym n)) f.high) f.held
      (suits_still p.exchange s.role p.state p.left (moved_of s.rsna p.state move.Secure) p.left f.suits refl (omega arith)
      (le-leb 2 p.state (omega arith) ∙ sym (le-leb 2 (moved_of s.rsna p.state move.Secure) (omega arith))))
      (λ a b j. three) (λ a b j. j)

  reported : (code : ℕ) → eqb s.role ap ≡ true → Turns s o.busy p (report_of s p code)
  unfolding report_of
  reported code r = ended f (reported_move code) p.hold _ _ _ f.held (λ n. r)

  inquired : Turns s o.busy p (inquired_of s p)
  unfolding inquired_of
  inquired = queried f (sent_query p.query) p.identifier _ _ _ f.numbered (sent_fits_lem s p.state p.query f.queries)

  asked_keeps :
      (aid q code : ℕ) → code_allowed q code ≡ true → role_allowed q s.role ≡ true → conflict_of p o q ≡ false → mismatch_of p o q ≡ false
      → Turns s o.busy p (ask_of s aid p o q code)
  unfolding ask_of role_allowed conflict_of mismatch_of code_allowed
  asked_keeps aid q code allowed role conflict mismatch =
      by_bool (eqb q 1) (λ e. rw e (let z = eqb-true q 1 e in started Authentication 0 (rw z at role) (stood_any s.role p.state) (λ b j. wrong j))) (λ e1.
      by_bool (eqb q 2) (λ e. rw (e1, e) (answer code)) (λ e2.
      by_bool (eqb q 3) (λ e. rw (e1, e2, e) (deauthenticate code)) (λ e3.
      by_bool (eqb q 4) (λ e. rw (e1, e2, e3, e) (let z = eqb-true q 4 e in associate (rw z at role) (rw z at conflict))) (λ e4.
      by_bool (eqb q 5) (λ e. rw (e1, e2, e3, e4, e) (let z = eqb-true q 5 e in reassociate (rw z at role) (rw z at conflict))) (λ e5.
      by_bool (eqb q 6) (λ e. rw (e1, e2, e3, e4, e5, e) (disassociate code)) (λ e6.
      by_bool (eqb q 7) (λ e. rw (e1, e2, e3, e4, e5, e6, e)
      (let z = eqb-true q 7 e in respond aid Association code (rw z at role) (awaits Association 2 (rw z at role) refl refl (not-false _ (rw z at mismatch))))) (λ e7.
      by_bool (eqb q 8) (λ e. rw (e1, e2, e3, e4, e5, e6, e7, e)
      (let z = eqb-true q 8 e in respond aid Reassociation code (rw z at role) (awaits Reassociation 3 (rw z at role) refl refl (not-false _ (rw z at mismatch))))) (λ e8.
      by_bool (eqb q 9) (λ e. rw (e1, e2, e3, e4, e5, e6, e7, e8, e)
      (let z = eqb-true q 9 e in secured (le-leb 3 p.state (ltb-false p.state 3 (rw z at mismatch))))) (λ e9.
      by_bool (eqb q 10) (λ e. rw (e1, e2, e3, e4, e5, e6, e7, e8, e9, e) (let z = eqb-true q 10 e in reported code (rw z at role))) (λ e10.
      by_bool (eqb q 11) (λ e. rw (e1, e2, e3, e4, e5, e6, e7, e8, e9, e10) inquired)
      (λ e. wrong (simp (e1, e2, e3, e4, e5, e6, e7, e8, e9, e10, e) at allowed))))))))))))

pub ask_keeps : PrimitiveKeeps
ask_keeps = asked_keeps
