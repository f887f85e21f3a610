-- Where there is nothing to do for a frame (specs/Idle.antt), its turn leaves the record, tells nothing and says nothing; where there is something, it
-- tells our own side, says something, or ends a query.
-- Assumes nothing.
use Rattle.std.specs.Prelude.{Option}
use Rattle.std.proofs.Common.{◌≡◌, ℕ, Bool, true, false, not, ◌&&◌, ◌||◌, eqb, ltb, sym, refl, ◌∙◌, arith, le-ltb, lt-ltb, eqb-true, leb-false, leb-true, Some}
use mathlib.Core.Bool.{or-false}
use borrow.Author.Tests.{not-false, not-true}
use Rattle.octets.proofs.Branch.{and_left, and_right, by_bool, pick_both, pick_by}
use Rattle.octets.specs.declared.class.FrameClass.{FrameClass}
use Rattle.octets.specs.declared.frame.Frame.{Frame}
use Rattle.octets.specs.declared.heard.Heard.TheVariants as heard
use Rattle.octets.specs.declared.heard.Heard.{Heard}
use Rattle.octets.specs.declared.heard.Kind.TheVariants.{Association, Authentication, Reassociation}
use Rattle.octets.specs.declared.heard.Kind.{Kind}
use Rattle.peer.specs.Association.{accepted_of, rejected_of, request_heard, response_heard}
use Rattle.peer.specs.Authentication.{authentication_answered, authentication_asked, authentication_heard, full_of, requested_of}
use Rattle.peer.specs.Challenge.{challenged_of, is_challenged, query_request_heard, query_response_heard}
use Rattle.peer.specs.Codes.{last_aid}
use Rattle.peer.specs.Farewell.{deauthentication_heard, disassociation_heard}
use Rattle.peer.specs.Filter.{passes_of}
use Rattle.peer.specs.Hear.{act_of, group_heard, hear_of, is_exchange, is_query}
use Rattle.peer.specs.Idle.{acts_of, authentication_acts, group_barred, idle_of, query_response_acts, response_acts}
use Rattle.peer.specs.Query.{is_running}
use Rattle.peer.specs.Record.{is_sent, queried_of}
use Rattle.peer.specs.Reply.{authentication_to, later_to, query_to, send_of}
use Rattle.peer.specs.Settings.{role_answers}
use Rattle.peer.specs.Turn.{admit, confirm_of, indication_of, replied_of, sole_of, still_of, turn_of}
use Rattle.peer.specs.declared.query.Query.TheVariants as query
use Rattle.peer.specs.declared.record.Record.{Record}
use Rattle.peer.specs.declared.settings.Settings.{Settings}
use Rattle.peer.specs.declared.turn.Turn.{Turn}
use Rattle.peer.proofs.Fits.{both, clash, or_left}

-- What a turn does: our own side is told, something is said, or a query that runs is ended.
pub data Done (p : Record) (t : Turn) : Type 0 where
  told : (t.told.notice ≡ 0 → ⊥) → Done p t
  said : (f : Frame) → t.reply ≡ Some f → Done p t
  ended : is_running p.query ≡ true → t.peer.query ≡ query.None → Done p t

indicated : (k : Kind) → indication_of k ≡ 0 → ⊥
indicated Authentication z = omega (arith, z)
indicated Association z = omega (arith, z)
indicated Reassociation z = omega (arith, z)

confirmed : (k : Kind) → confirm_of k ≡ 0 → ⊥
confirmed Authentication z = omega (arith, z)
confirmed Association z = omega (arith, z)
confirmed Reassociation z = omega (arith, z)

module _ (s : Settings) (p : Record) where
  Still : Turn → Type 0
  Still t = t ≡ still_of s p admit

  -- ---- nothing to do

  authentication_idle : (a t status : ℕ) → authentication_acts s p a t ≡ false → Still (authentication_heard s p a t status)
  unfolding Still authentication_heard authentication_answered authentication_acts
  authentication_idle a t status e =
      pick_by Still (eqb t 1 && role_answers s.role)
      (λ r. let z = both (eqb t 1) _ r in clash z.1 (rw z.0 at e))
      (λ r. pick_by Still (eqb a 0 && (eqb t 2 && is_sent Authentication p.exchange))
      (λ r. let z = both (eqb a 0) _ r in let y = both (eqb t 2) _ z.1 in clash y.1 (rw (eqb-true t 2 y.0, z.0) at e))
      (λ r. refl))

  response_idle : (k : Kind) (status aid : ℕ) (c : Option ℕ) → response_acts p k status aid ≡ false → Still (response_heard s p k status aid c)
  unfolding Still response_heard accepted_of response_acts
  response_idle k status aid c e =
      pick_by Still (is_sent k p.exchange)
      (λ r. pick_by Still (eqb status 0)
      (λ z. pick_by Still (eqb aid 0 || ltb last_aid aid) (λ b. refl) (λ b. clash refl (rw (r, z, b) at e)))
      (λ z. clash refl (rw (r, z) at e)))
      (λ r. refl)

  act_idle : (h : Heard) → acts_of s p h ≡ false → Still (act_of s p h)
  unfolding Still deauthentication_heard disassociation_heard request_heard query_request_heard query_response_heard query_response_acts
  act_idle heard.Other e = refl
  act_idle (heard.Authentication a t status) e = authentication_idle a t status e
  act_idle (heard.Deauthentication reason) e = rw (lt-ltb p.state 2 (leb-false 2 p.state e))
  act_idle (heard.Disassociation reason) e = rw (lt-ltb p.state 3 (leb-false 3 p.state e))
  act_idle (heard.Request k current) e = rw e
  act_idle (heard.Response k status aid c) e = response_idle k status aid c e
  act_idle (heard.QueryRequest i) e = rw e
  act_idle (heard.QueryResponse i) e = rw e

  -- ---- something to do

  authentication_acts_lem : (a t status : ℕ) → authentication_acts s p a t ≡ true → Done p (authentication_heard s p a t status)
  unfolding authentication_heard authentication_asked authentication_answered authentication_acts requested_of replied_of turn_of authentication_to send_of
  authentication_acts_lem a t status e =
      pick_by (Done p) (eqb t 1 && role_answers s.role)
      (λ r. pick_both (Done p) (eqb a 0) (told (λ z. omega (arith, z))) (said _ refl))
      (λ r. pick_by (Done p) (eqb a 0 && (eqb t 2 && is_sent Authentication p.exchange))
      (λ y. told (λ z. omega (arith, z)))
      (λ y. by_bool (eqb t 1)
      (λ o. clash (rw o at e) (rw o at r))
      (λ o. let z = both (eqb t 2) _ (rw o at e) in let x = both (eqb a 0) _ z.1 in clash refl (rw (x.0, z.0, x.1) at y))))

  response_acts_lem : (k : Kind) (status aid : ℕ) (c : Option ℕ) → response_acts p k status aid ≡ true → Done p (response_heard s p k status aid c)
  unfolding response_heard accepted_of rejected_of response_acts sole_of turn_of
  response_acts_lem k status aid c e =
      pick_by (Done p) (is_sent k p.exchange)
      (λ r. pick_by (Done p) (eqb status 0)
      (λ z. pick_by (Done p) (eqb aid 0 || ltb last_aid aid) (λ b. clash (rw (r, z, b) at e) refl) (λ b. told (confirmed k)))
      (λ z. told (confirmed k)))
      (λ r. clash (rw r at e) refl)

  act_done : (h : Heard) → acts_of s p h ≡ true → Done p (act_of s p h)
  unfolding deauthentication_heard disassociation_heard request_heard challenged_of requested_of query_request_heard query_response_heard query_response_acts replied_of turn_of later_to query_to send_of queried_of
  act_done heard.Other e = clash e refl
  act_done (heard.Authentication a t status) e = authentication_acts_lem a t status e
  act_done (heard.Deauthentication reason) e = rw (le-ltb p.state 2 (leb-true 2 p.state e)) (told (λ z. omega (arith, z)))
  act_done (heard.Disassociation reason) e = rw (le-ltb p.state 3 (leb-true 3 p.state e)) (told (λ z. omega (arith, z)))
  act_done (heard.Request k current) e = rw e (pick_both (Done p) (is_challenged s p) (said _ refl) (told (indicated k)))
  act_done (heard.Response k status aid c) e = response_acts_lem k status aid c e
  act_done (heard.QueryRequest i) e = rw e (said _ refl)
  act_done (heard.QueryResponse i) e =
      rw e (ended (and_left (is_running p.query) _ (and_right (eqb p.state 4) _ e)) refl)

  -- ---- a frame that passed the filter and the group rule

  module _ (k : FrameClass) (g : Bool) (h : Heard) (in-class : passes_of s.role k p.state ≡ true) (allowed : group_barred g h ≡ false) where
    pub hear_idle : idle_of s p g h ≡ true → hear_of s p k g h ≡ still_of s p admit
    unfolding Still hear_of group_heard group_barred idle_of
    hear_idle e = rw in-class (pick_by Still g
        (λ r. pick_by Still (is_exchange h) (λ x. clash x (rw r at allowed))
        (λ x. pick_by Still (is_query h) (λ q. refl) (λ q. act_idle h (not-true _ (sym (or-false (not (acts_of s p h))) ∙ rw (r, q) at e)))))
        (λ r. act_idle h (not-true _ (sym (or-false (not (acts_of s p h))) ∙ rw r at e))))

    pub hear_done : idle_of s p g h ≡ false → Done p (hear_of s p k g h)
    unfolding hear_of group_heard group_barred idle_of
    hear_done e =
        let a : acts_of s p h ≡ true = not-false _ (or_left (not (acts_of s p h)) _ e).0 in
        rw in-class (pick_by (Done p) g
        (λ r. pick_by (Done p) (is_exchange h) (λ x. clash x (rw r at allowed))
        (λ x. pick_by (Done p) (is_query h) (λ q. clash q (rw r at (or_left (not (acts_of s p h)) _ e).1)) (λ q. act_done h a)))
        (λ r. act_done h a))

-- "no record and no free place, reply status 17": something is said.
pub full_said : (s : Settings) (p : Record) → Done p (full_of s p)
unfolding full_of replied_of turn_of authentication_to send_of
full_said s p = said _ refl
