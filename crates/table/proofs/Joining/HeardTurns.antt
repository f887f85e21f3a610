-- What a frame makes of one peer, for K9: where its turn leaves the peer in State 2 or above, in State 3 or above, and whether others leave State 3
-- and 4, in the words of specs/Joined.antt.
-- Assumes nothing.
use Rattle.std.specs.Prelude.{Option}
use Prim.Native.Nat.{ℕ, ◌≤◌, ◌<◌}
use mathlib.Core.Path.{◌≡◌, refl, sym}
use mathlib.Core.Bool.{Bool, true, false, not, ◌&&◌, ◌||◌}
use native.Mathlib.Omega.{arith}
use lib.Dec.{eqb, leb, ltb}
use borrow.Author.Tests.{eqb-true, ltb-true, ltb-false, le-leb, lt-leb, eqb-false}
use Rattle.octets.proofs.Branch.{and_left, by_bool, pick_both, pick_by}
use Rattle.octets.specs.declared.class.FrameClass.{FrameClass}
use Rattle.octets.specs.declared.heard.Heard.{Heard}
use Rattle.octets.specs.declared.heard.Heard.TheVariants as heard
use Rattle.octets.specs.declared.heard.Kind.{Kind}
use Rattle.octets.specs.declared.heard.Kind.TheVariants as kind
use Rattle.peer.proofs.Fits.{Fits, and_none, both, wrong}
use Rattle.peer.proofs.Roles.{request_by}
use Rattle.peer.specs.Association.{accepted_of, rejected_of, response_heard}
use Rattle.peer.specs.Authentication.{authentication_answered, authentication_asked, authentication_heard, requested_of}
use Rattle.peer.specs.Challenge.{challenged_of, passed_of, query_request_heard, query_response_heard, querying_of}
use Rattle.peer.specs.Codes.{last_aid}
use Rattle.peer.specs.Farewell.{deauthentication_heard, disassociation_heard}
use Rattle.peer.specs.Filter.{passes_of}
use Rattle.peer.specs.Hear.{act_of, group_heard, hear_of}
use Rattle.peer.specs.Query.{is_running}
use Rattle.peer.specs.Record.{changed_of, is_associating, is_sent, queried_of}
use Rattle.peer.specs.Settings.{role_answers}
use Rattle.peer.specs.Turn.{begun_of, ended_of, replied_of, sole_of, still_of, turn_of}
use Rattle.peer.specs.declared.exchange.Exchange.{Exchange}
use Rattle.peer.specs.declared.record.Record.{Record}
use Rattle.peer.specs.declared.settings.Settings.{Settings}
use Rattle.peer.specs.declared.turn.Turn.{Turn}
use Rattle.table.proofs.Joining.Lines.{Associating, Turned, answered_three, answered_two, gone, joined_three, joined_two, kept, remains, sent_two}
use Rattle.table.specs.Joined.{accepted_by, granted_by, rejected_by, says_deauthentication, says_disassociation, valid_aid}

-- of a frame: what is discarded does not count
abbrev tears : Exchange → Heard → Bool
tears e h = says_deauthentication h || (says_disassociation h || rejected_by e h)

abbrev seen : Turn → Bool
seen t = not (eqb t.verdict 2)

pub record Hears (p : Record) (h : Heard) (t : Turn) : Type 0 where
  pub turned : Turned p (seen t && granted_by p.exchange h) (seen t && says_deauthentication h) (seen t && accepted_by p.exchange h) (seen t && (says_deauthentication h || (says_disassociation h || rejected_by p.exchange h))) t
  pub parts : t.sole ≡ (seen t && accepted_by p.exchange h)

valid_aid_lem : (aid : ℕ) → valid_aid aid ≡ not (eqb aid 0 || ltb last_aid aid)
unfolding valid_aid
valid_aid_lem aid = by_bool (eqb aid 0)
    (λ e. rw (e, eqb-true aid 0 e))
    (λ e.
    let one : leb 1 aid ≡ true = le-leb 1 aid (let n = eqb-false aid 0 e in omega arith) in
    by_bool (ltb last_aid aid)
    (λ l. rw (e, one, l, lt-leb aid last_aid (ltb-true last_aid aid l)))
    (λ l. rw (e, one, l, le-leb aid last_aid (ltb-false last_aid aid l))))

-- a turn that counts, by what it is for each
pub heard_as :
    {p : Record} (h : Heard) (t : Turn) (g x a y : Bool) → seen t ≡ true → granted_by p.exchange h ≡ g → says_deauthentication h ≡ x
    → accepted_by p.exchange h ≡ a → tears p.exchange h ≡ y → Turned p g x a y t → t.sole ≡ a → Hears p h t
heard_as h t g x a y v eg ex ea ey k o = record { turned = rw (v, eg, ea, ey, ex) k; parts = rw (v, ea) o }

-- algorithm, transaction, whether it was sent, status
unanswered : (a b c d : Bool) → (a && (b && c)) ≡ false → (c && (a && (b && d))) ≡ false
unanswered a b false d h = refl
unanswered false b true d h = refl
unanswered true false true d h = refl
unanswered true true true d h = wrong (sym h)

module _ (s : Settings) (p : Record) (f : Fits s p) where
  -- one that is discarded
  quiet : (h : Heard) (t : Turn) → seen t ≡ false → t.peer.state ≡ p.state → t.sole ≡ false → Hears p h t
  quiet h t v e o = record { turned = rw v (remains t e); parts = rw v o }

  -- one that says nothing of the kind
  plain : (h : Heard) (t : Turn) → seen t ≡ true → granted_by p.exchange h ≡ false → says_deauthentication h ≡ false → accepted_by p.exchange h ≡ false
      → tears p.exchange h ≡ false → t.peer.state ≡ p.state → t.sole ≡ false → Hears p h t
  plain h t v eg ex ea ey e o = heard_as h t false false false false v eg ex ea ey (remains t e) o

  authentication_hears : (algorithm transaction status : ℕ) → Hears p (heard.Authentication algorithm transaction status) (authentication_heard s p algorithm transaction status)
  unfolding still_of replied_of turn_of begun_of ended_of changed_of requested_of authentication_heard authentication_asked authentication_answered
  authentication_hears algorithm transaction status =
      pick_by (Hears p h) (eqb transaction 1 && role_answers s.role)
      (λ r.
      let z = eqb-true transaction 1 (and_left (eqb transaction 1) _ r) in
      let no : granted_by p.exchange h ≡ false = and_none (is_sent kind.Authentication p.exchange) _ (and_none (eqb algorithm 0) _ (rw z)) in
      pick_both (Hears p h) (eqb algorithm 0) (plain h _ refl no refl refl refl refl refl) (plain h _ refl no refl refl refl refl refl))
      (λ r. pick_by (Hears p h) (eqb algorithm 0 && (eqb transaction 2 && is_sent kind.Authentication p.exchange))
      (λ w.
      let a = both (eqb algorithm 0) _ w in
      let b = both (eqb transaction 2) _ a.1 in
      heard_as h _ (eqb status 0) false false false refl (rw (a.0, b.0, b.1)) refl refl refl
      (record {
        two = rw (← kept (leb 2 p.state)) (answered_two s.rsna p.state status f.low);
        three = rw (← kept (leb 3 p.state)) (answered_three s.rsna p.state status);
      }) refl)
      (λ w. plain h _ refl (unanswered (eqb algorithm 0) (eqb transaction 2) (is_sent kind.Authentication p.exchange) (eqb status 0) w) refl refl refl refl refl))
    where
      h : Heard
      h = heard.Authentication algorithm transaction status

  response_hears : (k : Kind) (status aid : ℕ) (c : Option ℕ) → is_associating k ≡ true → Hears p (heard.Response k status aid c) (response_heard s p k status aid c)
  unfolding still_of replied_of turn_of ended_of changed_of response_heard accepted_of rejected_of sole_of
  response_hears k status aid c assoc =
      pick_by (Hears p h) (is_sent k p.exchange)
      (λ sent.
      let high = sent_two p.exchange k s.role p.state p.left assoc f.suits sent in
      pick_by (Hears p h) (eqb status 0)
      (λ z. pick_by (Hears p h) (eqb aid 0 || ltb last_aid aid)
      (λ b. plain h _ refl refl refl (rw (sent, z, valid_aid_lem aid, b)) (rw (sent, z)) refl refl)
      (λ b. heard_as h _ false false true false refl refl refl (rw (sent, z, valid_aid_lem aid, b)) (rw (sent, z))
      (record { two = rw (high, joined_two s.rsna p.state); three = joined_three s.rsna p.state }) refl))
      (λ z. heard_as h _ false false false true refl refl refl (rw (sent, z)) (rw (sent, z)) (record { two = rw high; three = gone (leb 3 p.state) }) refl))
      (λ sent. plain h _ refl refl refl (rw sent) (rw sent) refl refl)
    where
      h : Heard
      h = heard.Response k status aid c

  act_hears : (h : Heard) → Associating h → Hears p h (act_of s p h)
  unfolding still_of replied_of turn_of begun_of ended_of changed_of requested_of deauthentication_heard disassociation_heard query_request_heard query_response_heard challenged_of querying_of passed_of queried_of
  act_hears heard.Other k = plain heard.Other _ refl refl refl refl refl refl refl
  act_hears (heard.Authentication algorithm transaction status) k = authentication_hears algorithm transaction status
  act_hears (heard.Deauthentication reason) k =
      let h = heard.Deauthentication reason in
      pick_by (Hears p h) (ltb p.state 2)
      (λ e.
      let l = ltb-true p.state 2 e in
      let three : p.state < 3 = omega arith in
      heard_as h _ false true false true refl refl refl refl refl (record { two = rw (lt-leb 2 p.state l); three = rw (lt-leb 3 p.state three) }) refl)
      (λ e. heard_as h _ false true false true refl refl refl refl refl (record { two = gone (leb 2 p.state); three = gone (leb 3 p.state) }) refl)
  act_hears (heard.Disassociation reason) k =
      let h = heard.Disassociation reason in
      pick_by (Hears p h) (ltb p.state 3)
      (λ e. heard_as h _ false false false true refl refl refl refl refl (record { two = kept (leb 2 p.state); three = rw (lt-leb 3 p.state (ltb-true p.state 3 e)) }) refl)
      (λ e.
      let three : 3 ≤ p.state = ltb-false p.state 3 e in
      let high : leb 2 p.state ≡ true = le-leb 2 p.state (omega arith) in
      heard_as h _ false false false true refl refl refl refl refl (record { two = rw high; three = gone (leb 3 p.state) }) refl)
  act_hears (heard.Request kind current) k =
      let h = heard.Request kind current in
      request_by s p (Hears p h) kind current (λ r met. plain h _ refl refl refl refl refl refl refl) (λ r. plain h _ refl refl refl refl refl refl refl) (plain h _ refl refl refl refl refl refl refl)
  act_hears (heard.Response kind status aid c) k = response_hears kind status aid c k
  act_hears (heard.QueryRequest identifier) k =
      let h = heard.QueryRequest identifier in
      pick_both (Hears p h) (eqb p.state 4) (plain h _ refl refl refl refl refl refl refl) (plain h _ refl refl refl refl refl refl refl)
  act_hears (heard.QueryResponse identifier) k =
      let h = heard.QueryResponse identifier in
      pick_both (Hears p h) (eqb p.state 4 && (is_running p.query && eqb identifier p.identifier)) (plain h _ refl refl refl refl refl refl refl) (plain h _ refl refl refl refl refl refl refl)

  group_hears : (h : Heard) → Associating h → Hears p h (group_heard s p h)
  unfolding group_heard still_of replied_of turn_of
  group_hears heard.Other k = act_hears heard.Other tt
  group_hears (heard.Authentication algorithm transaction status) k = quiet _ _ refl refl refl
  group_hears (heard.Deauthentication reason) k = act_hears (heard.Deauthentication reason) tt
  group_hears (heard.Disassociation reason) k = act_hears (heard.Disassociation reason) tt
  group_hears (heard.Request kind current) k = quiet _ _ refl refl refl
  group_hears (heard.Response kind status aid c) k = quiet _ _ refl refl refl
  group_hears (heard.QueryRequest identifier) k = plain (heard.QueryRequest identifier) _ refl refl refl refl refl refl refl
  group_hears (heard.QueryResponse identifier) k = plain (heard.QueryResponse identifier) _ refl refl refl refl refl refl refl

  -- Whatever the class and Address 1.
  pub hear_hears : (k : FrameClass) (group : Bool) (h : Heard) → Associating h → Hears p h (hear_of s p k group h)
  unfolding hear_of replied_of turn_of
  hear_hears k group h a =
      pick_both (Hears p h) (not (passes_of s.role k p.state)) (quiet h _ refl refl refl)
      (pick_both (Hears p h) group (group_hears h a) (act_hears h a))

  -- an association that is accepted was asked in State 2 or above
  pub accepted_two : (h : Heard) → Associating h → accepted_by p.exchange h ≡ true → leb 2 p.state ≡ true
  accepted_two heard.Other k e = wrong e
  accepted_two (heard.Authentication algorithm transaction status) k e = wrong e
  accepted_two (heard.Deauthentication reason) k e = wrong e
  accepted_two (heard.Disassociation reason) k e = wrong e
  accepted_two (heard.Request kind current) k e = wrong e
  accepted_two (heard.Response kind status aid c) k e =
      sent_two p.exchange kind s.role p.state p.left k f.suits (and_left (is_sent kind p.exchange) _ e)
  accepted_two (heard.QueryRequest identifier) k e = wrong e
  accepted_two (heard.QueryResponse identifier) k e = wrong e
