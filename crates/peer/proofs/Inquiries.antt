-- 02, K5, "Forged rejoin requests": what a request in a peer's name makes us send, and when the request of a query goes out. (A turn has one reply or
-- none, and a clock step sends nothing.)
--     forged-reply           a request that a query meets is answered by one response, and by nothing else
--     heard-no-inquiry       no frame makes us send a query's request
--     inquiry-eleven         of the primitives, 11 alone sends one
--     inquiry-once           and none is due when it was sent: a second primitive 11 is refused
-- Assumes nothing.
use Rattle.std.proofs.Common.{◌≡◌, ℕ, Bool, true, false, not, ◌&&◌, ◌||◌, eqb, ltb, refl, eqb-true, Option, None, Some}
use Rattle.octets.proofs.Branch.{by_bool, pick_both, pick_by}
use Rattle.octets.specs.Pick.{pick}
use Rattle.octets.specs.declared.class.FrameClass.TheVariants as class
use Rattle.octets.specs.declared.class.FrameClass.{FrameClass}
use Rattle.octets.specs.declared.frame.Body.TheVariants as body
use Rattle.octets.specs.declared.frame.Body.{Body}
use Rattle.octets.specs.declared.frame.Frame.{Frame}
use Rattle.octets.specs.declared.heard.Heard.TheVariants as heard
use Rattle.octets.specs.declared.heard.Heard.{Heard}
use Rattle.octets.specs.declared.heard.Kind.TheVariants as kind
use Rattle.octets.specs.declared.heard.Kind.{Kind}
use Rattle.peer.specs.Ask.{answer_of, ask_of, associate_of, awaited_of, deauthenticate_of, declined_of, disassociate_of, failed_of, reassociate_of, report_of, respond_of, secure_of, started_of}
use Rattle.peer.specs.Association.{accepted_of, rejected_of, response_heard}
use Rattle.peer.specs.Authentication.{requested_of}
use Rattle.peer.specs.Challenge.{challenged_of, inquired_of, query_request_heard, query_response_heard}
use Rattle.peer.specs.Codes.{last_aid, status_later}
use Rattle.peer.specs.Farewell.{deauthentication_heard, disassociation_heard}
use Rattle.peer.specs.Filter.{barred_by, filtered_of, passes_of}
use Rattle.peer.specs.Hear.{act_of, group_heard, hear_of, is_exchange, is_query}
use Rattle.peer.specs.Query.{is_due, is_running, is_timed_out, query_left, running_of, sent_query}
use Rattle.peer.specs.Record.{is_sent, queried_of}
use Rattle.peer.specs.Refuse.{code_allowed, mismatch_of}
use Rattle.peer.specs.Reply.{authentication_to, deauthentication_to, disassociation_to, later_to, query_to, request_to, response_to, send_of}
use Rattle.peer.specs.Settings.{role_associates}
use Rattle.peer.specs.Turn.{replied_of, sole_of, still_of, turn_of}
use Rattle.peer.specs.declared.query.Query.TheVariants as query
use Rattle.peer.specs.declared.query.Query.{Query}
use Rattle.peer.specs.declared.record.Record.{Record}
use Rattle.peer.specs.declared.refuse.Others.{Others}
use Rattle.peer.specs.declared.settings.Settings.{Settings}
use Rattle.peer.specs.declared.turn.Turn.{Turn}
use Rattle.peer.proofs.Fits.{wrong}
use Rattle.peer.proofs.Queries.{Guarded, guarded, joined, requested, site}
use Rattle.peer.proofs.Roles.{authentication_by, barred_by_lem, request_barred_by, request_by}

-- "is answered with status 30, AID 0 and .. the query's remaining TU": a group address is not answered
pub forged_reply :
    (s : Settings) → Guarded s → (p : Record) → p.state ≡ 4 → is_timed_out p.query ≡ false → (k : FrameClass) (group : Bool) (kind : Kind) (current : ℕ)
    → passes_of s.role k 4 ≡ true
    → (hear_of s p k group (heard.Request kind current)).reply ≡ pick group None (later_to s p.address kind status_later (query_left (running_of s p.query)))
unfolding hear_of group_heard still_of replied_of turn_of challenged_of
forged_reply s g p four waits k group kind current through =
    let here : passes_of s.role k p.state ≡ true = rw four through in
    by_bool group (λ b. rw (here, b)) (λ b. rw (here, b, requested s g p four waits kind current))

-- The request of a query, among all that is sent.
abbrev pub inquires : Body → Bool
inquires (body.Authentication algorithm transaction status) = false
inquires (body.AssociationRequest capability) = false
inquires (body.ReassociationRequest capability current) = false
inquires (body.Response capability status aid) = false
inquires (body.Later capability status time) = false
inquires (body.Reason reason) = false
inquires (body.Query action identifier) = eqb action 0

abbrev pub is_inquiry : Option Frame → Bool
is_inquiry None = false
is_inquiry (Some f) = inquires f.body

abbrev Other : Turn → Type 0
Other t = is_inquiry t.reply ≡ false

module _ (s : Settings) (p : Record) where
  filtered : (k : FrameClass) → is_inquiry (filtered_of s p k) ≡ false
  unfolding deauthentication_to disassociation_to send_of
  filtered class.None = refl
  filtered class.One = refl
  filtered class.Two = refl
  filtered class.Three = pick_both (λ r. is_inquiry r ≡ false) (eqb p.state 1) refl refl

  barred : (k : FrameClass) (h : Heard) → is_inquiry (barred_by s p k h) ≡ false
  unfolding response_to send_of
  barred k heard.Other = filtered k
  barred k (heard.Authentication algorithm transaction status) = filtered k
  barred k (heard.Deauthentication reason) = filtered k
  barred k (heard.Disassociation reason) = filtered k
  barred k (heard.Request kind current) = request_barred_by s p (λ r. is_inquiry r ≡ false) k kind (λ r. refl) (λ r. filtered k)
  barred k (heard.Response kind status aid comeback) = filtered k
  barred k (heard.QueryRequest identifier) = filtered k
  barred k (heard.QueryResponse identifier) = filtered k

  act : (h : Heard) → Other (act_of s p h)
  unfolding still_of replied_of turn_of sole_of requested_of deauthentication_heard disassociation_heard response_heard accepted_of rejected_of challenged_of query_request_heard query_response_heard authentication_to later_to query_to send_of
  act heard.Other = refl
  act (heard.Authentication algorithm transaction status) =
      authentication_by s p Other algorithm transaction status (λ r z. refl) (λ z. refl) (λ sent. refl) refl
  act (heard.Deauthentication reason) = pick_both Other (ltb p.state 2) refl refl
  act (heard.Disassociation reason) = pick_both Other (ltb p.state 3) refl refl
  act (heard.Request k current) = request_by s p Other k current (λ r met. refl) (λ r. refl) refl
  act (heard.Response k status aid c) =
      pick_both Other (is_sent k p.exchange)
      (pick_both Other (eqb status 0) (pick_both Other (eqb aid 0 || ltb last_aid aid) refl refl) refl)
      refl
  act (heard.QueryRequest identifier) = pick_both Other (eqb p.state 4) refl refl
  act (heard.QueryResponse identifier) =
      pick_both Other (eqb p.state 4 && (is_running p.query && eqb identifier p.identifier)) refl refl

  -- No frame makes us send the request of a query,
  pub heard_no_inquiry : (k : FrameClass) (group : Bool) (h : Heard) → is_inquiry (hear_of s p k group h).reply ≡ false
  unfolding hear_of group_heard still_of replied_of turn_of
  heard_no_inquiry k group h =
      pick_both Other (not (passes_of s.role k p.state))
      (barred_by_lem s p (λ r. is_inquiry r ≡ false) k group h refl (λ on. barred k h))
      (pick_both Other group (pick_both Other (is_exchange h) refl (pick_both Other (is_query h) refl (act h))) (act h))

  -- and of the primitives 11 alone does.
  pub inquiry_eleven :
      (aid : ℕ) (o : Others) (q code : ℕ) → code_allowed q code ≡ true → (q ≡ 11 → ⊥) → is_inquiry (ask_of s aid p o q code).reply ≡ false
  unfolding code_allowed ask_of started_of answer_of deauthenticate_of associate_of reassociate_of failed_of disassociate_of respond_of awaited_of declined_of secure_of report_of turn_of request_to authentication_to deauthentication_to disassociation_to response_to send_of
  inquiry_eleven aid o q code allowed other =
      pick_by Other (eqb q 1) (λ e. refl) (λ e1.
      pick_by Other (eqb q 2) (λ e. refl) (λ e2.
      pick_by Other (eqb q 3) (λ e. pick_both (λ r. is_inquiry r ≡ false) (ltb p.state 2) refl refl) (λ e3.
      pick_by Other (eqb q 4) (λ e. pick_both Other (eqb p.state 1) refl refl) (λ e4.
      pick_by Other (eqb q 5) (λ e. pick_both Other (eqb o.associated 0 || eqb p.state 1) refl refl) (λ e5.
      pick_by Other (eqb q 6) (λ e. pick_both Other (ltb p.state 3) refl refl) (λ e6.
      pick_by Other (eqb q 7) (λ e. pick_both Other (eqb code 0) refl refl) (λ e7.
      pick_by Other (eqb q 8) (λ e. pick_both Other (eqb code 0) refl refl) (λ e8.
      pick_by Other (eqb q 9) (λ e. refl) (λ e9.
      pick_by Other (eqb q 10) (λ e. refl) (λ e10.
      by_bool (eqb q 11) (λ e. absurd (other (eqb-true q 11 e)))
      (λ e. wrong (simp (e1, e2, e3, e4, e5, e6, e7, e8, e9, e10, e) at allowed))))))))))))

  sent_not_due : (q : Query) → is_due (sent_query q) ≡ false
  sent_not_due query.None = refl
  sent_not_due (query.Running left due) = refl
  sent_not_due query.TimedOut = refl

  -- Once it was sent it is not due, and primitive 11 is refused (7) until a retry is reached.
  pub inquiry_once : (aid : ℕ) (o : Others) (code : ℕ) → mismatch_of (ask_of s aid p o 11 code).peer o 11 ≡ true
  unfolding ask_of inquired_of turn_of queried_of mismatch_of
  inquiry_once aid o code = rw (sent_not_due p.query)

-- ---- The hypotheses are met: a request is turned away for 1,000 TU; its query is due, and goes out once.

abbrev nobody : Others
nobody = record { associated = 0; busy = false }

turned_away_lem : (hear_of site (joined query.None 0) class.Two false (heard.Request kind.Association 0)).reply ≡ later_to site 4 kind.Association 30 1000
unfolding running_of role_associates
turned_away_lem = forged_reply site guarded (joined query.None 0) refl refl class.Two false kind.Association 0 refl

goes_out : is_inquiry (ask_of site 1 (joined (query.Running 1000 true) 1) nobody 11 0).reply ≡ true
unfolding ask_of inquired_of query_to send_of turn_of
goes_out = refl

due : mismatch_of (joined (query.Running 1000 true) 1) nobody 11 ≡ false
unfolding mismatch_of
due = refl

not_again : mismatch_of (ask_of site 1 (joined (query.Running 1000 true) 1) nobody 11 0).peer nobody 11 ≡ true
not_again = inquiry_once site (joined (query.Running 1000 true) 1) 1 nobody 0
