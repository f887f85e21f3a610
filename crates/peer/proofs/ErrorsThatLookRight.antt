-- 01, "Errors that look right": none of the three is in the rules, at one peer.
--     heard-no-higher, raised_by           at an access point no frame raises a state, and no primitive before the acknowledgement
--     repeated-answered, repeated-asked    an authentication that is repeated, from its request to its answer, leaves State 2 to 4
--     hear-kept, ask-kept, not-freed       no frame and no primitive takes a record its address; a deauthentication frees no place
-- Assumes nothing.
use Rattle.std.proofs.Common.{◌≡◌, ℕ, ◌<◌, ◌≤◌, Bool, true, false, not, ◌&&◌, ◌||◌, eqb, ltb, leb, refl, arith, ltb-false, ne_eqb, eqb-true, leb-true}
use borrow.Author.Tests.{not-false}
use Rattle.octets.proofs.Branch.{and_right, by_bool, pick_both, pick_by}
use Rattle.octets.specs.Address.{valid_of}
use Rattle.octets.specs.Links.{no_links, unlinked}
use Rattle.octets.specs.declared.class.FrameClass.{FrameClass}
use Rattle.octets.specs.declared.class.FrameClass.TheVariants.{One}
use Rattle.octets.specs.declared.heard.Heard.TheVariants as heard
use Rattle.octets.specs.declared.heard.Heard.{Heard}
use Rattle.octets.specs.declared.heard.Kind.TheVariants as kind
use Rattle.octets.specs.declared.heard.Kind.{Kind}
use Rattle.peer.specs.Ask.{answer_of, ask_of, associate_of, awaited_of, deauthenticate_of, declined_of, disassociate_of, failed_of, reassociate_of, report_of, reported_move, respond_of, secure_of, started_of}
use Rattle.peer.specs.Association.{response_heard}
use Rattle.peer.specs.Authentication.{answered_move, requested_of}
use Rattle.peer.specs.Challenge.{challenged_of, inquired_of, passed_of, query_request_heard, query_response_heard, querying_of}
use Rattle.peer.specs.Farewell.{deauthentication_heard, disassociation_heard}
use Rattle.peer.specs.Filter.{passes_of}
use Rattle.peer.specs.Hear.{act_of, group_heard, hear_of, is_exchange, is_query}
use Rattle.peer.specs.Moves.{moved_of}
use Rattle.peer.specs.Query.{is_running}
use Rattle.peer.specs.Record.{asked_of, awaiting_of, changed_of, is_free, is_sent, queried_of}
use Rattle.peer.specs.Refuse.{code_allowed, mismatch_of}
use Rattle.peer.specs.Settings.{ap, role_answers, role_asks, role_associates, station}
use Rattle.peer.specs.Turn.{begun_of, ended_of, replied_of, still_of, turn_of}
use Rattle.peer.specs.declared.query.Query.TheVariants as query
use Rattle.peer.specs.declared.exchange.Exchange.TheVariants.{Awaiting, None}
use Rattle.peer.specs.declared.record.Record.{Record}
use Rattle.peer.specs.declared.refuse.Others.{Others}
use Rattle.peer.specs.declared.settings.Settings.{Settings}
use Rattle.peer.specs.declared.turn.Turn.{Turn}
use Rattle.peer.specs.Fit.{asked_fits, awaiting_fits, highest_state, hold_fits, links_fit, query_allowed, record_fits, stands}
use Rattle.peer.proofs.Links.{act_links, ask_links, hear_links}
use Rattle.peer.proofs.Fits.{Fits, asked_stands, fits_of, sent_asks, wrong}
use Rattle.peer.proofs.Keeps.{declined_no_higher}
use Rattle.peer.proofs.Roles.{authentication_by, request_by}

-- ---- "Raising the AP's state at the response, before its acknowledgement."

abbrev NoHigher : Record → Turn → Type 0
NoHigher p t = t.peer.state ≤ p.state

module _ (s : Settings) (role : s.role ≡ ap) (p : Record) (f : Fits s p) where
  -- no exchange was sent
  none_sent : {P : Type 0} (k : Kind) → is_sent k p.exchange ≡ true → P
  unfolding role_asks
  none_sent k e = let a = sent_asks p.exchange k s.role p.state p.left f.suits e in wrong (rw role at a)

  act_no_higher : (h : Heard) → NoHigher p (act_of s p h)
  unfolding still_of replied_of turn_of begun_of ended_of changed_of requested_of deauthentication_heard disassociation_heard response_heard query_request_heard query_response_heard challenged_of querying_of passed_of queried_of
  act_no_higher heard.Other = omega arith
  act_no_higher (heard.Authentication algorithm transaction status) =
      authentication_by s p (NoHigher p) algorithm transaction status (λ a z. omega arith) (λ z. omega arith) (none_sent kind.Authentication) (omega arith)
  act_no_higher (heard.Deauthentication reason) =
      pick_by (NoHigher p) (ltb p.state 2) (λ l. omega arith) (λ l. let two : 2 ≤ p.state = ltb-false p.state 2 l in omega arith)
  act_no_higher (heard.Disassociation reason) =
      pick_by (NoHigher p) (ltb p.state 3) (λ l. omega arith) (λ l. let three : 3 ≤ p.state = ltb-false p.state 3 l in omega arith)
  act_no_higher (heard.Request k current) =
      request_by s p (NoHigher p) k current (λ a c. omega arith) (λ a. omega arith) (omega arith)
  act_no_higher (heard.QueryRequest i) = pick_both (NoHigher p) (eqb p.state 4) (omega arith) (omega arith)
  act_no_higher (heard.QueryResponse i) = pick_both (NoHigher p) (eqb p.state 4 && (is_running p.query && eqb i p.identifier)) (omega arith) (omega arith)
  act_no_higher (heard.Response k status aid c) =
      pick_by (NoHigher p) (is_sent k p.exchange) (none_sent k) (λ e. omega arith)

-- At an access point no frame raises a state.
pub heard_no_higher :
    (s : Settings) → s.role ≡ ap → (p : Record) → Fits s p → (k : FrameClass) (group : Bool) (h : Heard)
    → (hear_of s p k group h).peer.state ≤ p.state
unfolding hear_of group_heard still_of replied_of turn_of
heard_no_higher s role p f k group h =
    pick_both (NoHigher p) (not (passes_of s.role k p.state)) (omega arith)
    (pick_both (NoHigher p) group (pick_both (NoHigher p) (is_exchange h) (omega arith) (pick_both (NoHigher p) (is_query h) (omega arith) acts)) acts)
  where
    acts : NoHigher p (act_of s p h)
    acts = act_no_higher s role p f h

-- What raises a state: an authentication's answer, from State 1; the keys, from State 3; and the report that a response was acknowledged.
pub data Raises : Record → ℕ → ℕ → Type 0 where
  answered : {p : Record} {q code : ℕ} → q ≡ 2 → code ≡ 0 → p.state ≡ 1 → Raises p q code
  secured : {p : Record} {q code : ℕ} → q ≡ 9 → p.state ≡ 3 → Raises p q code
  acknowledged : {p : Record} {q code : ℕ} → q ≡ 10 → code ≡ 1 → eqb (awaiting_of p.exchange) 0 ≡ false → Raises p q code

abbrev Only : Record → ℕ → ℕ → Turn → Type 0
Only p q code t = p.state < t.peer.state → Raises p q code

kept : {P : Type 0} {n : ℕ} → n < n → P
kept l = absurd (omega arith)

-- A primitive that nothing refuses raises a state in these three ways, and in no other: a response (7 and 8) never does.
pub raised_by :
    (s : Settings) (p : Record) → Fits s p → (aid : ℕ) (o : Others) (q code : ℕ) → code_allowed q code ≡ true → mismatch_of p o q ≡ false
    → p.state < (ask_of s aid p o q code).peer.state → Raises p q code
unfolding ask_of code_allowed mismatch_of started_of answer_of answered_move reported_move deauthenticate_of associate_of reassociate_of failed_of disassociate_of respond_of awaited_of declined_of secure_of report_of inquired_of queried_of turn_of begun_of ended_of changed_of
raised_by s p f aid o q code allowed mismatch =
    pick_by (Only p q code) (eqb q 1) (λ e. kept) (λ e1.
    pick_by (Only p q code) (eqb q 2) (λ e. authenticated (eqb-true q 2 e)) (λ e2.
    pick_by (Only p q code) (eqb q 3) (λ e l. absurd (omega (arith, f.low))) (λ e3.
    pick_by (Only p q code) (eqb q 4) (λ e. pick_both (Only p q code) (eqb p.state 1) kept kept) (λ e4.
    pick_by (Only p q code) (eqb q 5) (λ e. pick_both (Only p q code) (eqb o.associated 0 || eqb p.state 1) kept kept) (λ e5.
    pick_by (Only p q code) (eqb q 6) (λ e. dropped) (λ e6.
    pick_by (Only p q code) (eqb q 7) (λ e. let z = eqb-true q 7 e in responded kind.Association 2 refl (not-false _ (rw z at mismatch))) (λ e7.
    pick_by (Only p q code) (eqb q 8) (λ e. let z = eqb-true q 8 e in responded kind.Reassociation 3 refl (not-false _ (rw z at mismatch))) (λ e8.
    pick_by (Only p q code) (eqb q 9) (λ e. keyed (eqb-true q 9 e)) (λ e9.
    pick_by (Only p q code) (eqb q 10) (λ e. let z = eqb-true q 10 e in reported z (rw z at mismatch)) (λ e10. kept))))))))))
  where
    authenticated : q ≡ 2 → Only p q code (answer_of s p code)
    authenticated z = by_bool (eqb code 0)
        (λ c. by_bool (eqb p.state 1) (λ one. λ l. answered z (eqb-true code 0 c) (eqb-true p.state 1 one)) (λ one. rw (c, one) kept))
        (λ c. rw c kept)

    dropped : Only p q code (disassociate_of s p code)
    dropped =
        pick_by (Only p q code) (ltb p.state 3) (λ e. kept) (λ e l. let three : 3 ≤ p.state = ltb-false p.state 3 e in absurd (omega arith))

    responded : (k : Kind) (n : ℕ) → leb 2 n ≡ true → eqb (asked_of p.exchange) n ≡ true → Only p q code (respond_of s aid p k code)
    responded k n two e =
        let high : 2 ≤ p.state = leb-true 2 p.state (and_right (role_associates s.role) _ (asked_stands p.exchange n s.role p.state p.left f.suits two e)) in
        pick_both (Only p q code) (eqb code 0) kept (λ l. absurd (omega (arith, declined_no_higher s p.state high)))

    keyed : q ≡ 9 → Only p q code (secure_of s p)
    keyed z = by_bool (eqb p.state 3) (λ three. λ l. secured z (eqb-true p.state 3 three)) (λ three. rw three kept)

    reported : q ≡ 10 → eqb (awaiting_of p.exchange) 0 ≡ false → Only p q code (report_of s p code)
    reported z waits = by_bool (eqb code 1) (λ one. λ l. acknowledged z (eqb-true code 1 one) waits) (λ one. rw one kept)

-- ---- "Lowering State 4 to 2 on a repeated authentication."

answer_keeps : (rsna state status : ℕ) → 2 ≤ state → moved_of rsna state (answered_move status) ≡ state
unfolding answered_move
answer_keeps rsna state status two = by_bool (eqb status 0)
    (λ e. rw (e, ne_eqb state 1 (λ (z : state ≡ 1). omega arith)))
    (λ e. rw e)

abbrev Same : Record → Turn → Type 0
Same p t = t.peer.state ≡ p.state

-- An authentication frame, a request or an answer, leaves State 2 to 4, in every role and with whatever status.
heard_same :
    (s : Settings) (p : Record) (k : FrameClass) (group : Bool) (algorithm transaction status : ℕ) → 2 ≤ p.state
    → Same p (hear_of s p k group (heard.Authentication algorithm transaction status))
unfolding hear_of group_heard still_of replied_of turn_of begun_of ended_of changed_of requested_of
heard_same s p k group algorithm transaction status two =
    pick_both (Same p) (not (passes_of s.role k p.state)) refl
    (pick_both (Same p) group refl
    (authentication_by s p (Same p) algorithm transaction status (λ a z. refl) (λ z. refl) (λ e. answer_keeps s.rsna p.state status two) refl))

module _ (s : Settings) (p : Record) (two : 2 ≤ p.state) (k : FrameClass) (group : Bool) (algorithm transaction status aid : ℕ) (o : Others) where
  -- A request heard, and then answered by primitive 2, with whatever status.
  pub repeated_answered :
      (code : ℕ) → (ask_of s aid (hear_of s p k group (heard.Authentication algorithm transaction status)).peer o 2 code).peer.state ≡ p.state
  unfolding ask_of answer_of turn_of ended_of changed_of
  repeated_answered code =
      rw (heard_same s p k group algorithm transaction status two) (answer_keeps s.rsna p.state code two)

  -- A request sent by primitive 1, and then answered, with whatever status.
  pub repeated_asked : (hear_of s (ask_of s aid p o 1 0).peer k group (heard.Authentication algorithm transaction status)).peer.state ≡ p.state
  unfolding ask_of started_of turn_of begun_of changed_of
  repeated_asked = heard_same s (ask_of s aid p o 1 0).peer k group algorithm transaction status two

-- ---- "Freeing a place at deauthentication: AIDs then depend on others."

abbrev nobody : Others
nobody = record { associated = 0; busy = false }

abbrev pub Kept : Record → Turn → Type 0
Kept p t = t.peer.address ≡ p.address

module _ (s : Settings) (p : Record) where
  -- No frame takes a record its address,
  pub hear_kept : (k : FrameClass) (group : Bool) (h : Heard) → Kept p (hear_of s p k group h)
  hear_kept k group h = (hear_links s p k group h).0

  -- and no primitive does.
  pub ask_kept : (aid : ℕ) (o : Others) (q code : ℕ) → Kept p (ask_of s aid p o q code)
  ask_kept aid o q code = (ask_links s p aid o q code).0

  -- So a deauthentication, heard or asked, leaves a record where it was, and no free place.
  pub not_freed :
      Fits s p → (reason : ℕ) → (is_free (deauthentication_heard s p reason).peer ≡ false) × (is_free (deauthenticate_of s p reason).peer ≡ false)
  unfolding is_free valid_of ask_of
  not_freed f reason =
      (occupied (deauthentication_heard s p reason).peer (act_links s p (heard.Deauthentication reason)).0, occupied (deauthenticate_of s p reason).peer (ask_kept 0 nobody 3 reason))
    where
      occupied : (q : Record) → q.address ≡ p.address → is_free q ≡ false
      occupied q e = rw e (by_bool (eqb p.address 0) (λ z. wrong (rw z at f.valid)) (λ z. rw z))

-- ---- The hypotheses are met: a peer in State 4 that authenticates again, at an access point and at a station; one in State 2 whose response
-- is awaited, and acknowledged.

ours : ℕ → Settings
ours role = record { own = 2; network = 0; authentication = 100; association = 100; role = role; rsna = 0; edition = 1; protection = 0; retry = 201; maximum = 1000 }

peer : ℕ → Record
peer state = record { address = 4; state = state; exchange = None; left = 0; hold = 0; query = query.None; identifier = 0; links = unlinked }

awaiting : Record
awaiting = record { address = 4; state = 2; exchange = Awaiting kind.Association; left = 0; hold = 0; query = query.None; identifier = 0; links = unlinked }

four_at_ap : (ask_of (ours ap) 1 (hear_of (ours ap) (peer 4) One false (heard.Authentication 0 1 0)).peer nobody 2 0).peer.state ≡ 4
unfolding ours peer
four_at_ap = repeated_answered (ours ap) (peer 4) (omega arith) One false 0 1 0 1 nobody 0

four_at_station : (hear_of (ours station) (ask_of (ours station) 1 (peer 4) nobody 1 0).peer One false (heard.Authentication 0 2 0)).peer.state ≡ 4
unfolding ours peer
four_at_station = repeated_asked (ours station) (peer 4) (omega arith) One false 0 2 0 1 nobody

awaiting_fits_lem : Fits (ours ap) awaiting
unfolding ours awaiting record_fits highest_state query_allowed hold_fits awaiting_fits asked_fits stands role_answers role_asks role_associates valid_of links_fit no_links
awaiting_fits_lem = fits_of (ours ap) awaiting refl

raised : Raises awaiting 10 1
unfolding ours awaiting ask_of report_of reported_move code_allowed mismatch_of turn_of ended_of changed_of
raised = raised_by (ours ap) awaiting awaiting_fits_lem 1 nobody 10 1 refl refl (omega arith)
