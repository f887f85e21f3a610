-- Laws that a user of the rules relies on, at one peer: what can set a hold, what can raise a state to 3 or 4, and where a deauthentication
-- ends. Each is about the definitions that the code is proved equal to.
-- Assumes nothing.
use Rattle.std.specs.Prelude.{Some}
use Rattle.std.proofs.Common.{◌≡◌, ℕ, ◌-◌, ◌<◌, ◌≤◌, Bool, true, false, not, ◌&&◌, ◌||◌, eqb, ltb, sym, refl, ◌∙◌, arith, ltb-true, eqb-true, None}
use Rattle.octets.specs.Pick.{pick}
use Rattle.octets.proofs.Branch.{by_bool, pick_both, pick_by}
use Rattle.octets.specs.declared.class.FrameClass.{FrameClass}
use Rattle.octets.specs.declared.heard.Kind.{Kind}
use Rattle.octets.specs.declared.heard.Heard.{Heard}
use Rattle.octets.specs.declared.heard.Heard.TheVariants as heard
use Rattle.peer.specs.Codes.{last_aid}
use Rattle.peer.specs.Record.{changed_of, is_sent, queried_of}
use Rattle.peer.specs.Moves.{moved_of}
use Rattle.peer.specs.Turn.{admit, discard, confirm_of, told_of, turn_of, sole_of, ended_of, begun_of, replied_of, still_of}
use Rattle.peer.specs.Filter.{passes_of}
use Rattle.peer.specs.Authentication.{requested_of, answered_move}
use Rattle.peer.specs.Farewell.{deauthentication_heard, disassociation_heard}
use Rattle.peer.specs.Association.{accepted_of, rejected_of, response_heard}
use Rattle.peer.specs.Challenge.{challenged_of, inquired_of, passed_of, query_request_heard, query_response_heard, querying_of}
use Rattle.peer.specs.Query.{is_running}
use Rattle.peer.specs.Hear.{is_exchange, is_query, act_of, group_heard, hear_of}
use Rattle.peer.specs.Ask.{started_of, answer_of, deauthenticate_of, failed_of, associate_of, reassociate_of, disassociate_of, awaited_of, declined_move, declined_of, respond_of, secure_of, reported_move, report_of, ask_of}
use Rattle.peer.specs.Tick.{timed_of, freed_of, queried_timed, tick_of}
use Rattle.peer.specs.declared.settings.Settings.{Settings}
use Rattle.peer.specs.declared.record.Record.{Record}
use Rattle.peer.specs.declared.refuse.Others.{Others}
use Rattle.peer.specs.declared.moves.Move.TheVariants as move
use Rattle.peer.specs.declared.turn.Turn.{Turn}
use Rattle.peer.proofs.Moved.{calm_low}
use Rattle.peer.proofs.Keeps.{answered_calm, declined_calm}
use Rattle.peer.proofs.Roles.{authentication_by, request_by}
use Rattle.peer.proofs.TickKeeps.{freed_by}

-- ---- Holds

Held : Record → Turn → Type 0
Held p t = t.peer.hold ≡ p.hold

-- Whether what is heard may set a hold: a disassociation, or a rejection.
abbrev pub sets_hold : Heard → Bool
sets_hold heard.Other = false
sets_hold (heard.Authentication algorithm transaction status) = false
sets_hold (heard.Deauthentication reason) = false
sets_hold (heard.Disassociation reason) = true
sets_hold (heard.Request k current) = false
sets_hold (heard.Response k status aid c) = not (eqb status 0)
sets_hold (heard.QueryRequest identifier) = false
sets_hold (heard.QueryResponse identifier) = false

act_held : (s : Settings) (p : Record) (h : Heard) → sets_hold h ≡ false → Held p (act_of s p h)
unfolding Held still_of replied_of turn_of requested_of begun_of ended_of changed_of deauthentication_heard response_heard accepted_of sole_of query_request_heard query_response_heard challenged_of querying_of passed_of queried_of
act_held s p heard.Other e = refl
act_held s p (heard.Authentication a t st) e =
    authentication_by s p (Held p) a t st (λ r z. refl) (λ z. refl) (λ sent. refl) refl
act_held s p (heard.Deauthentication r) e = pick_both (Held p) (ltb p.state 2) refl refl
act_held s p (heard.Disassociation r) e = let z : ◌≡◌ {A = Bool} true false = e in cc
act_held s p (heard.Request k c) e = request_by s p (Held p) k c (λ r met. refl) (λ r. refl) refl
act_held s p (heard.QueryRequest i) e = pick_both (Held p) (eqb p.state 4) refl refl
act_held s p (heard.QueryResponse i) e = pick_both (Held p) (eqb p.state 4 && (is_running p.query && eqb i p.identifier)) refl refl
act_held s p (heard.Response k st aid c) e =
    pick_both (Held p) (is_sent k p.exchange) (accepted (eqb st 0) e) refl
  where
    accepted : (b : Bool) → not b ≡ false → Held p (pick b (accepted_of s p k aid) (rejected_of s p k st c))
    accepted true e = pick_both (Held p) (eqb aid 0 || ltb last_aid aid) refl refl
    accepted false e = let z : ◌≡◌ {A = Bool} true false = e in cc

-- "a station sets the hold"; "Other status: .. hold set": a hold is set by a received disassociation or rejection, and by no other frame.
pub hold_kept_heard : (s : Settings) (p : Record) (k : FrameClass) (g : Bool) (h : Heard) → sets_hold h ≡ false → (hear_of s p k g h).peer.hold ≡ p.hold
unfolding Held hear_of group_heard replied_of still_of turn_of
hold_kept_heard s p k g h e =
    pick_both (Held p) (not (passes_of s.role k p.state)) refl
    (pick_both (Held p) g (pick_both (Held p) (is_exchange h) refl (pick_both (Held p) (is_query h) refl (act_held s p h e))) (act_held s p h e))

-- No primitive sets a hold.
pub hold_kept_asked : (s : Settings) (aid : ℕ) (p : Record) (o : Others) (q code : ℕ) → (ask_of s aid p o q code).peer.hold ≡ p.hold
unfolding Held ask_of started_of answer_of deauthenticate_of associate_of reassociate_of failed_of disassociate_of respond_of awaited_of declined_of secure_of report_of inquired_of queried_of turn_of begun_of ended_of changed_of
hold_kept_asked s aid p o q code =
    pick_both (Held p) (eqb q 1) refl
    (pick_both (Held p) (eqb q 2) refl
    (pick_both (Held p) (eqb q 3) refl
    (pick_both (Held p) (eqb q 4) (pick_both (Held p) (eqb p.state 1) refl refl)
    (pick_both (Held p) (eqb q 5) (pick_both (Held p) (eqb o.associated 0 || eqb p.state 1) refl refl)
    (pick_both (Held p) (eqb q 6) (pick_both (Held p) (ltb p.state 3) refl refl)
    (pick_both (Held p) (eqb q 7) (pick_both (Held p) (eqb code 0) refl refl)
    (pick_both (Held p) (eqb q 8) (pick_both (Held p) (eqb code 0) refl refl)
    (pick_both (Held p) (eqb q 9) refl
    (pick_both (Held p) (eqb q 10) refl refl)))))))))

-- "A comeback of 0 is a hold of 0."
pub comeback_zero : (s : Settings) (p : Record) (k : Kind) (status : ℕ) → (rejected_of s p k status (Some 0)).peer.hold ≡ 0
unfolding rejected_of turn_of ended_of changed_of
comeback_zero s p k status = refl

-- The clock lowers a hold by the step, not below 0, and does nothing else to it.
timed_hold : (s : Settings) (p : Record) (d : ℕ) → (timed_of s p d).peer.hold ≡ p.hold - d
unfolding timed_of ended_of changed_of
timed_hold s p d = by_bool (eqb p.left 0) (λ e. rw e) (λ e. by_bool (ltb d p.left) (λ f. rw (e, f)) (λ f. rw (e, f)))

freed_hold : (q : Record) → (freed_of q).hold ≡ q.hold
freed_hold q = freed_by (λ r. r.hold ≡ q.hold) q (λ z l. sym (eqb-true q.hold 0 z)) refl

pub hold_after_step : (s : Settings) (p : Record) (d : ℕ) → (tick_of s p d).peer.hold ≡ p.hold - d
unfolding tick_of queried_timed queried_of
hold_after_step s p d = freed_hold (queried_timed s (timed_of s p d).peer d) ∙ timed_hold s p d

-- ---- States

-- A turn that leaves a peer below State 3.
Low : Turn → Type 0
Low t = t.peer.state < 3

-- Whether what is heard may raise a state to 3 or 4: a response with status 0 and a valid AID, where a request of its kind was sent to that peer.
abbrev pub joins : Record → Heard → Bool
joins p heard.Other = false
joins p (heard.Authentication algorithm transaction status) = false
joins p (heard.Deauthentication reason) = false
joins p (heard.Disassociation reason) = false
joins p (heard.Request k current) = false
joins p (heard.QueryRequest identifier) = false
joins p (heard.QueryResponse identifier) = false
joins p (heard.Response k status aid c) = is_sent k p.exchange && (eqb status 0 && not (eqb aid 0 || ltb last_aid aid))

answered_low : (s : Settings) (p : Record) (status : ℕ) → p.state < 3 → moved_of s.rsna p.state (answered_move status) < 3
answered_low s p status l = calm_low s.rsna p.state (answered_move status) (answered_calm status) l

declined_low : (s : Settings) (p : Record) → p.state < 3 → moved_of s.rsna p.state (declined_move s) < 3
declined_low s p l = calm_low s.rsna p.state (declined_move s) (declined_calm s) l

act_low : (s : Settings) (p : Record) (h : Heard) → p.state < 3 → joins p h ≡ false → Low (act_of s p h)
unfolding Low still_of replied_of turn_of requested_of begun_of ended_of changed_of deauthentication_heard disassociation_heard response_heard accepted_of rejected_of sole_of query_request_heard query_response_heard challenged_of querying_of passed_of queried_of
act_low s p heard.Other l e = l
act_low s p (heard.Authentication a t st) l e =
    authentication_by s p Low a t st (λ r z. l) (λ z. l) (λ sent. (answered_low s p st l)) l
act_low s p (heard.Deauthentication r) l e = pick_both Low (ltb p.state 2) l (omega arith)
act_low s p (heard.Disassociation r) l e = pick_both Low (ltb p.state 3) l (omega arith)
act_low s p (heard.Request k c) l e = request_by s p Low k c (λ r met. l) (λ r. l) l
act_low s p (heard.QueryRequest i) l e = pick_both Low (eqb p.state 4) l l
act_low s p (heard.QueryResponse i) l e = pick_both Low (eqb p.state 4 && (is_running p.query && eqb i p.identifier)) l l
act_low s p (heard.Response k st aid c) l e =
    pick_by Low (is_sent k p.exchange) (λ sent. answered (eqb st 0) (eqb aid 0 || ltb last_aid aid) (rw sent at e)) (λ sent. l)
  where
    answered : (b d : Bool) → (b && not d) ≡ false → Low (pick b (pick d (still_of s p 1) (sole_of (turn_of s p (ended_of s p move.Join p.hold) 1 (told_of (confirm_of k) 0) None))) (rejected_of s p k st c))
    answered true true e = l
    answered true false e = let z : ◌≡◌ {A = ℕ} 0 1 = cc in absurd (omega arith)
    answered false d e = omega arith

-- No frame raises a state to 3 or 4 but a response with status 0 and a valid AID to the request that we sent to that peer, and that is still
-- under way.
pub rises_heard : (s : Settings) (p : Record) (k : FrameClass) (g : Bool) (h : Heard) → p.state < 3 → joins p h ≡ false → (hear_of s p k g h).peer.state < 3
unfolding Low hear_of group_heard replied_of still_of turn_of
rises_heard s p k g h l e =
    pick_both Low (not (passes_of s.role k p.state)) l
    (pick_both Low g (pick_both Low (is_exchange h) l (pick_both Low (is_query h) l (act_low s p h l e))) (act_low s p h l e))

-- And no primitive but a transmit report with code 1.
pub rises_asked : (s : Settings) (aid : ℕ) (p : Record) (o : Others) (q code : ℕ) → p.state < 3 → (q ≡ 10 → code ≡ 1 → ⊥) → (ask_of s aid p o q code).peer.state < 3
unfolding Low ask_of started_of answer_of deauthenticate_of associate_of reassociate_of failed_of disassociate_of respond_of awaited_of declined_of secure_of report_of reported_move inquired_of queried_of turn_of begun_of ended_of changed_of
rises_asked s aid p o q code l other =
    pick_by Low (eqb q 1) (λ e. l) (λ f1.
    pick_by Low (eqb q 2) (λ e. answered_low s p code l) (λ f2.
    pick_by Low (eqb q 3) (λ e. omega arith) (λ f3.
    pick_by Low (eqb q 4) (λ e. pick_both Low (eqb p.state 1) l l) (λ f4.
    pick_by Low (eqb q 5) (λ e. pick_both Low (eqb o.associated 0 || eqb p.state 1) l l) (λ f5.
    pick_by Low (eqb q 6) (λ e. pick_both Low (ltb p.state 3) l (omega arith)) (λ f6.
    pick_by Low (eqb q 7) (λ e. pick_both Low (eqb code 0) l (declined_low s p l)) (λ f7.
    pick_by Low (eqb q 8) (λ e. pick_both Low (eqb code 0) l (declined_low s p l)) (λ f8.
    pick_by Low (eqb q 9) (λ e. secured (eqb p.state 3) refl) (λ f9.
    pick_by Low (eqb q 10) (λ e. reported (eqb code 1) refl (eqb-true q 10 e)) (λ f10. l))))))))))
  where
    secured : (b : Bool) → eqb p.state 3 ≡ b → pick b 4 p.state < 3
    secured true e = let z = eqb-true p.state 3 e in absurd (omega arith)
    secured false e = l

    reported : (b : Bool) → eqb code 1 ≡ b → q ≡ 10 → moved_of s.rsna p.state (pick b move.Join move.Keep) < 3
    reported true e t = absurd (other t (eqb-true code 1 e))
    reported false e t = l

-- A deauthentication, heard or asked, ends in State 1.
pub deauthentication_ends : (s : Settings) (p : Record) (reason : ℕ) → 1 ≤ p.state → ((deauthentication_heard s p reason).peer.state ≡ 1) × ((deauthenticate_of s p reason).peer.state ≡ 1)
unfolding deauthentication_heard deauthenticate_of still_of replied_of turn_of ended_of changed_of
deauthentication_ends s p reason h =
    (by_bool (ltb p.state 2) (λ e. rw e (let l = ltb-true p.state 2 e in omega arith)) (λ e. rw e), refl)

-- A discard leaves the record, and every other record too.
Admitted : Turn → Type 0
Admitted t = t.verdict ≡ admit

act_admitted : (s : Settings) (p : Record) (h : Heard) → Admitted (act_of s p h)
unfolding Admitted still_of replied_of turn_of requested_of deauthentication_heard disassociation_heard response_heard accepted_of rejected_of sole_of query_request_heard query_response_heard challenged_of
act_admitted s p heard.Other = refl
act_admitted s p (heard.Authentication a t st) =
    authentication_by s p Admitted a t st (λ r z. refl) (λ z. refl) (λ sent. refl) refl
act_admitted s p (heard.Deauthentication r) = pick_both Admitted (ltb p.state 2) refl refl
act_admitted s p (heard.Disassociation r) = pick_both Admitted (ltb p.state 3) refl refl
act_admitted s p (heard.Request k c) = request_by s p Admitted k c (λ r met. refl) (λ r. refl) refl
act_admitted s p (heard.QueryRequest i) = pick_both Admitted (eqb p.state 4) refl refl
act_admitted s p (heard.QueryResponse i) = pick_both Admitted (eqb p.state 4 && (is_running p.query && eqb i p.identifier)) refl refl
act_admitted s p (heard.Response k st aid c) =
    pick_both Admitted (is_sent k p.exchange)
    (pick_both Admitted (eqb st 0) (pick_both Admitted (eqb aid 0 || ltb last_aid aid) refl refl) refl)
    refl

Kept : Record → Turn → Type 0
Kept p t = t.verdict ≡ discard → (t.peer ≡ p) × (t.sole ≡ false)

act_kept : (s : Settings) (p : Record) (h : Heard) → Kept p (act_of s p h)
unfolding Kept Admitted
act_kept s p h v = let a = act_admitted s p h in let z : ◌≡◌ {A = ℕ} 1 2 = cc in absurd (omega arith)

pub discard_turn : (s : Settings) (p : Record) (k : FrameClass) (g : Bool) (h : Heard) → (hear_of s p k g h).verdict ≡ discard → ((hear_of s p k g h).peer ≡ p) × ((hear_of s p k g h).sole ≡ false)
unfolding Kept hear_of group_heard replied_of still_of turn_of
discard_turn s p k g h =
    pick_both (Kept p) (not (passes_of s.role k p.state)) (λ v. (refl, refl))
    (pick_both (Kept p) g (pick_both (Kept p) (is_exchange h) (λ v. (refl, refl)) (pick_both (Kept p) (is_query h) (λ v. (refl, refl)) (act_kept s p h))) (act_kept s p h))
