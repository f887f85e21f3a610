-- 02, K5, "Forged rejoin requests": a peer whose queries are each answered before the maximum stays as it is, through any number of requests in
-- its name (`answered_stays`), at an access point with edition 2 and protection; and after a query that timed out one request passes, then none
-- of any number (`exactly_one`).
-- Assumes nothing.
use Rattle.std.proofs.Common.{◌≡◌, ℕ, ◌-◌, Bool, true, false, not, ◌&&◌, eqb, leb, List, [], ◌∷◌, sym, refl, ◌∙◌, arith}
use Rattle.octets.proofs.Branch.{by_bool, pick_both}
use Rattle.octets.specs.declared.class.FrameClass.TheVariants as class
use Rattle.octets.specs.declared.class.FrameClass.{FrameClass}
use Rattle.octets.specs.declared.heard.Heard.TheVariants as heard
use Rattle.octets.specs.declared.heard.Kind.TheVariants.{Association, Reassociation}
use Rattle.octets.specs.declared.heard.Kind.{Kind}
use Rattle.peer.specs.Ask.{ask_of}
use Rattle.peer.specs.Association.{request_heard}
use Rattle.peer.specs.Authentication.{requested_of}
use Rattle.peer.specs.Challenge.{challenged_of, inquired_of, is_challenged, passed_of, query_response_heard, querying_of}
use Rattle.peer.specs.Filter.{passes_of}
use Rattle.peer.specs.Hear.{hear_of}
use Rattle.peer.specs.Query.{is_running, is_timed_out, query_in, query_report, query_timed, reaches, running_of, running_report, running_timed, sent_query, stepped_of}
use Rattle.peer.specs.Record.{changed_of, queried_of}
use Rattle.peer.specs.Settings.{role_associates}
use Rattle.peer.specs.Tick.{freed_of, queried_timed, reported_of, tick_of, timed_of}
use Rattle.peer.specs.Turn.{begun_of, replied_of, still_of, turn_of}
use Rattle.peer.specs.declared.query.Query.TheVariants as query
use Rattle.peer.specs.declared.query.Query.{Query}
use Rattle.peer.specs.declared.record.Record.{Record}
use Rattle.peer.specs.declared.refuse.Others.{Others}
use Rattle.peer.specs.declared.settings.Settings.{Settings}
use Rattle.peer.specs.declared.turn.Turn.{Turn}
use Rattle.peer.proofs.Fits.{wrong}
use Rattle.peer.proofs.Queries.{Guarded, Stays, guarded, joined, one_passes, passes, same, site, unmoved}

-- What comes to such a peer: a request in its name; its own answer to the query; primitive 11; a clock step.
pub data Tried : Type 0 where
  request : FrameClass → Bool → Kind → ℕ → Tried
  answer : FrameClass → Tried
  send : Tried
  step : ℕ → Tried

abbrev nobody : Others
nobody = record { associated = 0; busy = false }

abbrev pub after_of : Settings → Record → Tried → Record
after_of s p (request k group kind current) = (hear_of s p k group (heard.Request kind current)).peer
after_of s p (answer k) = (hear_of s p k false (heard.QueryResponse p.identifier)).peer
after_of s p send = (ask_of s 0 p nobody 11 0).peer
after_of s p (step d) = (tick_of s p d).peer

unfoldable pub run_of : Settings → Record → List Tried → Record
run_of s p [] = p
run_of s p (e ∷ es) = run_of s (after_of s p e) es

-- "answered before the maximum": no step reports kind 5
abbrev pub Timely : Settings → Record → Tried → Type 0
Timely s p (request k group kind current) = Unit
Timely s p (answer k) = Unit
Timely s p send = Unit
Timely s p (step d) = eqb (tick_of s p d).report 5 ≡ false

unfoldable pub InTime : Settings → Record → List Tried → Type 0
InTime s p [] = Unit
InTime s p (e ∷ es) = Timely s p e × InTime s (after_of s p e) es

-- a record of an access point in State 4: its exchange has no time, and there is no hold; no query to it has timed out
pub record Quiet (p : Record) : Type 0 where
  pub four : p.state ≡ 4
  pub idle : p.left ≡ 0
  pub free : p.hold ≡ 0
  pub waits : is_timed_out p.query ≡ false

still_quiet : {p q : Record} → Quiet p → Stays p q → is_timed_out q.query ≡ false → Quiet q
still_quiet w t o = record { four = t.state ∙ w.four; idle = t.left ∙ w.idle; free = t.hold ∙ w.free; waits = o }

sent_open : (q : Query) → is_timed_out q ≡ false → is_timed_out (sent_query q) ≡ false
sent_open query.None h = h
sent_open (query.Running left due) h = h
sent_open query.TimedOut h = h

timed_open : (s : Settings) (q : Query) (d : ℕ) → is_timed_out q ≡ false → eqb (query_report s q d) 5 ≡ false → is_timed_out (query_timed s q d) ≡ false
unfolding running_report running_timed
timed_open s query.None d h e = h
timed_open s (query.Running left due) d h e = by_bool (leb left d) (λ l. wrong (sym (rw l at e))) (λ l. rw l)
timed_open s query.TimedOut d h e = h

module _ (s : Settings) (g : Guarded s) where
  stepped : (p : Record) → Quiet p → (d : ℕ) → tick_of s p d ≡ record { peer = queried_of p (query_timed s p.query d) p.identifier; report = query_report s p.query d }
  unfolding tick_of timed_of queried_timed reported_of freed_of changed_of queried_of query_in
  stepped p w d =
      let z : p.hold - d ≡ p.hold = let h = w.free in omega arith in
      rw (w.idle, z, w.four)

  abbrev Held : Record → Record → Type 0
  Held p q = Stays p q × (is_timed_out q.query ≡ false)

  answered : (p : Record) → Quiet p → (k : FrameClass) → Held p (hear_of s p k false (heard.QueryResponse p.identifier)).peer
  unfolding hear_of still_of replied_of turn_of query_response_heard queried_of
  answered p w k =
      pick_both (λ (t : Turn). Held p t.peer) (not (passes_of s.role k p.state)) (same, w.waits)
      (pick_both (λ (t : Turn). Held p t.peer) (eqb p.state 4 && (is_running p.query && eqb p.identifier p.identifier))
      (record { address = refl; state = refl; exchange = refl; left = refl; hold = refl }, refl) (same, w.waits))

  sent : (p : Record) → Quiet p → Held p (ask_of s 0 p nobody 11 0).peer
  unfolding ask_of inquired_of turn_of queried_of
  sent p w = (record { address = refl; state = refl; exchange = refl; left = refl; hold = refl }, sent_open p.query w.waits)

  waited : (p : Record) → Quiet p → (d : ℕ) → eqb (tick_of s p d).report 5 ≡ false → Held p (tick_of s p d).peer
  unfolding queried_of
  waited p w d t =
      rw (stepped p w d)
      (record { address = refl; state = refl; exchange = refl; left = refl; hold = refl }, timed_open s p.query d w.waits (rw (stepped p w d) at t))

  each : (p : Record) → Quiet p → (e : Tried) → Timely s p e → Held p (after_of s p e)
  each p w (request k group kind current) t = let u = unmoved s g p w.four w.waits k group kind current in (u.stays, u.unmarked)
  each p w (answer k) t = answered p w k
  each p w send t = sent p w
  each p w (step d) t = waited p w d t

  pub answered_stays : (p : Record) → Quiet p → (es : List Tried) → InTime s p es → Stays p (run_of s p es)
  unfolding run_of InTime
  answered_stays p w [] t = same
  answered_stays p w (e ∷ es) t =
      let a = each p w e t.0 in
      let b = answered_stays (after_of s p e) (still_quiet w a.0 a.1) es t.1 in
      record {
        address = b.address ∙ a.0.address;
        state = b.state ∙ a.0.state;
        exchange = b.exchange ∙ a.0.exchange;
        left = b.left ∙ a.0.left;
        hold = b.hold ∙ a.0.hold;
      }

  -- a request that passes leaves such a record
  let_in_quiet :
      (p : Record) → p.state ≡ 4 → p.hold ≡ 0 → is_timed_out p.query ≡ true → (k : FrameClass) (kind : Kind) (current : ℕ) → passes_of s.role k 4 ≡ true
      → Quiet (hear_of s p k false (heard.Request kind current)).peer
  unfolding requested_of passed_of queried_of begun_of changed_of turn_of
  let_in_quiet p four free out k kind current through =
      let is = passes s g p four out k kind current through in
      record { four = rw is four; idle = rw is refl; free = rw is free; waits = rw (one_passes s g p four out k kind current through).2 refl }

  -- "After kind 5 the next request passes and clears the mark": until a query has timed out again, no later one moves what that one left.
  pub exactly_one :
      (p : Record) → p.state ≡ 4 → p.hold ≡ 0 → is_timed_out p.query ≡ true → (k : FrameClass) (kind : Kind) (current : ℕ) → passes_of s.role k 4 ≡ true
      → (es : List Tried) → InTime s (hear_of s p k false (heard.Request kind current)).peer es
      → Stays (hear_of s p k false (heard.Request kind current)).peer (run_of s (hear_of s p k false (heard.Request kind current)).peer es)
  exactly_one p four free out k kind current through es = answered_stays _ (let_in_quiet p four free out k kind current through) es

-- ---- The hypotheses are met: two queries, each answered, the second after its request was sent again; the peer stays as it was.

abbrev tried : List Tried
tried =
    request class.Two false Association 0 ∷ send ∷ step 999 ∷ answer class.Three ∷ request class.Two false Reassociation 6 ∷ send ∷ step 200
    ∷ request class.Two false Association 0 ∷ step 1 ∷ send ∷ answer class.Three ∷ []

in_time : InTime site (joined query.None 0) tried
unfolding InTime hear_of role_associates request_heard is_challenged challenged_of querying_of queried_of running_of stepped_of turn_of query_response_heard ask_of inquired_of tick_of timed_of queried_timed reported_of freed_of changed_of query_in running_report running_timed reaches
in_time = (tt, (tt, (refl, (tt, (tt, (tt, (refl, (tt, (refl, (tt, (tt, tt)))))))))))

tried_stays : Stays (joined query.None 0) (run_of site (joined query.None 0) tried)
tried_stays = answered_stays site guarded (joined query.None 0) (record { four = refl; idle = refl; free = refl; waits = refl }) tried in_time

-- the second query has the next identifier
tried_ends : run_of site (joined query.None 0) tried ≡ joined query.None 2
unfolding run_of hear_of role_associates request_heard is_challenged challenged_of querying_of queried_of running_of stepped_of turn_of query_response_heard ask_of inquired_of tick_of timed_of queried_timed reported_of freed_of changed_of query_in running_report running_timed reaches
tried_ends = refl

-- after one that timed out a request passes, and two more do not
abbrev let_in : Record
let_in = (hear_of site (joined query.TimedOut 1) class.Two false (heard.Request Reassociation 6)).peer

then_none : Stays let_in (run_of site let_in (request class.Two false Association 0 ∷ request class.Two false Reassociation 6 ∷ []))
unfolding InTime role_associates
then_none =
    exactly_one site guarded (joined query.TimedOut 1) refl refl refl class.Two Reassociation 6 refl
    (request class.Two false Association 0 ∷ request class.Two false Reassociation 6 ∷ []) (tt, (tt, tt))

-- unanswered it times out
unanswered : run_of site (joined query.None 0) (request class.Two false Association 0 ∷ send ∷ step 1000 ∷ []) ≡ joined query.TimedOut 1
unfolding run_of hear_of role_associates request_heard is_challenged challenged_of querying_of queried_of running_of stepped_of turn_of ask_of inquired_of tick_of timed_of queried_timed freed_of changed_of query_in running_timed
unanswered = refl
