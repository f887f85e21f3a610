-- 02, K2, "Two rules for a rejected association", at one peer: what the editions share, over the edition.
--     rejects-alike                         a rejection ends the exchange, and the frame and all else but the state are the same
--     hears-alike, ticks-alike, asks-alike  no clock step, no other primitive, and no frame but a (re)association request in State 4 (02, K5) looks
--                                           at the edition or the flag
--     station-hears-alike                   at a station and in an ad hoc network no frame at all
-- Assumes nothing.
use Rattle.std.proofs.Common.{◌≡◌, ℕ, Bool, true, false, ◌&&◌, eqb, refl, eqb-true}
use borrow.Author.Tests.{not-false}
use Rattle.octets.proofs.Branch.{by_bool}
use Rattle.octets.specs.declared.class.FrameClass.TheVariants as class
use Rattle.octets.specs.declared.class.FrameClass.{FrameClass}
use Rattle.octets.specs.declared.heard.Heard.TheVariants as heard
use Rattle.octets.specs.declared.heard.Heard.{Heard}
use Rattle.peer.specs.Ask.{answer_of, ask_of, associate_of, awaited_of, deauthenticate_of, declined_of, disassociate_of, failed_of, reassociate_of, report_of, respond_of, secure_of, started_of}
use Rattle.peer.specs.Association.{accepted_of, rejected_of, request_heard, response_heard}
use Rattle.peer.specs.Authentication.{authentication_answered, authentication_asked, authentication_heard, full_of, requested_of}
use Rattle.peer.specs.Challenge.{inquired_of, is_challenged, query_request_heard, query_response_heard}
use Rattle.peer.specs.Farewell.{deauthentication_heard, disassociation_heard}
use Rattle.peer.specs.Filter.{barred_by, barred_of, filtered_of, request_barred}
use Rattle.peer.specs.Hear.{act_of, group_heard, hear_of}
use Rattle.peer.specs.Query.{query_report, query_timed, reaches, running_report, running_timed}
use Rattle.peer.specs.Record.{changed_of}
use Rattle.peer.specs.Reply.{authentication_to, deauthentication_to, disassociation_to, network_address, query_to, request_to, response_to, send_of}
use Rattle.peer.specs.Settings.{ap}
use Rattle.peer.specs.Tick.{queried_timed, reported_of, tick_of, timed_of}
use Rattle.peer.specs.Turn.{begun_of, ended_of, none, nothing_told, replied_of, sole_of, still_of, turn_of}
use Rattle.peer.specs.declared.query.Query.TheVariants as query
use Rattle.peer.specs.declared.query.Query.{Query}
use Rattle.peer.specs.declared.exchange.Exchange.TheVariants.{None}
use Rattle.peer.specs.declared.record.Record.{Record}
use Rattle.peer.specs.declared.refuse.Others.{Others}
use Rattle.peer.specs.declared.settings.Settings.{Settings}
use Rattle.peer.proofs.Editions.{declines, kind_asked, rejects}

-- The same settings in another edition, with another flag.
unfoldable pub in_edition : Settings → ℕ → ℕ → Settings
in_edition s edition protection =
    record {
      own = s.own;
      network = s.network;
      authentication = s.authentication;
      association = s.association;
      role = s.role;
      rsna = s.rsna;
      edition = edition;
      protection = protection;
      retry = s.retry;
      maximum = s.maximum;
    }

-- 02, K5: "a (re)association request from a peer in State 4"
abbrev pub may_be_forged : Record → Heard → Bool
may_be_forged p heard.Other = false
may_be_forged p (heard.Authentication algorithm transaction status) = false
may_be_forged p (heard.Deauthentication reason) = false
may_be_forged p (heard.Disassociation reason) = false
may_be_forged p (heard.Request kind current) = eqb p.state 4
may_be_forged p (heard.Response kind status aid c) = false
may_be_forged p (heard.QueryRequest identifier) = false
may_be_forged p (heard.QueryResponse identifier) = false

-- in another state none is met by a query
not_challenged : (s : Settings) (p : Record) → eqb p.state 4 ≡ false → is_challenged s p ≡ false
unfolding is_challenged
not_challenged s p e = rw e (neither (eqb s.edition 2) (eqb s.protection 1))
  where
    neither : (a b : Bool) → (a && (b && false)) ≡ false
    neither true true = refl
    neither true false = refl
    neither false b = refl

module _ (s : Settings) (edition protection : ℕ) (p : Record) where
  abbrev other : Settings
  other = in_edition s edition protection

  filtered_alike : (k : FrameClass) → filtered_of other p k ≡ filtered_of s p k
  unfolding in_edition deauthentication_to disassociation_to send_of network_address
  filtered_alike class.None = refl
  filtered_alike class.One = refl
  filtered_alike class.Two = refl
  filtered_alike class.Three = refl

  barred_alike : (k : FrameClass) (h : Heard) → barred_by other p k h ≡ barred_by s p k h
  unfolding in_edition request_barred response_to send_of network_address
  barred_alike k heard.Other = filtered_alike k
  barred_alike k (heard.Authentication algorithm transaction status) = filtered_alike k
  barred_alike k (heard.Deauthentication reason) = filtered_alike k
  barred_alike k (heard.Disassociation reason) = filtered_alike k
  barred_alike k (heard.Request kind current) = rw (filtered_alike k)
  barred_alike k (heard.Response kind status aid c) = filtered_alike k
  barred_alike k (heard.QueryRequest identifier) = filtered_alike k
  barred_alike k (heard.QueryResponse identifier) = filtered_alike k

  act_alike : (h : Heard) → may_be_forged p h ≡ false → act_of other p h ≡ act_of s p h
  unfolding in_edition query_request_heard query_response_heard query_to still_of replied_of turn_of sole_of begun_of ended_of authentication_heard authentication_asked authentication_answered requested_of deauthentication_heard disassociation_heard request_heard response_heard accepted_of rejected_of authentication_to send_of network_address
  act_alike heard.Other e = refl
  act_alike (heard.Authentication algorithm transaction status) e = refl
  act_alike (heard.Deauthentication reason) e = refl
  act_alike (heard.Disassociation reason) e = refl
  act_alike (heard.Request k current) e = rw (not_challenged other p e, not_challenged s p e)
  act_alike (heard.Response k status aid c) e = refl
  act_alike (heard.QueryRequest identifier) e = refl
  act_alike (heard.QueryResponse identifier) e = refl

  -- No other frame, a rejection that a station hears among them.
  pub hears_alike : (k : FrameClass) (group : Bool) (h : Heard) → may_be_forged p h ≡ false → hear_of other p k group h ≡ hear_of s p k group h
  unfolding in_edition hear_of group_heard barred_of replied_of still_of turn_of
  hears_alike k group h e = rw (barred_alike k h, act_alike h e)

  -- Away from an access point, where no such request is answered, not even that one.
  station_act : eqb s.role ap ≡ false → (h : Heard) → act_of other p h ≡ act_of s p h
  unfolding in_edition request_heard still_of replied_of turn_of
  station_act r heard.Other = act_alike heard.Other refl
  station_act r (heard.Authentication algorithm transaction status) = act_alike (heard.Authentication algorithm transaction status) refl
  station_act r (heard.Deauthentication reason) = act_alike (heard.Deauthentication reason) refl
  station_act r (heard.Disassociation reason) = act_alike (heard.Disassociation reason) refl
  station_act r (heard.Request k current) = rw r
  station_act r (heard.Response k status aid c) = act_alike (heard.Response k status aid c) refl
  station_act r (heard.QueryRequest identifier) = act_alike (heard.QueryRequest identifier) refl
  station_act r (heard.QueryResponse identifier) = act_alike (heard.QueryResponse identifier) refl

  pub station_hears_alike : eqb s.role ap ≡ false → (k : FrameClass) (group : Bool) (h : Heard) → hear_of other p k group h ≡ hear_of s p k group h
  unfolding in_edition hear_of group_heard barred_of replied_of still_of turn_of
  station_hears_alike r k group h = rw (barred_alike k h, station_act r h)

  pub full_alike : full_of other p ≡ full_of s p
  unfolding in_edition full_of replied_of turn_of authentication_to send_of network_address
  full_alike = refl

  timed_alike : (d : ℕ) → timed_of other p d ≡ timed_of s p d
  unfolding in_edition timed_of ended_of
  timed_alike d = refl

  query_timed_alike : (q : Query) (d : ℕ) → query_timed other q d ≡ query_timed s q d
  unfolding in_edition running_timed reaches
  query_timed_alike query.None d = refl
  query_timed_alike (query.Running left due) d = refl
  query_timed_alike query.TimedOut d = refl

  query_report_alike : (q : Query) (d : ℕ) → query_report other q d ≡ query_report s q d
  unfolding in_edition running_report reaches
  query_report_alike query.None d = refl
  query_report_alike (query.Running left due) d = refl
  query_report_alike query.TimedOut d = refl

  -- No clock step.
  pub ticks_alike : (d : ℕ) → tick_of other p d ≡ tick_of s p d
  unfolding tick_of queried_timed reported_of
  ticks_alike d = rw (timed_alike d, query_timed_alike (timed_of s p d).peer.query d, query_report_alike (timed_of s p d).peer.query d)

  -- No primitive but a rejection.
  pub asks_alike : (aid : ℕ) (o : Others) (q code : ℕ) → rejects q code ≡ false → ask_of other aid p o q code ≡ ask_of s aid p o q code
  unfolding in_edition ask_of started_of answer_of deauthenticate_of associate_of reassociate_of failed_of disassociate_of respond_of awaited_of secure_of report_of inquired_of query_to turn_of ended_of request_to authentication_to deauthentication_to disassociation_to response_to send_of network_address
  asks_alike aid o q code n =
      by_bool (eqb q 7)
      (λ e. let z = eqb-true q 7 e in rw (z, not-false (eqb code 0) (rw z at n)))
      (λ e. by_bool (eqb q 8) (λ f. let z = eqb-true q 8 f in rw (z, not-false (eqb code 0) (rw z at n))) (λ f. rw (e, f)))

  -- And a rejection is one turn in every edition, but for the state that it ends in: the exchange ends, the hold stays, the frame is the same.
  pub rejects_alike :
      (aid : ℕ) (o : Others) (q code : ℕ) → rejects q code ≡ true
      → ask_of other aid p o q code
      ≡ turn_of s p (changed_of p (ask_of other aid p o q code).peer.state None 0 p.hold) none nothing_told (response_to s p.address (kind_asked q) code 0)
  unfolding in_edition declined_of turn_of ended_of changed_of response_to send_of network_address
  rejects_alike aid o q code r = rw (declines other aid p o q code r)
