-- 01, Settings, table, clock, of "Well formed": "Each step keeps this." A frame, at one peer.
-- Assumes nothing.
use Rattle.std.specs.Prelude.{Option, Some, None}
use Rattle.std.proofs.Common.{◌≡◌, ℕ, ◌≤◌, Bool, true, false, not, ◌&&◌, ◌||◌, eqb, ltb, leb, sym, refl, arith, le-leb}
use borrow.Author.Tests.{not-false}
use Rattle.octets.proofs.Branch.{by_bool}
use Rattle.octets.specs.Class.{classless}
use Rattle.octets.specs.Read.{ComebackFits, HeardFits}
use Rattle.octets.specs.declared.class.FrameClass.{FrameClass}
use Rattle.octets.specs.declared.frame.Frame.{Frame}
use Rattle.octets.specs.declared.heard.Heard.TheVariants as heard
use Rattle.octets.specs.declared.heard.Heard.{Heard}
use Rattle.octets.specs.declared.heard.Kind.TheVariants.{Authentication}
use Rattle.octets.specs.declared.heard.Kind.{Kind}
use Rattle.peer.specs.Association.{accepted_of, comeback_hold, rejected_of, request_heard, response_heard}
use Rattle.peer.specs.Authentication.{answered_move, authentication_heard, requested_of}
use Rattle.peer.specs.Challenge.{challenged_of, is_challenged, passed_of, query_request_heard, query_response_heard, querying_of}
use Rattle.peer.specs.Farewell.{deauthentication_heard, disassociation_heard, dropped_hold}
use Rattle.peer.specs.Filter.{passes_of}
use Rattle.peer.specs.Fit.{asked_fits, hold_fits, stands}
use Rattle.peer.specs.Hear.{act_of, group_heard, hear_of, is_exchange, is_query}
use Rattle.peer.specs.Moves.{moved_of}
use Rattle.peer.specs.Query.{is_running, running_of, stepped_of, unmarked_of}
use Rattle.peer.specs.Record.{default_hold, is_sent, queried_of}
use Rattle.peer.specs.Settings.{ap, role_answers, role_asks, role_associates, settings_fit, station}
use Rattle.peer.specs.Turn.{ended_of, sole_of, turn_of}
use Rattle.peer.specs.declared.moves.Move.TheVariants as move
use Rattle.peer.specs.declared.query.Query.TheVariants as query
use Rattle.peer.specs.declared.exchange.Exchange.TheVariants.{Asked, None}
use Rattle.peer.specs.declared.record.Record.{Record}
use Rattle.peer.specs.declared.settings.Settings.{Settings}
use Rattle.peer.specs.declared.turn.Told.{Told}
use Rattle.peer.proofs.Fits.{Fits, both, clash, keeps_changed, keeps_on, keeps_queried, sent_asks, wrong}
use Rattle.peer.proofs.Classes.{Classed, passes_classed}
use Rattle.peer.proofs.Roles.{ap_answers, authentication_by, no_answers, request_by, station_asks}
use Rattle.peer.proofs.Moved.{moved_high, moved_low}
use Rattle.peer.proofs.Keeps.{Turns, answered_calm, begun, ended, queried, replied, still, stood, stood_any}
use Rattle.peer.proofs.QueryFits.{maximum_some, running_fits_lem, stepped_short, unmarked_fits}

-- a class lets a (re)association request pass in State 2 and above only, and a response only where the role takes part in associations
abbrev pub Backed : ℕ → FrameClass → Heard → Type 0
Backed role k heard.Other = Unit
Backed role k (heard.Authentication algorithm transaction status) = Unit
Backed role k (heard.Deauthentication reason) = Unit
Backed role k (heard.Disassociation reason) = Unit
Backed role k (heard.Request kind current) = (state : ℕ) → passes_of role k state ≡ true → (role_associates role && leb 2 state) ≡ true
Backed role k (heard.Response kind status aid comeback) = (state : ℕ) → passes_of role k state ≡ true → role_associates role ≡ true
Backed role k (heard.QueryRequest identifier) = Unit
Backed role k (heard.QueryResponse identifier) = Unit

-- so does the class of its kind
backed : (role : ℕ) (k : FrameClass) (h : Heard) → (classless k ≡ false → Classed k h) → Backed role k h
backed role k heard.Other c = tt
backed role k (heard.Authentication algorithm transaction status) c = tt
backed role k (heard.Deauthentication reason) c = tt
backed role k (heard.Disassociation reason) c = tt
backed role k (heard.Request kind current) c = λ state e. rw (c (passes_classed role k state e)).0 at e
backed role k (heard.Response kind status aid comeback) c = λ state e. (both (role_associates role) _ (rw (c (passes_classed role k state e)) at e)).0
backed role k (heard.QueryRequest identifier) c = tt
backed role k (heard.QueryResponse identifier) c = tt

-- the statement; what is heard has the class of its kind; a station sets a hold by what it hears, whose fields fit their octets; where the role
-- answers nothing more is asked of what is heard
abbrev pub FrameKeeps : Type 0
FrameKeeps =
    (s : Settings) (busy : Bool) (p : Record) → Fits s p → settings_fit s ≡ true → (k : FrameClass) (group : Bool) (h : Heard) → (classless k ≡ false → Classed k h)
    → (role_answers s.role ≡ false → HeardFits h) → Turns s busy p (hear_of s p k group h)

-- the hold of who asks is any in range, and a comeback gives one
asking_hold : (role hold : ℕ) → role_asks role ≡ true → hold ≤ 4294967295 → hold_fits role hold ≡ true
unfolding hold_fits
asking_hold role hold e l = rw (le-leb hold 4294967295 l, e)

comeback_hold_lem : (c : Option ℕ) → ComebackFits c → comeback_hold c ≤ 4294967295
comeback_hold_lem (Some tu) f = omega arith
comeback_hold_lem None f = omega arith

requested :
    (s : Settings) (busy : Bool) (p : Record) → Fits s p → (k : Kind) (current : ℕ) → role_answers s.role ≡ true → stands k s.role p.state ≡ true
    → Turns s busy p (requested_of s p k current)
unfolding requested_of asked_fits
requested s busy p f k current a st = begun f (Asked k) 0 _ _ _ (rw (a, st)) (λ b c j. clash a b)

module _ (s : Settings) (busy : Bool) (p : Record) (f : Fits s p) (fit : settings_fit s ≡ true) where
  authentication : (algorithm transaction status : ℕ) → Turns s busy p (authentication_heard s p algorithm transaction status)
  authentication algorithm transaction status =
      authentication_by s p (Turns s busy p) algorithm transaction status
      (λ a z. requested s busy p f Authentication 0 a (stood_any s.role p.state))
      (λ z. replied f _ _)
      (λ e. ended f (answered_move status) p.hold _ _ _ f.held (clash (answered_calm status)))
      (still f _)

  deauthentication : (reason : ℕ) → Turns s busy p (deauthentication_heard s p reason)
  unfolding deauthentication_heard
  deauthentication reason = by_bool (ltb p.state 2)
      (λ e. rw e (still f _))
      (λ e. rw e (ended f move.Deauthenticate p.hold _ _ _ f.held (clash refl)))

  dropped_fits : hold_fits s.role (dropped_hold s.role p.hold) ≡ true
  unfolding dropped_hold
  dropped_fits = by_bool (eqb s.role station)
      (λ e. rw e (asking_hold s.role default_hold (station_asks s.role e) (omega arith)))
      (λ e. rw e f.held)

  disassociation : (reason : ℕ) → Turns s busy p (disassociation_heard s p reason)
  unfolding disassociation_heard
  disassociation reason = by_bool (ltb p.state 3)
      (λ e. rw e (still f _))
      (λ e. rw e (ended f move.Drop (dropped_hold s.role p.hold) _ _ _ dropped_fits (clash refl)))

  -- a request that is met by a query: it comes from State 4
  challenged : (k : Kind) → eqb s.role ap ≡ true → is_challenged s p ≡ true → Turns s busy p (challenged_of s p k)
  unfolding challenged_of querying_of is_challenged
  challenged k a c =
      let b = both (eqb s.protection 1) _ (both (eqb s.edition 2) _ c).1 in
      let four = both (eqb p.state 4) _ b.1 in
      queried f (running_of s p.query) (stepped_of p.query p.identifier) _ _ _
      (stepped_short p.query p.identifier f.numbered)
      (running_fits_lem s p.state p.query (maximum_some s fit) a four.0 f.queries)

  -- a request that passes
  passed : (k : Kind) (current : ℕ) → role_answers s.role ≡ true → stands k s.role p.state ≡ true → Turns s busy p (requested_of s (passed_of p) k current)
  unfolding passed_of queried_of
  passed k current a st =
      let on = keeps_queried s busy p f (unmarked_of p.query) p.identifier f.numbered (unmarked_fits s p.state p.query f.queries) in
      keeps_on on (requested s busy (passed_of p) on.fits k current a st)

  request : (k : Kind) (current : ℕ) → (role_associates s.role && leb 2 p.state) ≡ true → Turns s busy p (request_heard s p k current)
  request k current two =
      request_by s p (Turns s busy p) k current (challenged k)
      (λ a. passed k current (ap_answers s.role a) (stood k s.role p.state two))
      (still f _)

  query_request : (identifier : ℕ) → Turns s busy p (query_request_heard s p identifier)
  unfolding query_request_heard
  query_request identifier = by_bool (eqb p.state 4) (λ e. rw e (replied f _ _)) (λ e. rw e (still f _))

  query_response : (identifier : ℕ) → Turns s busy p (query_response_heard s p identifier)
  unfolding query_response_heard
  query_response identifier = by_bool (eqb p.state 4 && (is_running p.query && eqb identifier p.identifier))
      (λ e. rw e (queried f query.None p.identifier _ _ _ f.numbered refl))
      (λ e. rw e (still f _))

  -- the one turn that raises a station's record to State 3 or 4: every other record leaves it
  joined : role_associates s.role ≡ true → (v : ℕ) (told : Told) (r : Option Frame) → Turns s busy p (sole_of (turn_of s p (ended_of s p move.Join p.hold) v told r))
  unfolding sole_of turn_of ended_of
  joined on v told r =
      keeps_changed s busy p f (moved_of s.rsna p.state move.Join) None 0 p.hold true
      (moved_low s.rsna p.state move.Join f.low) (moved_high s.role s.rsna p.state move.Join (λ n. on) f.high) f.held refl
      (λ a b j. wrong (sym b)) (λ a b j. wrong j)

  response :
      (k : Kind) (status aid : ℕ) (c : Option ℕ) → role_associates s.role ≡ true → (role_answers s.role ≡ false → ComebackFits c)
      → Turns s busy p (response_heard s p k status aid c)
  unfolding response_heard accepted_of rejected_of
  response k status aid c on u = by_bool (is_sent k p.exchange)
      (λ e.
      let here = sent_asks p.exchange k s.role p.state p.left f.suits e in
      by_bool (eqb status 0)
      (λ z. by_bool (eqb aid 0 || ltb 2007 aid)
      (λ w. rw (e, z, w) (still f _))
      (λ w. rw (e, z, w) (joined on _ _ _)))
      (λ z. rw (e, z) (ended f move.Drop (comeback_hold c) _ _ _ (asking_hold s.role (comeback_hold c) here (comeback_hold_lem c (u (no_answers s fit here on)))) (clash refl))))
      (λ e. rw e (still f _))

  act :
      (k : FrameClass) (h : Heard) → Backed s.role k h → (role_answers s.role ≡ false → HeardFits h) → passes_of s.role k p.state ≡ true
      → Turns s busy p (act_of s p h)
  act k heard.Other b u e = still f _
  act k (heard.Authentication algorithm transaction status) b u e = authentication algorithm transaction status
  act k (heard.Deauthentication reason) b u e = deauthentication reason
  act k (heard.Disassociation reason) b u e = disassociation reason
  act k (heard.Request kind current) b u e = request kind current (b p.state e)
  act k (heard.Response kind status aid c) b u e = response kind status aid c (b p.state e) (λ r. (u r).2)
  act k (heard.QueryRequest identifier) b u e = query_request identifier
  act k (heard.QueryResponse identifier) b u e = query_response identifier

  pub heard_keeps :
      (k : FrameClass) (group : Bool) (h : Heard) → Backed s.role k h → (role_answers s.role ≡ false → HeardFits h)
      → Turns s busy p (hear_of s p k group h)
  unfolding hear_of group_heard
  heard_keeps k group h b u = by_bool (not (passes_of s.role k p.state))
      (λ e. rw e (replied f _ _))
      (λ e. let acts : Turns s busy p (act_of s p h) = act k h b u (not-false _ e) in
      by_bool group
      (λ g. by_bool (is_exchange h) (λ x. rw (e, g, x) (still f _))
      (λ x. by_bool (is_query h) (λ y. rw (e, g, x, y) (still f _)) (λ y. rw (e, g, x, y) acts)))
      (λ g. rw (e, g) acts))

pub hear_keeps : FrameKeeps
hear_keeps s busy p f fit k group h c u = heard_keeps s busy p f fit k group h (backed s.role k h c) u
