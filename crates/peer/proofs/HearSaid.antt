-- Demand 2's round trip, of the replies to a frame: what the other end hears of one is what document 01 says (`replied_says`), by the class of the
-- frame, what it says, the peer's state and the query to it, with its addresses and every other octet (`hear_said`; `full_said` where no place is free).
-- Assumes nothing.
use Rattle.std.specs.Prelude.{Some, None}
use Rattle.std.proofs.Common.{◌≡◌, ℕ, ◌≤◌, Bool, true, false, not, ◌&&◌, ◌||◌, eqb, ltb, leb, List, [], ◌∷◌, sym, refl, arith, eqb-true, leb-false}
use borrow.Author.Tests.{not-true, not-false}
use Rattle.octets.proofs.Below.{heard_fits}
use Rattle.octets.proofs.Branch.{and_left, and_right, by_bool, pick_both, pick_by}
use Rattle.octets.specs.Address.{valid_of}
use Rattle.octets.specs.Class.{class_in, classless, class_of, is_public_action, number_of}
use Rattle.octets.specs.Field.{all_octets, octets}
use Rattle.octets.specs.Frame.{aid_field, body_of, bytes_of, capability_of, head_of}
use Rattle.octets.specs.Heard.{heard_of}
use Rattle.octets.specs.Read.{HeardFits, association_later, association_response, authentication, deauthentication, disassociation, query_response, reassociation_later, reassociation_response}
use Rattle.octets.specs.declared.class.FrameClass.TheVariants as class
use Rattle.octets.specs.declared.class.FrameClass.{FrameClass}
use Rattle.octets.specs.declared.heard.Heard.TheVariants as heard
use Rattle.octets.specs.declared.heard.Heard.{Heard}
use Rattle.octets.specs.declared.heard.Kind.TheVariants.{Association, Authentication, Reassociation}
use Rattle.octets.specs.declared.heard.Kind.{Kind}
use Rattle.peer.specs.Association.{accepted_of, rejected_of, response_heard}
use Rattle.peer.specs.Authentication.{full_of, requested_of}
use Rattle.peer.specs.Challenge.{challenged_of, is_challenged, query_request_heard, query_response_heard}
use Rattle.peer.specs.Codes.{last_aid}
use Rattle.peer.specs.Farewell.{deauthentication_heard, disassociation_heard}
use Rattle.peer.specs.Filter.{barred_by, barred_of, filtered_of, passes_of, request_barred}
use Rattle.peer.specs.Hear.{act_of, group_heard, hear_of, is_exchange, is_query}
use Rattle.peer.specs.Query.{is_running, query_left, running_of}
use Rattle.peer.specs.Record.{changed_of, fresh_of, is_associating, kind_of, queried_of, sent_of, under_way}
use Rattle.peer.specs.Reply.{authentication_to, deauthentication_to, disassociation_to, later_to, network_address, query_to, response_to, send_of}
use Rattle.peer.specs.Said.{ReadsTo, Speaks, barred_says, replied_says}
use Rattle.peer.specs.Settings.{ap, network_fits, query_times_fit, role_associates, settings_fit, time_fits}
use Rattle.peer.specs.Turn.{begun_of, ended_of, replied_of, sole_of, still_of, turn_of}
use Rattle.peer.specs.declared.record.Record.{Record}
use Rattle.peer.specs.declared.settings.Settings.{Settings}
use Rattle.peer.specs.declared.turn.Turn.{Turn}
use Rattle.peer.proofs.Classes.{Classed, classed}
use Rattle.peer.proofs.Fits.{and_none, wrong}
use Rattle.peer.proofs.QueryFits.{maximum_short, running_short}
use Rattle.peer.proofs.Roles.{authentication_by, barred_by_lem, request_barred_by, request_by}
use Rattle.peer.proofs.Sent.{capability_below, sent}

-- ---- the replies

module _ (s : Settings) (fit : settings_fit s ≡ true) (p : Record) (valid : valid_of p.address ≡ true) (low : 1 ≤ p.state) (soon : query_left p.query ≤ 65535) where
  -- a frame that its class keeps out
  filtered : (k : FrameClass) → Speaks s p.address (barred_says (number_of k) p.state) (filtered_of s p k)
  unfolding deauthentication_to disassociation_to
  filtered class.None = tt
  filtered class.One = tt
  filtered class.Two = sent s fit p.address valid deauthentication (omega arith) (omega arith)
  filtered class.Three = by_bool (eqb p.state 1)
      (λ e. rw e (sent s fit p.address valid deauthentication (omega arith) (omega arith)))
      (λ e. rw e (sent s fit p.address valid disassociation (omega arith) (omega arith)))

  refused : (k : Kind) → is_associating k ≡ true → Speaks s p.address (heard.Response k 1 0 None) (response_to s p.address k 1 0)
  unfolding response_to
  refused Authentication a = wrong a
  refused Association a = sent s fit p.address valid association_response (omega arith) (capability_below s.rsna, omega arith, omega arith)
  refused Reassociation a = sent s fit p.address valid reassociation_response (omega arith) (capability_below s.rsna, omega arith, omega arith)

  later : (k : Kind) (time : ℕ) → is_associating k ≡ true → time ≤ 65535 → Speaks s p.address (heard.Response k 30 0 (Some time)) (later_to s p.address k 30 time)
  unfolding later_to
  later Authentication time a l = wrong a
  later Association time a l = sent s fit p.address valid association_later (omega arith) (capability_below s.rsna, omega arith, omega arith)
  later Reassociation time a l = sent s fit p.address valid reassociation_later (omega arith) (capability_below s.rsna, omega arith, omega arith)

  -- a frame that is kept out in State 4 has no class, and is not answered
  none_four :
      (k : FrameClass) (w : Heard) → role_associates s.role ≡ true → passes_of s.role k p.state ≡ false → eqb p.state 4 ≡ true
      → Speaks s p.address w (filtered_of s p k)
  none_four class.None w on e four = tt
  none_four class.One w on e four = tt
  none_four class.Two w on e four = wrong (sym (rw (on, eqb-true p.state 4 four) at e))
  none_four class.Three w on e four = wrong (sym (rw (on, eqb-true p.state 4 four) at e))

  -- class 2 is kept out in State 1 only
  state_one : leb 2 p.state ≡ false → p.state ≡ 1
  state_one e = let h = leb-false 2 p.state e in omega arith

  request_barred_lem : (k : Kind) (current : ℕ) → is_associating k ≡ true → leb 2 p.state ≡ false → Speaks s p.address (replied_says s p.state p.query 2 (heard.Request k current)) (request_barred s p class.Two k)
  request_barred_lem k current a e =
      request_barred_by s p (Speaks s p.address (replied_says s p.state p.query 2 (heard.Request k current))) class.Two k
      (λ r. rw (r, state_one e) (refused k a))
      (λ r. rw (r, state_one e) (filtered class.Two))

  barred :
      (k : FrameClass) (h : Heard) → Classed k h → role_associates s.role ≡ true → passes_of s.role k p.state ≡ false
      → Speaks s p.address (replied_says s p.state p.query (number_of k) h) (barred_by s p k h)
  barred k heard.Other c on e = filtered k
  barred k (heard.Authentication algorithm transaction status) c on e = wrong (sym (rw c at e))
  barred k (heard.Deauthentication reason) c on e = filtered k
  barred k (heard.Disassociation reason) c on e = filtered k
  barred k (heard.Request kind current) c on e = rw c.0 (request_barred_lem kind current c.1 (rw (c.0, on) at e))
  barred k (heard.Response kind status aid comeback) c on e = filtered k
  barred k (heard.QueryRequest identifier) c on e = by_bool (eqb p.state 4) (λ four. none_four k _ on e four) (λ four. rw four (filtered k))
  barred k (heard.QueryResponse identifier) c on e = filtered k

  -- a frame that passes
  abbrev Turned : Heard → Turn → Type 0
  Turned w t = Speaks s p.address w t.reply

  challenged : (n current : ℕ) (k : Kind) → is_associating k ≡ true → is_challenged s p ≡ true → Turned (replied_says s p.state p.query n (heard.Request k current)) (challenged_of s p k)
  unfolding is_challenged challenged_of turn_of
  challenged n current k a c =
      let b = and_right (eqb s.protection 1) _ (and_right (eqb s.edition 2) _ c) in
      let four = and_left (eqb p.state 4) _ b in
      let one = and_none (eqb s.role ap) (eqb p.state 1) (rw (eqb-true p.state 4 four)) in
      rw (one, four) (later k (query_left (running_of s p.query)) a (running_short s p.query soon (maximum_short s fit)))

  acted : (k : FrameClass) (h : Heard) → Classed k h → HeardFits h → Turned (replied_says s p.state p.query (number_of k) h) (act_of s p h)
  unfolding query_request_heard query_response_heard query_to still_of replied_of turn_of requested_of deauthentication_heard disassociation_heard response_heard accepted_of rejected_of sole_of authentication_to
  acted k heard.Other c f = tt
  acted k (heard.Authentication a t st) c f =
      authentication_by s p (Turned (replied_says s p.state p.query (number_of k) (heard.Authentication a t st))) a t st (λ r z. tt)
      (λ z. rw z (sent s fit p.address valid authentication (omega arith) (f.0, omega arith, omega arith))) (λ e. tt) tt
  acted k (heard.Deauthentication r) c f = pick_both (Turned _) (ltb p.state 2) tt tt
  acted k (heard.Disassociation r) c f = pick_both (Turned _) (ltb p.state 3) tt tt
  acted k (heard.Request kind current) c f =
      request_by s p (Turned (replied_says s p.state p.query (number_of k) (heard.Request kind current))) kind current
      (λ r e. challenged (number_of k) current kind c.1 e) (λ r. tt) tt
  acted k (heard.Response kind st aid comeback) c f =
      pick_both (Turned _) (eqb (sent_of p.exchange) (kind_of kind))
      (pick_both (Turned _) (eqb st 0) (pick_both (Turned _) (eqb aid 0 || ltb last_aid aid) tt tt) tt)
      tt
  acted k (heard.QueryRequest identifier) c f =
      pick_by (Turned _) (eqb p.state 4) (λ e. rw e (sent s fit p.address valid query_response (omega arith) f)) (λ e. tt)
  acted k (heard.QueryResponse identifier) c f =
      pick_both (Turned _) (eqb p.state 4 && (is_running p.query && eqb identifier p.identifier)) tt tt

  heard_said : (k : FrameClass) (group : Bool) (h : Heard) → Classed k h → HeardFits h → Turned (replied_says s p.state p.query (number_of k) h) (hear_of s p k group h)
  unfolding hear_of group_heard replied_of still_of turn_of
  heard_said k group h c f =
      let w = replied_says s p.state p.query (number_of k) h in
      pick_by (Turned w) (not (passes_of s.role k p.state))
      (λ e. barred_by_lem s p (Speaks s p.address w) k group h tt (λ on. barred k h c on (not-true _ e)))
      (λ e. pick_both (Turned w) group (pick_both (Turned w) (is_exchange h) tt (pick_both (Turned w) (is_query h) tt (acted k h c f))) (acted k h c f))

  -- The reply to a frame xs that has a class, where there are access points (i) and where there are none.
  pub hear_said :
      (i : Bool) (xs : List ℕ) → all_octets xs ≡ true → classless (class_in i xs) ≡ false → (group : Bool)
      → Speaks s p.address (replied_says s p.state p.query (number_of (class_in i xs)) (heard_of xs)) (hear_of s p (class_in i xs) group (heard_of xs)).reply
  hear_said i xs o k group = heard_said (class_in i xs) group (heard_of xs) (classed i xs k) (heard_fits xs o)

  -- ---- where no place is free

  -- A stranger's turn that begins an exchange, w in reply where there is no place for it.
  abbrev Filled : Heard → Turn → Type 0
  Filled w t = eqb (under_way t.peer.exchange) 0 ≡ false → Speaks s p.address w (full_of s p).reply

  module _ (idle : under_way p.exchange ≡ 0) (one : p.state ≡ 1) where
    none_begun : {P : Type 0} → eqb (under_way p.exchange) 0 ≡ false → P
    none_begun n = wrong (sym (rw idle at n))

    acted_full : (k : FrameClass) (h : Heard) → Classed k h → passes_of s.role k p.state ≡ true → Filled (replied_says s p.state p.query (number_of k) h) (act_of s p h)
    unfolding query_request_heard query_response_heard queried_of still_of replied_of turn_of requested_of begun_of ended_of changed_of deauthentication_heard disassociation_heard response_heard accepted_of rejected_of sole_of authentication_to full_of
    acted_full k heard.Other c e = none_begun
    acted_full k (heard.Authentication a t st) c e =
        authentication_by s p (Filled (replied_says s p.state p.query (number_of k) (heard.Authentication a t st))) a t st
        (λ r z n. rw (eqb-true a 0 z) (sent s fit p.address valid authentication (omega arith) (omega arith, omega arith, omega arith)))
        (λ z. none_begun) (λ e n. wrong (sym n)) none_begun
    acted_full k (heard.Deauthentication r) c e = pick_both (Filled _) (ltb p.state 2) none_begun (λ n. wrong (sym n))
    acted_full k (heard.Disassociation r) c e = pick_both (Filled _) (ltb p.state 3) none_begun (λ n. wrong (sym n))
    acted_full k (heard.Request kind current) c e = wrong (and_right (role_associates s.role) _ (rw (c.0, one) at e))
    acted_full k (heard.Response kind st aid comeback) c e =
        pick_both (Filled _) (eqb (sent_of p.exchange) (kind_of kind))
        (pick_both (Filled _) (eqb st 0) (pick_both (Filled _) (eqb aid 0 || ltb last_aid aid) none_begun (λ n. wrong (sym n))) (λ n. wrong (sym n)))
        none_begun
    acted_full k (heard.QueryRequest identifier) c e = pick_both (Filled _) (eqb p.state 4) none_begun none_begun
    acted_full k (heard.QueryResponse identifier) c e =
        pick_both (Filled _) (eqb p.state 4 && (is_running p.query && eqb identifier p.identifier)) none_begun none_begun

    -- The reply to a stranger's frame xs that would begin an exchange.
    pub full_said :
        (i : Bool) (xs : List ℕ) → classless (class_in i xs) ≡ false → (group : Bool)
        → eqb (under_way (hear_of s p (class_in i xs) group (heard_of xs)).peer.exchange) 0 ≡ false
        → Speaks s p.address (replied_says s p.state p.query (number_of (class_in i xs)) (heard_of xs)) (full_of s p).reply
    unfolding hear_of group_heard replied_of still_of turn_of
    full_said i xs k group =
        let w = replied_says s p.state p.query (number_of (class_in i xs)) (heard_of xs) in
        pick_by (Filled w) (not (passes_of s.role (class_in i xs) p.state))
        (λ e. none_begun)
        (λ e.
        let acts = acted_full (class_in i xs) (heard_of xs) (classed i xs k) (not-false _ e) in
        pick_both (Filled w) group (pick_both (Filled w) (is_exchange (heard_of xs)) none_begun (pick_both (Filled w) (is_query (heard_of xs)) none_begun acts)) acts)

-- An example: an AP, own address 0a, hears a reassociation request of a stranger, 0e.
abbrev home : Settings
home = record { role = 1; own = 0x0a; network = 0; rsna = 0; authentication = 10; association = 10; edition = 1; protection = 0; retry = 201; maximum = 1000 }

abbrev asking : List ℕ
asking =
    0x20 ∷ 0 ∷ 0 ∷ 0 ∷ 0x0a ∷ 0 ∷ 0 ∷ 0 ∷ 0 ∷ 0 ∷ 0x0e ∷ 0 ∷ 0 ∷ 0 ∷ 0 ∷ 0 ∷ 0x0a ∷ 0 ∷ 0 ∷ 0 ∷ 0 ∷ 0 ∷ 0 ∷ 0 ∷
    0x01 ∷ 0 ∷ 10 ∷ 0 ∷ 0x0c ∷ 0 ∷ 0 ∷ 0 ∷ 0 ∷ 0 ∷ []

answered :
    ReadsTo home 0x0e (heard.Response Reassociation 1 0 None)
    (0x30 ∷ 0 ∷ 0 ∷ 0 ∷ 0x0e ∷ 0 ∷ 0 ∷ 0 ∷ 0 ∷ 0 ∷ 0x0a ∷ 0 ∷ 0 ∷ 0 ∷ 0 ∷ 0 ∷ 0x0a ∷ 0 ∷ 0 ∷ 0 ∷ 0 ∷ 0 ∷ 0 ∷ 0 ∷
    0x01 ∷ 0 ∷ 1 ∷ 0 ∷ 0 ∷ 0 ∷ [])
unfolding hear_of replied_of turn_of barred_of request_barred response_to send_of network_address capability_of aid_field bytes_of head_of body_of octets settings_fit query_times_fit time_fits network_fits role_associates valid_of fresh_of class_in class_of is_public_action heard_of
answered = (hear_said home refl (fresh_of 0x0e) refl (omega arith) (omega arith) true asking refl refl false).1
