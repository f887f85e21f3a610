-- Demand 2's round trip, of the frames that primitives send: what the other end hears of one is what document 01 says of its number, code, AID,
-- associated AP and identifier (`asked_says`), with its addresses and every other octet (`ask_said`).
-- Assumes nothing.
use Rattle.std.specs.Prelude.{None}
use Rattle.std.proofs.Common.{◌≡◌, ℕ, ◌^◌, ◌<◌, ◌≤◌, Bool, true, false, ◌||◌, eqb, ltb, [], ◌∷◌, refl, arith, eqb-true}
use Rattle.octets.proofs.Branch.{by_bool, pick_both}
use Rattle.octets.specs.Address.{valid_of}
use Rattle.octets.specs.Field.{octets}
use Rattle.octets.specs.Frame.{body_of, bytes_of, capability_of, head_of}
use Rattle.octets.specs.Links.{unlinked}
use Rattle.octets.specs.Pick.{pick}
use Rattle.octets.specs.Read.{BodyFits, Says, association_request, association_response, authentication, deauthentication, disassociation, query_request, reassociation_request, reassociation_response}
use Rattle.octets.specs.declared.frame.Body.TheVariants as body
use Rattle.octets.specs.declared.frame.Body.{Body}
use Rattle.octets.specs.declared.heard.Heard.TheVariants as heard
use Rattle.octets.specs.declared.heard.Heard.{Heard}
use Rattle.octets.specs.declared.heard.Kind.TheVariants.{Association, Reassociation}
use Rattle.octets.specs.declared.heard.Kind.{Kind}
use Rattle.peer.specs.Ask.{answer_of, ask_of, associate_of, awaited_of, deauthenticate_of, declined_of, disassociate_of, failed_of, reassociate_of, report_of, respond_of, secure_of, started_of}
use Rattle.peer.specs.Challenge.{inquired_of}
use Rattle.peer.specs.Reply.{authentication_to, deauthentication_to, disassociation_to, network_address, query_to, request_to, response_subtype, response_to, send_of}
use Rattle.peer.specs.Said.{ReadsTo, Speaks, asked_says}
use Rattle.peer.specs.Settings.{network_fits, query_times_fit, role_associates, settings_fit, time_fits}
use Rattle.peer.specs.Turn.{turn_of}
use Rattle.peer.specs.declared.query.Query.TheVariants as query
use Rattle.peer.specs.declared.exchange.Exchange.TheVariants.{None}
use Rattle.peer.specs.declared.record.Record.{Record}
use Rattle.peer.specs.declared.refuse.Others.{Others}
use Rattle.peer.specs.declared.settings.Settings.{Settings}
use Rattle.peer.specs.declared.turn.Turn.{Turn}
use Rattle.peer.proofs.Sent.{capability_below, sent}

-- what holds of two choices by the same test
pick_two : {A B : Type 0} (P : A → B → Type 0) (b : Bool) {x y : A} {u v : B} → P x u → P y v → P (pick b x y) (pick b u v)
pick_two P true h k = h
pick_two P false h k = k

module _ (s : Settings) (fit : settings_fit s ≡ true) (p : Record) (valid : valid_of p.address ≡ true) (numbered : p.identifier ≤ 65535) where
  -- what a turn says
  abbrev Turned : Turn → Heard → Type 0
  Turned t w = Speaks s p.address w t.reply

  to : {subtype : ℕ} {b : Body} {w : Heard} → Says (capability_of s.rsna) subtype b w → subtype < 16 → BodyFits b → Speaks s p.address w (send_of s p.address subtype b)
  to r low h = sent s fit p.address valid r low h

  responded :
      (k : Kind) → ((status aid : ℕ) → Says (capability_of s.rsna) (response_subtype k) (body.Response (capability_of s.rsna) status aid) (heard.Response k status aid None))
      → response_subtype k < 16 → (aid code : ℕ) → aid < 2 ^ 14 → code < 2 ^ 16
      → Turned (respond_of s aid p k code) (heard.Response k code (pick (eqb code 0) aid 0) None)
  unfolding respond_of awaited_of declined_of response_to turn_of
  responded k says low aid code small short = by_bool (eqb code 0)
      (λ e. rw (eqb-true code 0 e) (to (says 0 aid) low (capability_below s.rsna, omega arith, small)))
      (λ e. rw e (to (says code 0) low (capability_below s.rsna, short, omega arith)))

  pub ask_said :
      (aid : ℕ) → aid < 2 ^ 14 → (o : Others) → o.associated < 2 ^ 48 → (q code : ℕ) → code < 2 ^ 16
      → Speaks s p.address (asked_says q code aid o.associated p.identifier) (ask_of s aid p o q code).reply
  unfolding ask_of started_of answer_of deauthenticate_of associate_of reassociate_of failed_of disassociate_of secure_of report_of inquired_of turn_of request_to authentication_to deauthentication_to disassociation_to query_to
  ask_said aid small o near q code short =
      pick_two Turned (eqb q 1) (to authentication (omega arith) (omega arith, omega arith, omega arith))
      (pick_two Turned (eqb q 2) (to authentication (omega arith) (omega arith, omega arith, short))
      (pick_two Turned (eqb q 3) (pick_both (Speaks s p.address (heard.Deauthentication code)) (ltb p.state 2) tt (to deauthentication (omega arith) short))
      (pick_two Turned (eqb q 4) (pick_both (λ t. Turned t (heard.Request Association 0)) (eqb p.state 1) tt (to association_request (omega arith) (capability_below s.rsna)))
      (pick_two Turned (eqb q 5) (pick_both (λ t. Turned t (heard.Request Reassociation o.associated)) (eqb o.associated 0 || eqb p.state 1) tt
      (to reassociation_request (omega arith) (capability_below s.rsna, near)))
      (pick_two Turned (eqb q 6) (pick_both (λ t. Turned t (heard.Disassociation code)) (ltb p.state 3) tt (to disassociation (omega arith) short))
      (pick_two Turned (eqb q 7) (responded Association (λ status aid. association_response) (omega arith) aid code small short)
      (pick_two Turned (eqb q 8) (responded Reassociation (λ status aid. reassociation_response) (omega arith) aid code small short)
      (pick_two Turned (eqb q 9) tt
      (pick_two Turned (eqb q 10) tt (to query_request (omega arith) (omega arith)))))))))))

-- An example: a station, own address 0a, RSNA required, is associated with the AP 0c and asks 0e, where it is authenticated: primitive 5.
abbrev roaming : Settings
roaming = record { role = 2; own = 0x0a; network = 0; rsna = 1; authentication = 10; association = 10; edition = 1; protection = 0; retry = 201; maximum = 1000 }

abbrev nearer : Record
nearer = record { address = 0x0e; state = 2; exchange = None; left = 0; hold = 0; query = query.None; identifier = 0; links = unlinked }

roamed :
    ReadsTo roaming 0x0e (heard.Request Reassociation 0x0c)
    (0x20 ∷ 0 ∷ 0 ∷ 0 ∷ 0x0e ∷ 0 ∷ 0 ∷ 0 ∷ 0 ∷ 0 ∷ 0x0a ∷ 0 ∷ 0 ∷ 0 ∷ 0 ∷ 0 ∷ 0x0e ∷ 0 ∷ 0 ∷ 0 ∷ 0 ∷ 0 ∷ 0 ∷ 0 ∷
    0x11 ∷ 0 ∷ 10 ∷ 0 ∷ 0x0c ∷ 0 ∷ 0 ∷ 0 ∷ 0 ∷ 0 ∷ [])
unfolding ask_of reassociate_of started_of turn_of request_to send_of network_address capability_of bytes_of head_of body_of octets settings_fit query_times_fit time_fits network_fits role_associates valid_of
roamed = (ask_said roaming refl nearer refl (omega arith) 0 (omega arith) (record { associated = 0x0c; busy = false }) (omega arith) 5 0 (omega arith)).1
