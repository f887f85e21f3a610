-- 02, K10, "Scanners without an access point", at one peer of an ad hoc network: what follows where the role takes no part in associations.
--     fit_low                            a record that is well formed is in State 1 or 2
--     low-heard, low-asked, low-ticked   and no frame, no primitive and no clock step leads above State 2
--     one-alone, kept_out                class 1 alone passes; a frame that is kept out is discarded, with no reply and nothing moved
--     crossing                           both ask at once: the request heard replaces ours, with time 0, and the answer to ours then does nothing
-- Each is over what the role may do; examples stand below.
-- Assumes nothing.
use Rattle.std.proofs.Common.{◌≡◌, ℕ, ◌<◌, Bool, true, false, not, ◌&&◌, eqb, List, refl, arith, eqb-true}
use Rattle.octets.proofs.Branch.{and_left, by_bool}
use Rattle.octets.specs.Address.{valid_of}
use Rattle.octets.specs.Class.{class_in}
use Rattle.octets.specs.Heard.{heard_of}
use Rattle.octets.specs.Links.{no_links, unlinked}
use Rattle.octets.specs.declared.class.FrameClass.TheVariants as class
use Rattle.octets.specs.declared.class.FrameClass.{FrameClass}
use Rattle.octets.specs.declared.heard.Heard.TheVariants as heard
use Rattle.octets.specs.declared.heard.Heard.{Heard}
use Rattle.octets.specs.declared.heard.Kind.TheVariants.{Association, Authentication}
use Rattle.peer.specs.Ask.{answer_of, ask_of, started_of}
use Rattle.peer.specs.Authentication.{answered_move, authentication_answered, authentication_asked, authentication_heard, requested_of}
use Rattle.peer.specs.Filter.{barred_of, passes_of}
use Rattle.peer.specs.Fit.{asked_fits, highest_state, hold_fits, links_fit, place_fits, query_allowed, record_fits, sent_fits, stands}
use Rattle.peer.specs.Hear.{hear_of}
use Rattle.peer.specs.Query.{query_in}
use Rattle.peer.specs.Record.{changed_of, fresh_of, is_free}
use Rattle.peer.specs.Refuse.{role_allowed}
use Rattle.peer.specs.Settings.{ad_hoc, network_fits, query_times_fit, role_answers, role_asks, role_associates, settings_fit, time_fits}
use Rattle.peer.specs.Tick.{tick_of}
use Rattle.peer.specs.Turn.{admit, begun_of, discard, ended_of, indication_of, replied_of, still_of, turn_of}
use Rattle.peer.specs.declared.query.Query.TheVariants as query
use Rattle.peer.specs.declared.exchange.Exchange.TheVariants.{Asked, None, Sent}
use Rattle.peer.specs.declared.exchange.Exchange.{Exchange}
use Rattle.peer.specs.declared.record.Record.{Record}
use Rattle.peer.specs.declared.refuse.Others.{Others}
use Rattle.peer.specs.declared.settings.Settings.{Settings}
use Rattle.peer.proofs.Classes.{Classed, classed, passes_classed}
use Rattle.peer.proofs.Fits.{Fits, both, clash, fits_of, of_fits, or_right, wrong}
use Rattle.peer.proofs.LawsOfUse.{joins, rises_asked, rises_heard}
use Rattle.peer.proofs.Roles.{ap_associates, high_low}
use Rattle.peer.proofs.TickKeeps.{tick_keeps}

module _ (s : Settings) (apart : role_associates s.role ≡ false) where
  -- ---- "all other data, PS-Poll and class 2 frames are discarded at step 6 with no reply"

  pub one_alone : (k : FrameClass) (state : ℕ) → passes_of s.role k state ≡ true → k ≡ class.One
  one_alone class.None state e = wrong e
  one_alone class.One state e = refl
  one_alone class.Two state e = clash (and_left (role_associates s.role) _ e) apart
  one_alone class.Three state e = clash (and_left (role_associates s.role) _ e) apart

  pub kept_out :
      (p : Record) (k : FrameClass) (group : Bool) (h : Heard) → passes_of s.role k p.state ≡ false → hear_of s p k group h ≡ still_of s p discard
  unfolding hear_of barred_of still_of
  kept_out p k group h e = rw (e, apart, or_right group true refl)

  -- ---- "States over 2 are not well formed."

  low_fits : (p : Record) → Fits s p → p.state < 3
  low_fits p f = let top = high_low s.role apart in let h = f.high in omega arith

  -- a place is free, or in State 1 or 2
  pub fit_low : (p : Record) → place_fits s p ≡ true → p.state < 3
  unfolding place_fits is_free
  fit_low p h = by_bool (is_free p)
      (λ e. let z = eqb-true p.state 0 (both (eqb p.state 0) _ (both (eqb p.address 0) _ e).1).0 in omega arith)
      (λ e. low_fits p (fits_of s p (rw e at h)))

  -- no response passes, so nothing joins
  none_joins : (p : Record) (h : Heard) → Classed class.One h → joins p h ≡ false
  none_joins p heard.Other c = refl
  none_joins p (heard.Authentication algorithm transaction status) c = refl
  none_joins p (heard.Deauthentication reason) c = refl
  none_joins p (heard.Disassociation reason) c = refl
  none_joins p (heard.Request kind current) c = refl
  none_joins p (heard.Response kind status aid comeback) c = let z : ◌≡◌ {A = ℕ} 0 1 = cc in absurd (omega arith)
  none_joins p (heard.QueryRequest identifier) c = refl
  none_joins p (heard.QueryResponse identifier) c = refl

  pub low_heard : (p : Record) → Fits s p → (i : Bool) (xs : List ℕ) (group : Bool) → (hear_of s p (class_in i xs) group (heard_of xs)).peer.state < 3
  unfolding still_of replied_of turn_of
  low_heard p f i xs group = by_bool (passes_of s.role (class_in i xs) p.state)
      (λ e.
      let c = classed i xs (passes_classed s.role (class_in i xs) p.state e) in
      rises_heard s p (class_in i xs) group (heard_of xs) (low_fits p f) (none_joins p (heard_of xs) (rw (one_alone (class_in i xs) p.state e) at c)))
      (λ e. rw (kept_out p (class_in i xs) group (heard_of xs) e) (low_fits p f))

  pub low_asked :
      (p : Record) → Fits s p → (aid : ℕ) (o : Others) (q code : ℕ) → role_allowed q s.role ≡ true → (ask_of s aid p o q code).peer.state < 3
  unfolding role_allowed
  low_asked p f aid o q code allowed =
      rises_asked s aid p o q code (low_fits p f) (λ z one. clash (ap_associates s.role (rw z at allowed)) apart)

  pub low_ticked : (p : Record) → Fits s p → (d : ℕ) → (tick_of s p d).peer.state < 3
  unfolding place_fits
  low_ticked p f d = fit_low (tick_of s p d).peer (tick_keeps s p d (or_right (is_free p) _ (of_fits s p f))).place

-- ---- "Authentication may be asked by either end, by both roles' rules."

-- our record once a request of the other end was heard, whatever was under way
abbrev pub requested_by : Settings → Record → ℕ → Record
requested_by s p status = (hear_of s p class.One false (heard.Authentication 0 1 status)).peer

pub record Crossed (s : Settings) (p : Record) (status : ℕ) : Type 0 where
  pub told : (hear_of s p class.One false (heard.Authentication 0 1 status)).told.notice ≡ indication_of Authentication
  pub exchange : (requested_by s p status).exchange ≡ Asked Authentication
  pub left : (requested_by s p status).left ≡ 0
  pub state : (requested_by s p status).state ≡ p.state
  pub unheeded :
      (algorithm answer : ℕ)
      → hear_of s (requested_by s p status) class.One false (heard.Authentication algorithm 2 answer) ≡ still_of s (requested_by s p status) admit

pub crossing : (s : Settings) → role_answers s.role ≡ true → (p : Record) (status : ℕ) → Crossed s p status
unfolding hear_of authentication_heard authentication_asked authentication_answered requested_of turn_of begun_of changed_of
crossing s answers p status =
    record {
      told = rw answers;
      exchange = rw (answers, requested_by);
      left = rw (answers, requested_by);
      state = rw (answers, requested_by);
      unheeded = λ algorithm answer. rw (answers, requested_by) (by_bool (eqb algorithm 0) (λ e. rw e) (λ e. rw e));
    }

-- ---- The hypotheses are met: two ends, 2 and 4, of the network 8.

abbrev direct : Settings
direct = record { own = 2; network = 8; authentication = 100; association = 100; role = 3; rsna = 0; edition = 1; protection = 0; retry = 201; maximum = 1000 }

abbrev other : ℕ → Exchange → ℕ → Record
other state e left = record { address = 4; state = state; exchange = e; left = left; hold = 0; query = query.None; identifier = 0; links = unlinked }

abbrev nobody : Others
nobody = record { associated = 0; busy = false }

-- well formed with what was sent, and with what is asked; not in State 3, and not with an association
all_fit :
    (settings_fit direct && (record_fits direct (other 1 (Sent Authentication) 100) && (record_fits direct (other 2 (Asked Authentication) 0)
    && (not (record_fits direct (other 3 None 0)) && not (record_fits direct (other 2 (Sent Association) 100))))))
    ≡ true
unfolding settings_fit query_times_fit time_fits network_fits valid_of record_fits highest_state role_asks role_answers role_associates hold_fits sent_fits asked_fits stands query_allowed links_fit no_links
all_fit = refl

-- primitive 1 to a stranger
abbrev sent : Record
sent = other 1 (Sent Authentication) 100

starts : (ask_of direct 0 (fresh_of 4) nobody 1 0).peer ≡ sent
unfolding ask_of started_of begun_of changed_of query_in turn_of fresh_of
starts = refl

crossed : Crossed direct sent 0
unfolding role_answers
crossed = crossing direct refl sent 0

-- the answer to ours does nothing, and our own, by primitive 2, ends in State 2
both_ask : (ask_of direct 0 (hear_of direct (requested_by direct sent 0) class.One false (heard.Authentication 0 2 0)).peer nobody 2 0).peer ≡ other 2 None 0
unfolding ask_of answer_of answered_move begun_of ended_of changed_of query_in turn_of still_of replied_of hear_of role_answers authentication_heard authentication_asked authentication_answered requested_of
both_ask = refl

-- and no primitive leads on from there
no_further : (q code : ℕ) → role_allowed q ad_hoc ≡ true → (ask_of direct 0 (other 2 None 0) nobody q code).peer.state < 3
unfolding role_associates record_fits highest_state role_asks valid_of hold_fits query_allowed links_fit no_links
no_further q code allowed = low_asked direct refl (other 2 None 0) (fits_of direct (other 2 None 0) refl) 0 nobody q code allowed

-- a PS-Poll, of class 3, is not answered in State 2
polled : hear_of direct (other 2 None 0) class.Three false heard.Other ≡ still_of direct (other 2 None 0) discard
unfolding role_associates
polled = kept_out direct refl (other 2 None 0) class.Three false heard.Other refl
