-- 02, K11, "Devices with several links", at one peer: its links.
--     linking-keeps, linking-turns       primitive 12 keeps a record well formed where the new links may stand
--     linking-still                      and moves neither state, exchange, times nor query, tells nothing and says nothing
--     hear-links, full-links, ask-links  no frame and no other primitive takes a record its address or its links,
--     parted-links                       nor does another's turn
--     tick-links, tick-linked            no clock step takes a record its links, nor its address where it has any
-- Where frames to a device go is in Spoken.
-- Assumes nothing.
use Rattle.std.proofs.Common.{◌≡◌, ℕ, Bool, true, false, not, ◌&&◌, ◌||◌, eqb, ltb, sym, refl, ◌∙◌, None}
use Rattle.octets.proofs.Branch.{pick_both}
use Rattle.octets.proofs.LinkTrip.{unlinked_of}
use Rattle.octets.specs.Address.{valid_of}
use Rattle.octets.specs.Links.{no_links, unlinked}
use Rattle.octets.specs.declared.class.FrameClass.{FrameClass}
use Rattle.octets.specs.declared.heard.Heard.TheVariants as heard
use Rattle.octets.specs.declared.heard.Heard.{Heard}
use Rattle.octets.specs.declared.links.Links.{Links}
use Rattle.peer.specs.Ask.{answer_of, ask_of, associate_of, awaited_of, deauthenticate_of, declined_of, disassociate_of, failed_of, reassociate_of, report_of, respond_of, secure_of, started_of}
use Rattle.peer.specs.Association.{accepted_of, parted_of, rejected_of, response_heard}
use Rattle.peer.specs.Authentication.{full_of, requested_of}
use Rattle.peer.specs.Challenge.{challenged_of, inquired_of, passed_of, querying_of, query_request_heard, query_response_heard}
use Rattle.peer.specs.Codes.{last_aid}
use Rattle.peer.specs.Farewell.{deauthentication_heard, disassociation_heard}
use Rattle.peer.specs.Filter.{passes_of}
use Rattle.peer.specs.Fit.{highest_state, hold_fits, links_fit, links_stand, query_allowed, record_fits, slot_fits}
use Rattle.peer.specs.Hear.{act_of, group_heard, hear_of, is_exchange, is_query}
use Rattle.peer.specs.Moves.{ds_none}
use Rattle.peer.specs.Query.{is_running, query_in}
use Rattle.peer.specs.Record.{associates, changed_of, free_of, is_joined, is_sent, linked_of, queried_of}
use Rattle.peer.specs.Settings.{ap, role_asks, role_associates, station}
use Rattle.peer.specs.Tick.{freed_of, queried_timed, tick_of, timed_of}
use Rattle.peer.specs.Turn.{begun_of, ended_of, linking_of, none, nothing_told, replied_of, sole_of, still_of, turn_of}
use Rattle.peer.specs.declared.query.Query.TheVariants as query
use Rattle.peer.specs.declared.exchange.Exchange.TheVariants as exchange
use Rattle.peer.specs.declared.exchange.Exchange.{Exchange}
use Rattle.peer.specs.declared.record.Record.{Record}
use Rattle.peer.specs.declared.refuse.Others.{Others}
use Rattle.peer.specs.declared.settings.Settings.{Settings}
use Rattle.peer.specs.declared.tick.Ticked.{Ticked}
use Rattle.peer.specs.declared.turn.Turn.{Turn}
use Rattle.peer.proofs.Fits.{clash, Fits, fits_of, or_right}
use Rattle.peer.proofs.Keeps.{Turns}
use Rattle.peer.proofs.Roles.{authentication_by, ds_beside, request_by}
use Rattle.peer.proofs.TickKeeps.{freed_by}

-- ---- Primitive 12

-- no links may stand at any device
pub none_stand : (own address : ℕ) (ls : Links) → no_links ls ≡ true → links_stand own address ls ≡ true
unfolding links_stand slot_fits
none_stand own address ls e = rw (unlinked_of ls e)

module _ (s : Settings) (p : Record) (f : Fits s p) (ls : Links) (at : eqb s.role ap ≡ true) (stand : links_stand s.own p.address ls ≡ true) where
  pub linking_keeps : Fits s (linked_of p ls)
  unfolding linked_of links_fit
  linking_keeps =
      record {
        low = f.low;
        high = f.high;
        apart = f.apart;
        valid = f.valid;
        held = f.held;
        suits = f.suits;
        numbered = f.numbered;
        queries = f.queries;
        linked = or_right (no_links ls) _ (rw (at, stand));
      }

  pub linking_turns : (busy : Bool) → Turns s busy p (linking_of s p ls)
  unfolding linking_of turn_of linked_of is_joined associates
  linking_turns busy = record { fits = linking_keeps; same = refl; joins = λ a b j. j; starts = λ a b j. j }

pub record Still (p : Record) (t : Turn) : Type 0 where
  pub address : t.peer.address ≡ p.address
  pub state : t.peer.state ≡ p.state
  pub exchange : t.peer.exchange ≡ p.exchange
  pub left : t.peer.left ≡ p.left
  pub hold : t.peer.hold ≡ p.hold
  pub query : t.peer.query ≡ p.query
  pub identifier : t.peer.identifier ≡ p.identifier
  pub told : t.told ≡ nothing_told
  pub verdict : t.verdict ≡ none
  pub ds : t.ds ≡ ds_none
  pub sole : t.sole ≡ false
  pub reply : t.reply ≡ None

pub linking_still : (s : Settings) (p : Record) (ls : Links) → Still p (linking_of s p ls)
unfolding linking_of turn_of linked_of
linking_still s p ls =
    record {
      address = refl;
      state = refl;
      exchange = refl;
      left = refl;
      hold = refl;
      query = refl;
      identifier = refl;
      told = refl;
      verdict = refl;
      ds = ds_beside s.role p.state p.state refl;
      sole = refl;
      reply = refl;
    }

-- ---- "A record with links is freed by no clock step", and no other event takes them

-- q has the address of p, and its links
abbrev pub Named : Record → Record → Type 0
Named p q = (q.address ≡ p.address) × (q.links ≡ p.links)

abbrev pub Names : Record → Turn → Type 0
Names p t = Named p t.peer

module _ (s : Settings) (p : Record) where
  pub act_links : (h : Heard) → Names p (act_of s p h)
  unfolding still_of replied_of turn_of sole_of begun_of ended_of changed_of requested_of deauthentication_heard disassociation_heard response_heard accepted_of rejected_of query_request_heard query_response_heard challenged_of querying_of passed_of queried_of
  act_links heard.Other = (refl, refl)
  act_links (heard.Authentication algorithm transaction status) =
      authentication_by s p (Names p) algorithm transaction status (λ a z. (refl, refl)) (λ z. (refl, refl)) (λ e. (refl, refl)) (refl, refl)
  act_links (heard.Deauthentication reason) = pick_both (Names p) (ltb p.state 2) (refl, refl) (refl, refl)
  act_links (heard.Disassociation reason) = pick_both (Names p) (ltb p.state 3) (refl, refl) (refl, refl)
  act_links (heard.Request k current) = request_by s p (Names p) k current (λ a c. (refl, refl)) (λ a. (refl, refl)) (refl, refl)
  act_links (heard.QueryRequest i) = pick_both (Names p) (eqb p.state 4) (refl, refl) (refl, refl)
  act_links (heard.QueryResponse i) = pick_both (Names p) (eqb p.state 4 && (is_running p.query && eqb i p.identifier)) (refl, refl) (refl, refl)
  act_links (heard.Response k status aid c) =
      pick_both (Names p) (is_sent k p.exchange)
      (pick_both (Names p) (eqb status 0) (pick_both (Names p) (eqb aid 0 || ltb last_aid aid) (refl, refl) (refl, refl)) (refl, refl))
      (refl, refl)

  pub hear_links : (k : FrameClass) (group : Bool) (h : Heard) → Names p (hear_of s p k group h)
  unfolding hear_of group_heard still_of replied_of turn_of
  hear_links k group h =
      pick_both (Names p) (not (passes_of s.role k p.state)) (refl, refl)
      (pick_both (Names p) group (pick_both (Names p) (is_exchange h) (refl, refl) (pick_both (Names p) (is_query h) (refl, refl) (act_links h))) (act_links h))

  pub full_links : Names p (full_of s p)
  unfolding full_of replied_of turn_of
  full_links = (refl, refl)

  pub ask_links : (aid : ℕ) (o : Others) (q code : ℕ) → Names p (ask_of s aid p o q code)
  unfolding ask_of started_of answer_of deauthenticate_of associate_of reassociate_of failed_of disassociate_of respond_of awaited_of declined_of secure_of report_of inquired_of queried_of turn_of begun_of ended_of changed_of
  ask_links aid o q code =
      pick_both (Names p) (eqb q 1) (refl, refl) (pick_both (Names p) (eqb q 2) (refl, refl) (pick_both (Names p) (eqb q 3) (refl, refl)
      (pick_both (Names p) (eqb q 4) (pick_both (Names p) (eqb p.state 1) (refl, refl) (refl, refl))
      (pick_both (Names p) (eqb q 5) (pick_both (Names p) (eqb o.associated 0 || eqb p.state 1) (refl, refl) (refl, refl))
      (pick_both (Names p) (eqb q 6) (pick_both (Names p) (ltb p.state 3) (refl, refl) (refl, refl))
      (pick_both (Names p) (eqb q 7) (pick_both (Names p) (eqb code 0) (refl, refl) (refl, refl))
      (pick_both (Names p) (eqb q 8) (pick_both (Names p) (eqb code 0) (refl, refl) (refl, refl))
      (pick_both (Names p) (eqb q 9) (refl, refl) (pick_both (Names p) (eqb q 10) (refl, refl) (refl, refl))))))))))

pub parted_links : (p : Record) → Named p (parted_of p)
unfolding parted_of changed_of
parted_links p = pick_both (Named p) (ltb p.state 3) (refl, refl) (refl, refl)

-- before a record may be freed
stepped : (s : Settings) (p : Record) (d : ℕ) → Named p (queried_timed s (timed_of s p d).peer d)
unfolding queried_timed queried_of timed_of ended_of changed_of
stepped s p d = pick_both On (eqb p.left 0) (refl, refl) (pick_both On (ltb d p.left) (refl, refl) (refl, refl))
  where
    On : Ticked → Type 0
    On t = Named p t.peer

pub tick_links : (s : Settings) (p : Record) (d : ℕ) → (tick_of s p d).peer.links ≡ p.links
unfolding tick_of
tick_links s p d =
    let q = queried_timed s (timed_of s p d).peer d in
    let same = (stepped s p d).1 in
    freed_by (λ r. r.links ≡ p.links) q (λ z l. sym (unlinked_of q.links l) ∙ same) same

pub tick_linked : (s : Settings) (p : Record) (d : ℕ) → no_links p.links ≡ false → Named p (tick_of s p d).peer
unfolding tick_of
tick_linked s p d some =
    freed_by (Named p) (queried_timed s (timed_of s p d).peer d) (λ z l. clash (rw (stepped s p d).1 at l) some) (stepped s p d)

-- ---- The hypotheses are met: the device 4, in State 1, at an access point, and its links 6 and 8.

abbrev pub ours : ℕ → Settings
ours role = record { own = 2; network = 0; authentication = 100; association = 100; role = role; rsna = 0; edition = 1; protection = 0; retry = 201; maximum = 1000 }

abbrev pub device : Exchange → Links → Record
device e ls = record { address = 4; state = 1; exchange = e; left = 0; hold = 0; query = query.None; identifier = 0; links = ls }

abbrev pub two : Links
two = record { one = 6; two = 8; three = 0; four = 0 }

-- not with an empty slot before a link, nor with our own address, nor at a station
all_fit :
    (record_fits (ours ap) (device exchange.None two) && (not (record_fits (ours ap) (device exchange.None (record { one = 0; two = 6; three = 0; four = 0 })))
    && (not (record_fits (ours ap) (device exchange.None (record { one = 2; two = 0; three = 0; four = 0 }))) && not (record_fits (ours station) (device exchange.None two)))))
    ≡ true
unfolding record_fits highest_state role_asks role_associates valid_of hold_fits query_allowed links_fit links_stand slot_fits no_links
all_fit = refl

alone : Fits (ours ap) (device exchange.None unlinked)
unfolding record_fits highest_state role_asks role_associates valid_of hold_fits query_allowed links_fit no_links
alone = fits_of (ours ap) (device exchange.None unlinked) refl

named_two : Fits (ours ap) (device exchange.None two)
unfolding links_stand slot_fits valid_of linked_of
named_two = linking_keeps (ours ap) (device exchange.None unlinked) alone two refl refl

-- "count 0 takes its links away", and the next clock step frees the place
taken_away : (linking_of (ours ap) (device exchange.None two) unlinked).peer ≡ device exchange.None unlinked
unfolding linking_of turn_of linked_of
taken_away = refl

freed : (tick_of (ours ap) (device exchange.None unlinked) 1).peer ≡ free_of
unfolding tick_of freed_of queried_timed queried_of timed_of changed_of query_in no_links
freed = refl

not_freed : Named (device exchange.None two) (tick_of (ours ap) (device exchange.None two) 1).peer
unfolding no_links
not_freed = tick_linked (ours ap) (device exchange.None two) 1 refl
