-- 02, K5, "Forged rejoin requests", at one peer of an access point with edition 2 and protection: what a request in a peer's name can do.
--     unmoved, repeated      a (re)association request from a peer in State 4 moves nothing, unless a query to it has timed out
--     one_passes             after a query that timed out one request passes, and the next is met by a query again
-- Each is over the definitions that the code is proved equal to; examples stand below.
-- Assumes nothing.
use Rattle.std.proofs.Common.{◌≡◌, ℕ, Bool, true, false, not, ◌&&◌, refl, Option}
use Rattle.octets.proofs.Branch.{pick_both}
use Rattle.octets.specs.Address.{valid_of}
use Rattle.octets.specs.Links.{no_links, unlinked}
use Rattle.octets.specs.declared.class.FrameClass.TheVariants as class
use Rattle.octets.specs.declared.class.FrameClass.{FrameClass}
use Rattle.octets.specs.declared.frame.Frame.{Frame}
use Rattle.octets.specs.declared.heard.Heard.TheVariants as heard
use Rattle.octets.specs.declared.heard.Kind.TheVariants.{Association, Reassociation}
use Rattle.octets.specs.declared.heard.Kind.{Kind}
use Rattle.peer.specs.Association.{request_heard}
use Rattle.peer.specs.Authentication.{requested_of}
use Rattle.peer.specs.Challenge.{challenged_of, is_challenged, passed_of, querying_of}
use Rattle.peer.specs.Filter.{passes_of}
use Rattle.peer.specs.Fit.{highest_state, hold_fits, links_fit, query_allowed, query_stands, record_fits, running_fits}
use Rattle.peer.specs.Hear.{group_heard, hear_of}
use Rattle.peer.specs.Moves.{ds_none}
use Rattle.peer.specs.Query.{is_running, is_timed_out, query_in, running_of, stepped_of, unmarked_of}
use Rattle.peer.specs.Record.{changed_of, queried_of}
use Rattle.peer.specs.Settings.{ap, network_fits, query_times_fit, role_asks, role_associates, settings_fit, time_fits}
use Rattle.peer.specs.Turn.{begun_of, indication_of, nothing_told, replied_of, still_of, turn_of}
use Rattle.peer.specs.declared.query.Query.TheVariants as query
use Rattle.peer.specs.declared.query.Query.{Query}
use Rattle.peer.specs.declared.exchange.Exchange.TheVariants.{Asked, None}
use Rattle.peer.specs.declared.record.Record.{Record}
use Rattle.peer.specs.declared.settings.Settings.{Settings}
use Rattle.peer.specs.declared.turn.Turn.{Turn}
use Rattle.peer.proofs.Fits.{wrong}
use Rattle.peer.proofs.Roles.{ds_beside}

-- "At an AP with edition 2 and protection"
pub record Guarded (s : Settings) : Type 0 where
  pub role : s.role ≡ ap
  pub edition : s.edition ≡ 2
  pub protection : s.protection ≡ 1

-- All of a record but its query stays as it is.
pub record Stays (p q : Record) : Type 0 where
  pub address : q.address ≡ p.address
  pub state : q.state ≡ p.state
  pub exchange : q.exchange ≡ p.exchange
  pub left : q.left ≡ p.left
  pub hold : q.hold ≡ p.hold

-- A turn that says nothing to our own side or to the distribution system, moves nothing and leaves no mark.
pub record Unmoved (p : Record) (t : Turn) : Type 0 where
  pub told : t.told ≡ nothing_told
  pub ds : t.ds ≡ ds_none
  pub sole : t.sole ≡ false
  pub stays : Stays p t.peer
  pub unmarked : is_timed_out t.peer.query ≡ false

pub same : {p : Record} → Stays p p
same = record { address = refl; state = refl; exchange = refl; left = refl; hold = refl }

-- the query that a request meets or starts is not timed out
runs : (s : Settings) (q : Query) → is_timed_out (running_of s q) ≡ false
unfolding running_of
runs s query.None = refl
runs s (query.Running left due) = refl
runs s query.TimedOut = refl

module _ (s : Settings) (g : Guarded s) (p : Record) (four : p.state ≡ 4) (waits : is_timed_out p.query ≡ false) where
  is_challenged_lem : is_challenged s p ≡ true
  unfolding is_challenged
  is_challenged_lem = rw (g.edition, g.protection, four, waits)

  stands_still : (v : ℕ) (r : Option Frame) → Unmoved p (replied_of s p v r)
  unfolding replied_of turn_of
  stands_still v r = record { told = refl; ds = ds_beside s.role p.state p.state refl; sole = refl; stays = same; unmarked = waits }

  met : (kind : Kind) → Unmoved p (challenged_of s p kind)
  unfolding challenged_of querying_of queried_of turn_of
  met kind =
      record {
        told = refl;
        ds = ds_beside s.role p.state p.state refl;
        sole = refl;
        stays = record { address = refl; state = refl; exchange = refl; left = refl; hold = refl };
        unmarked = runs s p.query;
      }

  pub requested : (kind : Kind) (current : ℕ) → request_heard s p kind current ≡ challenged_of s p kind
  unfolding request_heard
  requested kind current = rw (is_challenged_lem, g.role)

  -- "verdict admit, no indication, the record else untouched": whatever its class and wherever it was sent.
  pub unmoved : (k : FrameClass) (group : Bool) (kind : Kind) (current : ℕ) → Unmoved p (hear_of s p k group (heard.Request kind current))
  unfolding hear_of group_heard still_of
  unmoved k group kind current =
      pick_both (Unmoved p) (not (passes_of s.role k p.state)) (stands_still _ _)
      (pick_both (Unmoved p) group (stands_still _ _) (rw (requested kind current) (met kind)))

  -- Where a query runs, a request changes nothing at all: it can't put off the query's end.
  pub repeated : is_running p.query ≡ true → (k : FrameClass) (group : Bool) (kind : Kind) (current : ℕ) → (hear_of s p k group (heard.Request kind current)).peer ≡ p
  unfolding hear_of group_heard still_of replied_of turn_of challenged_of querying_of queried_of running_of stepped_of
  repeated running k group kind current =
      pick_both (λ (t : Turn). t.peer ≡ p) (not (passes_of s.role k p.state)) refl
      (pick_both (λ (t : Turn). t.peer ≡ p) group refl (rw (requested kind current, running)))

-- ---- after a query that timed out

-- "After kind 5 the next request passes and clears the mark": of that request there is an indication, and its exchange is asked; the one after it
-- is met by a query, and moves nothing. However many come then: `exactly_one` in QueryRuns.
module _ (s : Settings) (g : Guarded s) (p : Record) (four : p.state ≡ 4) (out : is_timed_out p.query ≡ true) where
  let_through : is_challenged s p ≡ false
  unfolding is_challenged
  let_through = rw (g.edition, g.protection, four, out)

  cleared : (q : Query) → is_timed_out q ≡ true → query_in 4 (unmarked_of q) ≡ query.None
  unfolding query_in unmarked_of
  cleared query.None h = refl
  cleared (query.Running left due) h = wrong h
  cleared query.TimedOut h = refl

  -- where its class lets it through and it is sent to our own address
  pub passes : (k : FrameClass) (kind : Kind) (current : ℕ) → passes_of s.role k 4 ≡ true → hear_of s p k false (heard.Request kind current) ≡ requested_of s (passed_of p) kind current
  unfolding hear_of request_heard
  passes k kind current through = let here : passes_of s.role k p.state ≡ true = rw four through in rw (here, let_through, g.role)

  pub one_passes :
      (k : FrameClass) (kind : Kind) (current : ℕ) → passes_of s.role k 4 ≡ true
      → ((hear_of s p k false (heard.Request kind current)).told.notice ≡ indication_of kind)
      × ((hear_of s p k false (heard.Request kind current)).peer.exchange ≡ Asked kind)
      × ((hear_of s p k false (heard.Request kind current)).peer.query ≡ query.None)
      × ((k' : FrameClass) (group : Bool) (kind' : Kind) (current' : ℕ)
      → Unmoved (hear_of s p k false (heard.Request kind current)).peer
      (hear_of s (hear_of s p k false (heard.Request kind current)).peer k' group (heard.Request kind' current')))
  unfolding requested_of passed_of queried_of begun_of changed_of turn_of
  one_passes k kind current through =
      let none = cleared p.query out in
      rw (passes k kind current through)
      (refl, refl, rw four none, λ k' group kind' current'. unmoved s g _ four (rw (four, none)) k' group kind' current')

-- ---- The hypotheses are met: at an access point, a peer in State 4.

abbrev pub site : Settings
site =
    record {
      own = 2;
      network = 0;
      authentication = 100;
      association = 100;
      role = 1;
      rsna = 0;
      edition = 2;
      protection = 1;
      retry = 201;
      maximum = 1000;
    }

pub guarded : Guarded site
guarded = record { role = refl; edition = refl; protection = refl }

abbrev pub joined : Query → ℕ → Record
joined q identifier = record { address = 4; state = 4; exchange = None; left = 0; hold = 0; query = q; identifier = identifier; links = unlinked }

-- well formed, with no query, one that runs, and the mark
all_fit :
    (settings_fit site && (record_fits site (joined query.None 0)
    && (record_fits site (joined (query.Running 1000 true) 65535) && record_fits site (joined query.TimedOut 7))))
    ≡ true
unfolding settings_fit query_times_fit time_fits network_fits valid_of record_fits highest_state hold_fits role_asks role_associates query_allowed running_fits query_stands links_fit no_links
all_fit = refl

-- the first request starts a query, at the maximum and with the next identifier; the second leaves it
first_met : Unmoved (joined query.None 0) (hear_of site (joined query.None 0) class.Two false (heard.Request Association 0))
first_met = unmoved site guarded (joined query.None 0) refl refl class.Two false Association 0

first_starts : (hear_of site (joined query.None 65535) class.Two false (heard.Request Association 0)).peer ≡ joined (query.Running 1000 true) 0
unfolding hear_of role_associates request_heard is_challenged challenged_of querying_of queried_of running_of stepped_of turn_of
first_starts = refl

second_met : (hear_of site (joined (query.Running 3 false) 1) class.Two false (heard.Request Reassociation 6)).peer ≡ joined (query.Running 3 false) 1
second_met = repeated site guarded (joined (query.Running 3 false) 1) refl refl refl class.Two false Reassociation 6

-- and one passes after a query that timed out
let_in : (hear_of site (joined query.TimedOut 1) class.Two false (heard.Request Reassociation 6)).peer.exchange ≡ Asked Reassociation
unfolding role_associates
let_in = (one_passes site guarded (joined query.TimedOut 1) refl refl class.Two Reassociation 6 refl).1
