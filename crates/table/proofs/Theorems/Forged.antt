-- 02, K5, "Forged rejoin requests", in the whole table, at an AP with edition 2 and protection:
--     forged-moves-nothing  no (re)association request of a peer in State 4 gives an indication, replaces an exchange or moves a state, the peer's or
--                           another's, unless a query to the peer has timed out
--     let-in, then-none     after a query that timed out one request passes, and the one after it moves nothing (at one peer, any
--                           number: peer/proofs/QueryRuns.antt, `exactly_one`)
-- Assumes nothing.
use Prim.Native.Nat.{ℕ, ◌<◌}
use mathlib.Core.Path.{◌≡◌, refl, sym, ap as apply, ◌∙◌}
use mathlib.Core.Bool.{Bool, true, false, not}
use mathlib.Core.List.{List, [], ◌∷◌, map}
use native.Mathlib.Omega.{arith}
use lib.Dec.{eqb, ltb}
use lib.ListN.{get_or, length, replicate, set}
use lib.Seq.{get_or-set_same, set-get_or}
use borrow.Author.Tests.{eq-eqb}
use Rattle.octets.proofs.Branch.{pick_both}
use Rattle.octets.specs.Address.{group_of, valid_of}
use Rattle.octets.specs.Class.{class_of, is_public_action, listed_class}
use Rattle.octets.specs.Element.{broken_of, is_response}
use Rattle.octets.specs.Frame.{longest}
use Rattle.octets.specs.Heard.{heard_of}
use Rattle.octets.specs.Links.{no_links}
use Rattle.octets.specs.Shape.{is_bare, least_management, least_of, shape_of}
use Rattle.octets.specs.Sort.{class_by, is_listed, sort_of}
use Rattle.octets.specs.declared.sort.Sort.TheVariants.{Listed}
use Rattle.octets.specs.declared.sort.Sort.{Sort}
use Rattle.octets.specs.declared.heard.Heard.TheVariants as heard
use Rattle.octets.specs.declared.heard.Kind.TheVariants as kind
use Rattle.octets.specs.declared.heard.Kind.{Kind}
use Rattle.peer.proofs.Fits.{clash}
use Rattle.peer.proofs.Links.{hear_links}
use Rattle.peer.proofs.Roles.{ap_answers, ap_associates}
use Rattle.peer.proofs.Queries.{Guarded, Stays, Unmoved, guarded, joined, one_passes, site, unmoved}
use Rattle.peer.specs.Filter.{passes_of}
use Rattle.peer.specs.Fit.{highest_state, hold_fits, links_fit, place_fits, query_allowed, query_stands, record_fits}
use Rattle.peer.specs.Hear.{hear_of}
use Rattle.peer.specs.Moves.{ds_none}
use Rattle.peer.specs.Query.{is_timed_out}
use Rattle.peer.specs.Record.{free_of, fresh_of, is_free, queried_of}
use Rattle.peer.specs.Settings.{ap, network_fits, query_times_fit, role_answers, role_asks, role_associates, settings_fit, time_fits}
use Rattle.peer.specs.Turn.{indication_of, towards_of}
use Rattle.peer.specs.declared.query.Query.TheVariants as query
use Rattle.peer.specs.declared.query.Query.{Query}
use Rattle.peer.specs.declared.record.Record.{Record}
use Rattle.peer.specs.declared.settings.Settings.{Settings}
use Rattle.peer.specs.declared.turn.Turn.{Turn}
use Rattle.table.specs.Answer.{refused_of, settled_of, stepped_of}
use Rattle.table.specs.Fit.{alone_in, sparse_of, well_formed}
use Rattle.table.specs.Places.{addresses_of, all_tails, find_link_of, first_from, link_addresses_of, seek_of, some_of}
use Rattle.table.specs.Read.{for_us, read_from, read_full, read_of}
use Rattle.table.specs.Receive.{heard_from, received_of}
use Rattle.table.specs.Seat.{peer_of, seated_of}
use Rattle.table.specs.Step.{step_of}
use Rattle.table.specs.declared.rules.answer.Met.{Met}
use Rattle.table.specs.declared.rules.answer.Stepped.{Stepped}
use Rattle.table.specs.declared.rules.event.Event.TheVariants as event
use Rattle.table.specs.declared.rules.read.Reading.TheVariants.{From}
use Rattle.std.specs.Prelude.{Option, Some, None}
use Rattle.table.proofs.Order.OwnRecord.{all_at, hear_alone, wf_fits, wf_settings}
use Rattle.table.proofs.Order.NamedPeer.{names, seek_same}
use Rattle.table.proofs.Passes.Lists.{get_map, map_set}

-- A record without its query.
abbrev pub core : Record → Record
core p = queried_of p query.None 0

stays_core : {p q : Record} → Stays p q → q.links ≡ p.links → core q ≡ core p
unfolding queried_of
stays_core h l = λ i. record {
  address = h.address i;
  state = h.state i;
  exchange = h.exchange i;
  left = h.left i;
  hold = h.hold i;
  query = query.None;
  identifier = 0;
  links = l i;
}

-- Of all records none is changed but in its query, and nothing is told to our own side or to the distribution system.
abbrev pub Calm : List Record → Stepped → Type 0
Calm t r = (map core r.table ≡ map core t) × (r.answer.notice ≡ 0) × (r.answer.ds ≡ ds_none)

module _ (s : Settings) (t : List Record) (a : ℕ) (group : Bool) (k : Sort) (kind : Kind) (current : ℕ) where
  abbrev turn_at : ℕ → Turn
  turn_at i = hear_of s (get_or t i free_of) (class_by k) group (heard.Request kind current)

  -- a step whose turn moves nothing
  calm_step :
      (xs : List ℕ) (n : ℕ) → read_of s.own (role_associates s.role) xs ≡ From a group k (heard.Request kind current)
      → (i : ℕ) → seek_of t (addresses_of t) a ≡ Some i → Unmoved (get_or t i free_of) (turn_at i)
      → Calm t (step_of s t event.Frame xs n)
  unfolding stepped_of received_of refused_of settled_of heard_from seated_of towards_of
  calm_step xs n reads i found u =
      pick_both (λ (m : Met). Calm t (stepped_of m n)) (ltb n longest) (refl, refl, refl)
      (pick_both (λ (m : Met). Calm t (stepped_of m n)) (not (well_formed s t)) (refl, refl, refl)
      (rw (reads, found) (
        rw (u.sole, map_set core t i (turn_at i).peer, stays_core u.stays (hear_links s (get_or t i free_of) (class_by k) group (heard.Request kind current)).1, ← get_map core t i free_of) (set-get_or (map core t) i (core free_of)),
        rw u.told,
        u.ds,
      )))

  pub forged_moves_nothing :
      Guarded s → (xs : List ℕ) (n : ℕ) → read_of s.own (role_associates s.role) xs ≡ From a group k (heard.Request kind current)
      → (peer_of t (seek_of t (addresses_of t) a) a).state ≡ 4 → is_timed_out (peer_of t (seek_of t (addresses_of t) a) a).query ≡ false
      → Calm t (step_of s t event.Frame xs n)
  unfolding fresh_of
  forged_moves_nothing g xs n reads = go (seek_of t (addresses_of t) a) refl
    where
      go : (at : Option ℕ) → seek_of t (addresses_of t) a ≡ at → (peer_of t at a).state ≡ 4 → is_timed_out (peer_of t at a).query ≡ false → Calm t (step_of s t event.Frame xs n)
      go None e four waits = absurd (omega (arith, four))
      go (Some i) e four waits = calm_step xs n reads i e (unmoved s g (get_or t i free_of) four waits (class_by k) group kind current)

-- ---- after a query that timed out: the record at place i of a well-formed table

module _ (s : Settings) (g : Guarded s) (t : List Record) (w : well_formed s t ≡ true) (l : length t ≡ 32) (i : ℕ) (below : i < 32) (four : (get_or t i free_of).state ≡ 4) (out : is_timed_out (get_or t i free_of).query ≡ true) where
  at_ap : eqb s.role ap ≡ true
  at_ap = eq-eqb _ _ g.role

  answers : role_answers s.role ≡ true
  answers = ap_answers s.role at_ap

  -- "After kind 5 the next request passes": one from an address of the peer to our own, of a class that passes, in a buffer that takes a frame
  module _ (a : ℕ) (found : seek_of t (addresses_of t) a ≡ Some i) (k : Sort) (kind : Kind) (current : ℕ) (through : passes_of s.role (class_by k) 4 ≡ true) (xs : List ℕ) (n : ℕ) (room : ltb n longest ≡ false) (reads : read_of s.own (role_associates s.role) xs ≡ From a false k (heard.Request kind current)) where
    abbrev turn : Turn
    turn = hear_of s (get_or t i free_of) (class_by k) false (heard.Request kind current)

    abbrev after : Stepped
    after = step_of s t event.Frame xs n

    after_is : after.table ≡ set t i turn.peer
    unfolding stepped_of received_of heard_from seated_of towards_of
    after_is =
        let alone = hear_alone s (get_or t i free_of) (wf_settings s t w) answers (all_at (λ p. place_fits s p) t i free_of (wf_fits s t w) (rw l below)) (class_by k) false (heard.Request kind current) (λ off. clash (ap_associates s.role at_ap) off) in
        rw (room, w, reads, found, alone)

    pub let_in : after.answer.notice ≡ indication_of kind
    unfolding stepped_of received_of heard_from seated_of towards_of
    let_in = rw (room, w, reads, found) (one_passes s g (get_or t i free_of) four out (class_by k) kind current through).0

    -- the records keep their addresses and links
    same_names : map names after.table ≡ map names t
    same_names =
        let e = hear_links s (get_or t i free_of) (class_by k) false (heard.Request kind current) in
        let same : names turn.peer ≡ names (get_or t i free_of) = λ j. (e.0 j, e.1 j) in
        apply (map names) after_is ∙ map_set names t i turn.peer ∙ rw (same ∙ sym (get_map names t i free_of)) (set-get_or (map names t) i (names free_of))

    -- "and clears the mark": the next, from an address of the peer, moves nothing
    pub then_none :
        (b : ℕ) → seek_of t (addresses_of t) b ≡ Some i
        → (group : Bool) (k' : Sort) (kind' : Kind) (current' : ℕ) (xs' : List ℕ) (n' : ℕ) → read_of s.own (role_associates s.role) xs' ≡ From b group k' (heard.Request kind' current')
        → Calm after.table (step_of s after.table event.Frame xs' n')
    then_none b there group k' kind' current' xs' n' reads' =
        let is : get_or after.table i free_of ≡ turn.peer = rw after_is (get_or-set_same t i turn.peer free_of (rw l below)) in
        calm_step s after.table b group k' kind' current' xs' n' reads' i (seek_same t after.table same_names b ∙ there)
        (rw is ((one_passes s g (get_or t i free_of) four out (class_by k) kind current through).3 (class_by k') group kind' current'))

-- ---- The hypotheses are met: an access point, 02, with the peer 04 in State 4 at place 0, and an association request in the peer's name.

abbrev pub with : Query → List Record
with q = joined q 6 ∷ replicate 31 free_of

abbrev pub request : List ℕ
request =
    0 ∷ 0 ∷ 0 ∷ 0 ∷ 2 ∷ 0 ∷ 0 ∷ 0 ∷ 0 ∷ 0 ∷ 4 ∷ 0 ∷ 0 ∷ 0 ∷ 0 ∷ 0 ∷ 2 ∷ 0 ∷ 0 ∷ 0 ∷ 0 ∷ 0 ∷ 0 ∷ 0 ∷ 0x01 ∷ 0 ∷ 10 ∷ 0 ∷ []

reads_request : read_of site.own (role_associates site.role) request ≡ From 4 false (Listed 0) (heard.Request kind.Association 0)
unfolding valid_of group_of role_associates sort_of is_listed class_of is_public_action is_response broken_of heard_of least_management is_bare least_of shape_of for_us read_from read_full read_of
reads_request = refl

-- without a query, and with one that runs
first_calm : Calm (with query.None) (step_of site (with query.None) event.Frame request 37)
unfolding first_from seek_of find_link_of some_of
first_calm = forged_moves_nothing site (with query.None) 4 false (Listed 0) kind.Association 0 guarded request 37 reads_request refl refl

second_calm : Calm (with (query.Running 3 false)) (step_of site (with (query.Running 3 false)) event.Frame request 37)
unfolding first_from seek_of find_link_of some_of
second_calm = forged_moves_nothing site (with (query.Running 3 false)) 4 false (Listed 0) kind.Association 0 guarded request 37 reads_request refl refl

-- with the mark: it is let in
marked_well : well_formed site (with query.TimedOut) ≡ true
unfolding well_formed settings_fit query_times_fit network_fits role_answers role_asks role_associates highest_state time_fits valid_of all_tails place_fits is_free record_fits hold_fits query_allowed query_stands alone_in sparse_of no_links links_fit link_addresses_of
marked_well = refl

third_let_in : (step_of site (with query.TimedOut) event.Frame request 37).answer.notice ≡ 5
unfolding listed_class role_associates first_from seek_of find_link_of some_of
third_let_in =
    let_in site guarded (with query.TimedOut) marked_well refl 0 (omega arith) refl refl 4 refl (Listed 0) kind.Association 0 refl request 37 refl reads_request

fourth_calm : Calm (step_of site (with query.TimedOut) event.Frame request 37).table (step_of site (step_of site (with query.TimedOut) event.Frame request 37).table event.Frame request 37)
unfolding listed_class role_associates first_from seek_of find_link_of some_of
fourth_calm =
    then_none site guarded (with query.TimedOut) marked_well refl 0 (omega arith) refl refl 4 refl (Listed 0) kind.Association 0 refl request 37 refl reads_request
    4 refl false (Listed 0) kind.Association 0 request 37 reads_request
