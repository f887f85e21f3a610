-- 02, K2, "Two rules for a rejected association", of the whole table: what a rejection of ours leaves as it was in edition 2. That the edition is
-- asked for nothing else is in EditionsAlike.
--     states-kept, joined-kept, no_word  with protection no state is lowered, without it none below 3; no word is sent
-- Assumes nothing.
use Prim.Native.Nat.{ℕ}
use mathlib.Core.Path.{◌≡◌, refl}
use mathlib.Core.Bool.{true, false}
use mathlib.Core.List.{List, [], ◌∷◌, map}
use lib.Dec.{eqb}
use lib.ListN.{get_or}
use lib.Seq.{set-get_or}
use Rattle.octets.specs.Address.{valid_of}
use Rattle.octets.specs.Links.{no_links, unlinked}
use Rattle.octets.proofs.Branch.{pick_both}
use Rattle.octets.specs.declared.heard.Kind.TheVariants.{Reassociation}
use Rattle.peer.specs.Ask.{ask_of, declined_move, declined_of, respond_of}
use Rattle.peer.specs.Fit.{asked_fits, highest_state, hold_fits, links_fit, place_fits, query_allowed, record_fits, stands}
use Rattle.peer.specs.Moves.{ds_none}
use Rattle.peer.specs.Record.{changed_of, free_of, fresh_of, is_free, is_joined, spoken_at}
use Rattle.peer.specs.Refuse.{code_allowed, conflict_of, held_of, mismatch_of, role_allowed}
use Rattle.peer.specs.Settings.{network_fits, query_times_fit, role_answers, role_asks, role_associates, settings_fit, time_fits}
use Rattle.peer.specs.Turn.{ended_of, towards_of, turn_of}
use Rattle.peer.proofs.Editions.{declines, rejects, second_joined, second_protected, second_silent}
use Rattle.peer.specs.declared.settings.Settings.{Settings}
use Rattle.peer.specs.declared.exchange.Exchange.TheVariants.{Asked}
use Rattle.peer.specs.declared.query.Query.TheVariants as query
use Rattle.peer.specs.declared.record.Record.{Record}
use Rattle.peer.specs.declared.refuse.Others.{Others}
use Rattle.peer.specs.declared.turn.Turn.{Turn}
use Rattle.table.specs.Answer.{refused_of, settled_of, stepped_of}
use Rattle.table.specs.Fit.{alone_in, sparse_of, well_formed}
use Rattle.table.specs.Others.{others_of}
use Rattle.table.specs.Places.{addresses_of, all_tails, find_link_of, find_of, first_from, link_addresses_of, some_of}
use Rattle.table.specs.Ask.{asked_at, asked_of, may_ask, no_place}
use Rattle.table.specs.Refusals.{first_of, unless}
use Rattle.table.specs.Seat.{aid_of, newcomer_of, peer_of, seated_of, starts_of, stranger_of, turn_in}
use Rattle.table.specs.Step.{step_of}
use Rattle.table.specs.declared.rules.answer.Met.{Met}
use Rattle.table.specs.declared.rules.event.Event.TheVariants as event
use Rattle.std.specs.Prelude.{Option, Some, None}
use Rattle.table.proofs.Passes.Lists.{get_map, map_set}

-- ---- a rejection of ours, in the whole table

abbrev state_of : Record → ℕ
state_of p = p.state

module _ (s : Settings) (t : List Record) (q a c : ℕ) (r : rejects q c ≡ true) where
  -- the turn of a peer found at a place, or of one without a record
  abbrev turn : Option ℕ → Turn
  turn at = towards_of (spoken_at (peer_of t at a)) (ask_of s (aid_of at) (peer_of t at a) (others_of s t) q c)

  -- What a rejection leaves of its peer's record it leaves of the whole table, place for place; a peer without a record gets none.
  module _ {A : Type 0} (f : Record → A) (kept : (p : Record) (aid : ℕ) (o : Others) → f (ask_of s aid p o q c).peer ≡ f p) where
    turn_kept : (at free : Option ℕ) → map f (turn_in t at free (turn at) (turn at)).table ≡ map f t
    unfolding newcomer_of stranger_of seated_of starts_of declined_of turn_of ended_of changed_of fresh_of no_links towards_of
    turn_kept None free = rw (declines s 0 (fresh_of a) (others_of s t) q c r)
    turn_kept (Some i) free =
        let alone : (turn (Some i)).sole ≡ false = rw (declines s (aid_of (Some i)) (get_or t i free_of) (others_of s t) q c r) in
        rw (alone, map_set f t i (turn (Some i)).peer, kept (get_or t i free_of) (aid_of (Some i)) (others_of s t), ← get_map f t i free_of)
        (set-get_or (map f t) i (f free_of))

    unless_kept : (n : ℕ) (m : Met) → map f m.table ≡ map f t → map f (unless n t m).table ≡ map f t
    unfolding unless refused_of settled_of
    unless_kept n m k = pick_both (λ (m : Met). map f m.table ≡ map f t) (eqb n 0) k refl

    step_kept : (xs : List ℕ) (n : ℕ) → map f (step_of s t (event.Ask q a c) xs n).table ≡ map f t
    unfolding stepped_of asked_of asked_at
    step_kept xs n =
        unless_kept _ _ (unless_kept _ _ (turn_kept (find_of (addresses_of t) a) (find_of (addresses_of t) 0)))

  -- With edition 2 and protection no rejection of ours lowers a state.
  pub states_kept :
      s.edition ≡ 2 → s.protection ≡ 1 → (xs : List ℕ) (n : ℕ) → map state_of (step_of s t (event.Ask q a c) xs n).table ≡ map state_of t
  states_kept e p xs n = step_kept state_of (λ x aid o. second_protected s aid x o q c r e p) xs n

  -- With edition 2 none is lowered below 3 that was in State 3 or 4, and none is raised to it;
  pub joined_kept :
      s.edition ≡ 2 → (xs : List ℕ) (n : ℕ) → map is_joined (step_of s t (event.Ask q a c) xs n).table ≡ map is_joined t
  joined_kept e xs n = step_kept is_joined (λ x aid o. second_joined s aid x o q c r e) xs n

  abbrev Quiet : Met → Type 0
  Quiet m = m.answer.ds ≡ ds_none

  unless_word : (n : ℕ) (m : Met) → Quiet m → Quiet (unless n t m)
  unfolding unless refused_of settled_of
  unless_word n m k = pick_both Quiet (eqb n 0) k refl

  turn_word : (at free : Option ℕ) → (turn at).ds ≡ ds_none → Quiet (turn_in t at free (turn at) (turn at))
  unfolding newcomer_of stranger_of seated_of
  turn_word None None k = pick_both Quiet (starts_of (turn None)) k k
  turn_word None (Some i) k = pick_both Quiet (starts_of (turn None)) k k
  turn_word (Some j) free k = k

  -- and the distribution system hears nothing.
  pub no_word : s.edition ≡ 2 → (xs : List ℕ) (n : ℕ) → (step_of s t (event.Ask q a c) xs n).answer.ds ≡ ds_none
  unfolding stepped_of asked_of asked_at towards_of
  no_word e xs n =
      let at = find_of (addresses_of t) a in
      unless_word _ _ (unless_word _ _ (turn_word at (find_of (addresses_of t) 0) (second_silent s (aid_of at) (peer_of t at a) (others_of s t) q c r e)))

-- ---- The hypotheses are met: at an access point a peer in State 4 at place 0 has asked for reassociation, and primitive 8 rejects it.

abbrev pub site : ℕ → ℕ → ℕ → Settings
site role edition protection =
    record { own = 2; network = 0; authentication = 100; association = 100; role = role; rsna = 0; edition = edition; protection = protection; retry = 201; maximum = 1000 }

abbrev asking : Record
asking = record { address = 4; state = 4; exchange = Asked Reassociation; left = 0; hold = 0; query = query.None; identifier = 0; links = unlinked }

four_kept : map state_of (step_of (site 1 2 1) (asking ∷ []) (event.Ask 8 4 1) [] 37).table ≡ 4 ∷ []
four_kept = states_kept (site 1 2 1) (asking ∷ []) 8 4 1 refl refl refl [] 37

still_joined : map is_joined (step_of (site 1 2 0) (asking ∷ []) (event.Ask 8 4 1) [] 37).table ≡ true ∷ []
unfolding is_joined
still_joined = joined_kept (site 1 2 0) (asking ∷ []) 8 4 1 refl refl [] 37

-- (it is done, and not refused)
not_refused :
    ((step_of (site 1 2 0) (asking ∷ []) (event.Ask 8 4 1) [] 37).answer.refusal ≡ 0) × ((step_of (site 1 2 0) (asking ∷ []) (event.Ask 8 4 1) [] 37).answer.state ≡ 3)
unfolding stepped_of asked_of unless first_of well_formed settings_fit query_times_fit network_fits role_answers role_asks role_associates time_fits valid_of all_tails place_fits is_free record_fits highest_state query_allowed hold_fits asked_fits stands alone_in sparse_of
    asked_at may_ask code_allowed role_allowed conflict_of mismatch_of held_of no_place first_from ask_of respond_of declined_of declined_move turn_of ended_of changed_of seated_of
    no_links links_fit link_addresses_of find_link_of some_of towards_of spoken_at
not_refused = (refl, refl)
