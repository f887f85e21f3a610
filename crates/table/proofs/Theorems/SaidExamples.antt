-- What `step_said` says of four steps, computed; and that the AID, the state and the associated AP of which it speaks are those of the records'
-- places (`aid_place`, `peer_place`, `associated_place`).
-- Assumes nothing.
use Rattle.std.specs.Prelude.{Some, None}
use Prim.Native.Nat.{ℕ, zero, suc, ◌+◌, ◌<◌, ◌≤◌}
use mathlib.Core.Path.{◌≡◌, refl}
use mathlib.Core.Bool.{true, false}
use mathlib.Core.List.{List, [], ◌∷◌}
use native.Mathlib.Omega.{arith}
use native.Mathlib.Nat.{le_of_suc-le-suc, not-suc-le-zero}
use lib.Dec.{eqb}
use lib.ListN.{length, get_or, replicate}
use borrow.Author.Tests.{lt-ltb}
use Rattle.octets.proofs.Branch.{by_bool}
use Rattle.octets.specs.Address.{valid_of, group_of}
use Rattle.octets.specs.Class.{class_in, class_of, is_public_action, listed_class}
use Rattle.octets.specs.Element.{broken_of, is_response}
use Rattle.octets.specs.Field.{octets}
use Rattle.octets.specs.Frame.{aid_field, body_of, bytes_of, capability_of, comeback_element, head_of, length_of, written_of}
use Rattle.octets.specs.Heard.{heard_of}
use Rattle.octets.specs.Shape.{is_bare, least_management, least_of, shape_of}
use Rattle.octets.specs.declared.heard.Heard.TheVariants as heard
use Rattle.octets.specs.declared.heard.Kind.TheVariants.{Association, Authentication}
use Rattle.octets.specs.Links.{no_links, unlinked}
use Rattle.octets.specs.Sort.{is_listed, sort_of}
use Rattle.peer.proofs.Queries.{site}
use Rattle.peer.specs.Ask.{answer_of, ask_of, awaited_of, respond_of, started_of}
use Rattle.peer.specs.Association.{request_heard}
use Rattle.peer.specs.Challenge.{challenged_of, inquired_of, is_challenged, querying_of}
use Rattle.peer.specs.Authentication.{answered_move}
use Rattle.peer.specs.Filter.{barred_of}
use Rattle.peer.specs.Fit.{asked_fits, highest_state, hold_fits, place_fits, query_allowed, query_stands, record_fits, running_fits, stands, links_fit}
use Rattle.peer.specs.Hear.{hear_of}
use Rattle.peer.specs.Moves.{ds_of}
use Rattle.peer.specs.Query.{query_in, running_of}
use Rattle.peer.specs.Record.{associates, changed_of, free_of, fresh_of, is_free, is_joined, queried_of, spoken_at}
use Rattle.peer.specs.Refuse.{code_allowed, conflict_of, held_of, joined_elsewhere, mismatch_of, role_allowed}
use Rattle.peer.specs.Reply.{authentication_to, deauthentication_to, later_to, network_address, query_to, request_to, response_to, send_of}
use Rattle.peer.specs.Said.{ReadsTo}
use Rattle.peer.specs.Settings.{network_fits, query_times_fit, role_answers, role_asks, role_associates, settings_fit, time_fits}
use Rattle.peer.specs.Turn.{begun_of, ended_of, replied_of, turn_of, towards_of}
use Rattle.peer.specs.declared.exchange.Exchange.TheVariants.{Asked, None}
use Rattle.peer.specs.declared.query.Query.TheVariants as query
use Rattle.peer.specs.declared.record.Record.{Record}
use Rattle.peer.specs.declared.settings.Settings.{Settings}
use Rattle.table.specs.Answer.{refused_of, settled_of, stepped_of}
use Rattle.table.specs.Ask.{asked_at, asked_of, may_ask, no_place}
use Rattle.table.specs.Fit.{alone_in, crowd_of, sparse_of, well_formed}
use Rattle.table.specs.Others.{associated_of, others_of}
use Rattle.table.specs.Places.{addresses_of, all_tails, count_of, find_of, first_from, find_link_of, link_addresses_of, seek_of, some_of}
use Rattle.table.specs.Read.{for_us, read_from, read_full, read_of}
use Rattle.table.specs.Receive.{heard_from, received_of}
use Rattle.table.specs.Refusals.{first_of, unless}
use Rattle.table.specs.Seat.{aid_of, newcomer_of, peer_of, seated_of, starts_of, stranger_of}
use Rattle.table.specs.declared.rules.event.Event.TheVariants as event
use Rattle.std.specs.declared.option.Option.TheVariants as option
use Rattle.table.proofs.Order.OwnRecord.{find_at, wf_distinct}
use Rattle.table.proofs.Theorems.Forged.{request, with}
use Rattle.table.proofs.Theorems.SaidBack.{step_said}
use Rattle.table.proofs.Theorems.Well.{well_of}

-- ---- two steps of an AP, own address 0a, with 0c associated and 0e at place 1, whose association is asked

abbrev home : Settings
home = record { role = 1; own = 0x0a; network = 0; rsna = 0; authentication = 10; association = 10; edition = 1; protection = 0; retry = 201; maximum = 1000 }

abbrev two : List Record
two =
    (record { address = 0x0c; state = 4; exchange = None; left = 0; hold = 0; query = query.None; identifier = 0; links = unlinked })
    ∷ (record { address = 0x0e; state = 2; exchange = Asked Association; left = 0; hold = 0; query = query.None; identifier = 0; links = unlinked })
    ∷ replicate 30 free_of

-- primitive 7, status 0
accepted :
    ReadsTo home 0x0e (heard.Response Association 0 2 None)
    (0x10 ∷ 0 ∷ 0 ∷ 0 ∷ 0x0e ∷ 0 ∷ 0 ∷ 0 ∷ 0 ∷ 0 ∷ 0x0a ∷ 0 ∷ 0 ∷ 0 ∷ 0 ∷ 0 ∷ 0x0a ∷ 0 ∷ 0 ∷ 0 ∷ 0 ∷ 0 ∷ 0 ∷ 0 ∷
    0x01 ∷ 0 ∷ 0 ∷ 0 ∷ 2 ∷ 0xc0 ∷ [])
unfolding valid_of octets capability_of aid_field head_of body_of bytes_of written_of length_of settings_fit query_times_fit network_fits role_answers role_asks role_associates time_fits is_joined associates fresh_of is_free
    changed_of query_in stands asked_fits hold_fits record_fits highest_state query_allowed place_fits ds_of network_address send_of response_to turn_of begun_of code_allowed role_allowed conflict_of
    joined_elsewhere mismatch_of held_of awaited_of respond_of ask_of first_from all_tails count_of alone_in crowd_of sparse_of well_formed associated_of
    others_of settled_of refused_of stepped_of seated_of starts_of newcomer_of first_of unless may_ask no_place asked_at asked_of
    no_links links_fit link_addresses_of some_of find_link_of seek_of towards_of spoken_at
accepted = step_said home two refl (event.Ask 7 0x0e 0) [] (replicate 37 0) (omega arith) (omega arith)

-- a data frame of a stranger, 06
kept_out :
    ReadsTo home 0x06 (heard.Deauthentication 7)
    (0xc0 ∷ 0 ∷ 0 ∷ 0 ∷ 0x06 ∷ 0 ∷ 0 ∷ 0 ∷ 0 ∷ 0 ∷ 0x0a ∷ 0 ∷ 0 ∷ 0 ∷ 0 ∷ 0 ∷ 0x0a ∷ 0 ∷ 0 ∷ 0 ∷ 0 ∷ 0 ∷ 0 ∷ 0 ∷ 7 ∷ 0 ∷ [])
unfolding valid_of group_of octets sort_of is_listed listed_class class_in class_of is_public_action is_response broken_of heard_of is_bare least_of shape_of head_of body_of bytes_of written_of length_of settings_fit query_times_fit network_fits role_answers role_asks role_associates time_fits is_joined
    associates fresh_of is_free changed_of query_in stands asked_fits hold_fits record_fits highest_state query_allowed place_fits ds_of network_address send_of deauthentication_to turn_of replied_of
    barred_of hear_of first_from all_tails count_of alone_in crowd_of sparse_of well_formed settled_of refused_of stepped_of seated_of starts_of newcomer_of
    stranger_of for_us read_from read_full read_of heard_from received_of
    no_links links_fit link_addresses_of some_of find_link_of seek_of towards_of spoken_at
kept_out =
    step_said home two refl event.Frame
    (0x08 ∷ 1 ∷ 0 ∷ 0 ∷ 0x0a ∷ 0 ∷ 0 ∷ 0 ∷ 0 ∷ 0 ∷ 0x06 ∷ 0 ∷ 0 ∷ 0 ∷ 0 ∷ 0 ∷ 0x0c ∷ 0 ∷ 0 ∷ 0 ∷ 0 ∷ 0 ∷ 0 ∷ 0 ∷ [])
    (replicate 37 0) refl (omega arith)

-- 02, K5: an association request in the name of 04, in State 4, with edition 2 and protection
put_off :
    ReadsTo site 0x04 (heard.Response Association 30 0 (Some 1000))
    (0x10 ∷ 0 ∷ 0 ∷ 0 ∷ 0x04 ∷ 0 ∷ 0 ∷ 0 ∷ 0 ∷ 0 ∷ 0x02 ∷ 0 ∷ 0 ∷ 0 ∷ 0 ∷ 0 ∷ 0x02 ∷ 0 ∷ 0 ∷ 0 ∷ 0 ∷ 0 ∷ 0 ∷ 0 ∷
    0x01 ∷ 0 ∷ 30 ∷ 0 ∷ 0 ∷ 0 ∷ 56 ∷ 5 ∷ 3 ∷ 0xe8 ∷ 0x03 ∷ 0 ∷ 0 ∷ [])
unfolding valid_of group_of octets sort_of is_listed listed_class class_in class_of is_public_action is_response broken_of heard_of least_management is_bare least_of shape_of capability_of comeback_element aid_field
    head_of body_of bytes_of written_of length_of settings_fit query_times_fit network_fits role_answers role_asks role_associates time_fits is_free hold_fits record_fits highest_state query_allowed place_fits network_address send_of later_to
    turn_of is_challenged challenged_of querying_of queried_of running_of request_heard hear_of first_from all_tails alone_in sparse_of well_formed settled_of refused_of
    stepped_of seated_of for_us read_from read_full read_of heard_from received_of
    no_links links_fit link_addresses_of some_of find_link_of seek_of towards_of spoken_at
put_off = step_said site (with query.None) refl event.Frame request (replicate 37 0) refl (omega arith)

-- and primitive 11, where the query to it is due
inquired :
    ReadsTo site 0x04 (heard.QueryRequest 6)
    (0xd0 ∷ 0 ∷ 0 ∷ 0 ∷ 0x04 ∷ 0 ∷ 0 ∷ 0 ∷ 0 ∷ 0 ∷ 0x02 ∷ 0 ∷ 0 ∷ 0 ∷ 0 ∷ 0 ∷ 0x02 ∷ 0 ∷ 0 ∷ 0 ∷ 0 ∷ 0 ∷ 0 ∷ 0 ∷ 8 ∷ 0 ∷ 6 ∷ 0 ∷ [])
unfolding valid_of octets head_of body_of bytes_of written_of length_of settings_fit query_times_fit network_fits role_answers role_asks role_associates time_fits is_free hold_fits record_fits highest_state query_allowed running_fits query_stands
    place_fits network_address send_of query_to turn_of inquired_of queried_of code_allowed role_allowed conflict_of mismatch_of held_of ask_of first_from all_tails alone_in sparse_of
    well_formed others_of settled_of refused_of stepped_of seated_of first_of unless may_ask no_place asked_at asked_of
    no_links links_fit link_addresses_of some_of find_link_of seek_of towards_of spoken_at
inquired = step_said site (with (query.Running 3 true)) refl (event.Ask 11 0x04 0) [] (replicate 37 0) (omega arith) (omega arith)

-- ---- in an ad hoc network, 06, where Address 3 is the network's: primitive 1 to a stranger, and primitive 2 to one that asked

abbrev met : Settings
met = record { role = 3; own = 0x0a; network = 0x06; rsna = 0; authentication = 10; association = 10; edition = 1; protection = 0; retry = 201; maximum = 1000 }

asked_first :
    ReadsTo met 0x0c (heard.Authentication 0 1 0)
    (0xb0 ∷ 0 ∷ 0 ∷ 0 ∷ 0x0c ∷ 0 ∷ 0 ∷ 0 ∷ 0 ∷ 0 ∷ 0x0a ∷ 0 ∷ 0 ∷ 0 ∷ 0 ∷ 0 ∷ 0x06 ∷ 0 ∷ 0 ∷ 0 ∷ 0 ∷ 0 ∷ 0 ∷ 0 ∷ 0 ∷ 0 ∷ 1 ∷ 0 ∷ 0 ∷ 0 ∷ [])
unfolding valid_of octets head_of body_of bytes_of written_of length_of settings_fit query_times_fit network_fits role_answers role_asks role_associates time_fits is_free fresh_of
    place_fits network_address send_of request_to turn_of started_of begun_of changed_of query_in code_allowed role_allowed conflict_of mismatch_of held_of ask_of first_from all_tails alone_in
    sparse_of well_formed others_of settled_of refused_of stepped_of seated_of starts_of newcomer_of first_of unless may_ask no_place asked_at asked_of
    no_links links_fit link_addresses_of some_of find_link_of seek_of towards_of spoken_at
asked_first = step_said met (replicate 32 free_of) refl (event.Ask 1 0x0c 0) [] (replicate 37 0) (omega arith) (omega arith)

abbrev asking : List Record
asking = (record { address = 0x0c; state = 1; exchange = Asked Authentication; left = 0; hold = 0; query = query.None; identifier = 0; links = unlinked }) ∷ replicate 31 free_of

answered :
    ReadsTo met 0x0c (heard.Authentication 0 2 0)
    (0xb0 ∷ 0 ∷ 0 ∷ 0 ∷ 0x0c ∷ 0 ∷ 0 ∷ 0 ∷ 0 ∷ 0 ∷ 0x0a ∷ 0 ∷ 0 ∷ 0 ∷ 0 ∷ 0 ∷ 0x06 ∷ 0 ∷ 0 ∷ 0 ∷ 0 ∷ 0 ∷ 0 ∷ 0 ∷ 0 ∷ 0 ∷ 2 ∷ 0 ∷ 0 ∷ 0 ∷ [])
unfolding valid_of octets head_of body_of bytes_of written_of length_of settings_fit query_times_fit network_fits role_answers role_asks role_associates time_fits is_free hold_fits
    asked_fits stands record_fits highest_state query_allowed place_fits network_address send_of authentication_to turn_of answer_of answered_move ended_of changed_of query_in code_allowed role_allowed
    conflict_of mismatch_of held_of ask_of first_from all_tails alone_in sparse_of well_formed others_of settled_of refused_of stepped_of seated_of first_of unless may_ask no_place
    asked_at asked_of
    no_links links_fit link_addresses_of some_of find_link_of seek_of towards_of spoken_at
answered = step_said met asking refl (event.Ask 2 0x0c 0) [] (replicate 37 0) (omega arith) (omega arith)

-- ---- the places

module _ (s : Settings) (t : List Record) (h : well_formed s t ≡ true) (l : length t ≡ 32) (i : ℕ) (below : i < 32) (some : eqb (get_or t i free_of).address 0 ≡ false) where
  found_place : find_of (addresses_of t) (get_or t i free_of).address ≡ option.Some i
  found_place = find_at t i (wf_distinct s t h) (rw l below) some

  -- "An AP gives AID = place + 1"
  pub aid_place : aid_of (find_of (addresses_of t) (get_or t i free_of).address) ≡ i + 1
  aid_place = rw (found_place, lt-ltb i 32 below)

  pub peer_place : peer_of t (find_of (addresses_of t) (get_or t i free_of).address) (get_or t i free_of).address ≡ get_or t i free_of
  peer_place = rw found_place

-- a record that passes a test is counted
counted : (t : List Record) (i : ℕ) → i < length t → is_joined (get_or t i free_of) ≡ true → 1 ≤ count_of is_joined t
unfolding count_of
counted [] i b j = absurd (not-suc-le-zero b)
counted (p ∷ t) zero b j = rw j (omega arith)
counted (p ∷ t) (suc i) b j = let n = counted t i (le_of_suc-le-suc b) j in omega arith

-- "the associated AP's address": of the record in State 3 or 4
only : (t : List Record) (i : ℕ) → i < length t → count_of is_joined t ≤ 1 → is_joined (get_or t i free_of) ≡ true → associated_of t ≡ (get_or t i free_of).address
unfolding associated_of count_of
only [] i b c j = absurd (not-suc-le-zero b)
only (p ∷ t) zero b c j = rw j
only (p ∷ t) (suc i) b c j = by_bool (is_joined p)
    (λ e.
    let n = counted t i (le_of_suc-le-suc b) j in
    let m : 1 + count_of is_joined t ≤ 1 = rw e at c in
    absurd (omega arith))
    (λ e.
    let m : 0 + count_of is_joined t ≤ 1 = rw e at c in
    rw e (only t i (le_of_suc-le-suc b) (omega arith) j))

pub associated_place :
    (s : Settings) (t : List Record) → well_formed s t ≡ true → length t ≡ 32 → role_answers s.role ≡ false → (i : ℕ) → i < 32 → is_joined (get_or t i free_of) ≡ true
    → (others_of s t).associated ≡ (get_or t i free_of).address
unfolding others_of
associated_place s t h l r i below j =
    let w = well_of s t h l in
    rw r (only t i (rw l below) (w.joined r) j)
