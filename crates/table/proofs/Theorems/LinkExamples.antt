-- The laws of links at work: an access point, 0a, with the device 0c in State 1 and its links 12 and 14, and the peer 0e in State 2. Every hypothesis
-- of Links.antt is met, the refusals of primitive 12 are computed, and replies go where they must (`step_said`).
-- Assumes nothing.
use Prim.Native.Nat.{ℕ}
use mathlib.Core.Path.{◌≡◌, refl}
use mathlib.Core.Bool.{true, false}
use mathlib.Core.List.{List, [], ◌∷◌, map}
use native.Mathlib.Omega.{arith}
use lib.ListN.{get_or, replicate}
use Rattle.octets.specs.Address.{group_of, valid_of}
use Rattle.octets.specs.Class.{class_in, class_of, is_public_action, listed_class}
use Rattle.octets.specs.Element.{broken_of, is_response}
use Rattle.octets.specs.Field.{octets}
use Rattle.octets.specs.Frame.{body_of, bytes_of, head_of, length_of, written_of}
use Rattle.octets.specs.Heard.{heard_of}
use Rattle.octets.specs.Links.{links_at, no_links, unlinked}
use Rattle.octets.specs.Shape.{is_bare, least_of, shape_of}
use Rattle.octets.specs.declared.sort.Sort.TheVariants.{Listed}
use Rattle.octets.specs.declared.heard.Heard.TheVariants as heard
use Rattle.octets.specs.declared.links.Links.{Links}
use Rattle.octets.specs.Sort.{is_listed, sort_of}
use Rattle.peer.specs.Ask.{ask_of, deauthenticate_of}
use Rattle.peer.specs.Filter.{barred_of}
use Rattle.peer.specs.Fit.{highest_state, hold_fits, links_fit, links_stand, place_fits, query_allowed, record_fits, slot_fits}
use Rattle.peer.specs.Hear.{hear_of}
use Rattle.peer.specs.Moves.{ds_of}
use Rattle.peer.specs.Query.{query_in}
use Rattle.peer.specs.Record.{associates, changed_of, free_of, is_free, is_joined, linked_of as withLinks, spoken_at}
use Rattle.peer.specs.Refuse.{code_allowed, conflict_of, held_of, mismatch_of, role_allowed}
use Rattle.peer.specs.Reply.{deauthentication_to, network_address, send_of}
use Rattle.peer.specs.Said.{ReadsTo}
use Rattle.peer.specs.Settings.{network_fits, query_times_fit, role_answers, role_asks, role_associates, settings_fit, time_fits}
use Rattle.peer.specs.Turn.{ended_of, linking_of, replied_of, towards_of, turn_of}
use Rattle.peer.specs.declared.query.Query.TheVariants as query
use Rattle.peer.specs.declared.exchange.Exchange.TheVariants.{None}
use Rattle.peer.specs.declared.record.Record.{Record}
use Rattle.peer.specs.declared.settings.Settings.{Settings}
use Rattle.table.specs.Answer.{refused_of, settled_of, stepped_of}
use Rattle.table.specs.Ask.{asked_at, asked_of, may_ask, no_place}
use Rattle.table.specs.Fit.{alone_in, crowd_of, sparse_of, well_formed}
use Rattle.table.specs.Link.{count_fits, link_allowed, linked_at, linked_of, may_link, used_elsewhere}
use Rattle.table.specs.Others.{others_of}
use Rattle.table.specs.Places.{all_tails, count_of, find_link_of, first_from, link_addresses_of, seek_of, some_of}
use Rattle.table.specs.Read.{for_us, read_from, read_full, read_of}
use Rattle.table.specs.Receive.{heard_from, received_of}
use Rattle.table.specs.Refusals.{first_of, unless}
use Rattle.table.specs.Seat.{seated_of}
use Rattle.table.specs.Step.{step_of}
use Rattle.table.specs.declared.rules.event.Event.TheVariants as event
use Rattle.table.specs.declared.rules.read.Reading.TheVariants.{From}
use Rattle.table.proofs.Theorems.LinkFrames.{Head, Six, steps_frame_alike}
use Rattle.table.proofs.Theorems.Links.{Unmoved, leads, links_leave, links_move_no_state, one_record, steps_link_alike}
use Rattle.table.proofs.Theorems.SaidBack.{step_said}

abbrev site : Settings
site = record { role = 1; own = 0x0a; network = 0; rsna = 0; authentication = 10; association = 10; edition = 1; protection = 0; retry = 201; maximum = 1000 }

abbrev placed : ℕ → ℕ → Links → Record
placed address state links = record { address = address; state = state; exchange = None; left = 0; hold = 0; query = query.None; identifier = 0; links = links }

abbrev two : Links
two = record { one = 0x12; two = 0x14; three = 0; four = 0 }

abbrev known : List Record
known = placed 0x0c 1 two ∷ placed 0x0e 2 unlinked ∷ replicate 30 free_of

known_well : well_formed site known ≡ true
unfolding well_formed settings_fit query_times_fit network_fits role_answers role_asks role_associates highest_state time_fits valid_of all_tails place_fits is_free record_fits
    hold_fits query_allowed alone_in sparse_of no_links links_fit links_stand slot_fits link_addresses_of
known_well = refl

-- the link 14 leads to the device's record, and to no other
one_leads : (j : ℕ) → leads (get_or known j free_of) 0x14 ≡ true → j ≡ 0
unfolding some_of
one_leads j h = one_record site known known_well 0x14 refl j 0 h refl

-- a data frame from each link, of class 3
abbrev data_from : ℕ → List ℕ
data_from a = 0x08 ∷ 1 ∷ 0 ∷ 0 ∷ 0x0a ∷ 0 ∷ 0 ∷ 0 ∷ 0 ∷ 0 ∷ a ∷ 0 ∷ 0 ∷ 0 ∷ 0 ∷ 0 ∷ 0x0e ∷ 0 ∷ 0 ∷ 0 ∷ 0 ∷ 0 ∷ 0 ∷ 0 ∷ []

both_read :
    (read_of site.own (role_associates site.role) (data_from 0x12) ≡ From 0x12 false (Listed 0x08) heard.Other)
    × (read_of site.own (role_associates site.role) (data_from 0x14) ≡ From 0x14 false (Listed 0x08) heard.Other)
unfolding valid_of group_of role_associates sort_of is_listed class_of is_public_action is_response broken_of heard_of is_bare least_of shape_of for_us read_from read_full read_of
both_read = (refl, refl)

both_alike : step_of site known event.Frame (data_from 0x14) 37 ≡ step_of site known event.Frame (data_from 0x12) 37
unfolding some_of
both_alike = steps_link_alike site known 0 0x12 0x14 refl refl false (Listed 0x08) heard.Other (data_from 0x12) (data_from 0x14) both_read.0 both_read.1 37

-- the same, octet for octet
abbrev ahead : Head
ahead = record { h0 = 0x08; h1 = 1; h2 = 0; h3 = 0; h4 = 0x0a; h5 = 0; h6 = 0; h7 = 0; h8 = 0; h9 = 0 }

abbrev six : ℕ → Six
six a = record { a0 = a; a1 = 0; a2 = 0; a3 = 0; a4 = 0; a5 = 0 }

both_the_same : step_of site known event.Frame (data_from 0x14) 37 ≡ step_of site known event.Frame (data_from 0x12) 37
unfolding some_of
both_the_same = steps_frame_alike site known 0 (six 0x12) (six 0x14) refl refl refl refl ahead (0x0e ∷ 0 ∷ 0 ∷ 0 ∷ 0 ∷ 0 ∷ 0 ∷ 0 ∷ []) 37 refl

-- "Replies go to the frame's Address 2": a deauthentication to the link 14
back_to_link :
    ReadsTo site 0x14 (heard.Deauthentication 7)
    (0xc0 ∷ 0 ∷ 0 ∷ 0 ∷ 0x14 ∷ 0 ∷ 0 ∷ 0 ∷ 0 ∷ 0 ∷ 0x0a ∷ 0 ∷ 0 ∷ 0 ∷ 0 ∷ 0 ∷ 0x0a ∷ 0 ∷ 0 ∷ 0 ∷ 0 ∷ 0 ∷ 0 ∷ 0 ∷ 7 ∷ 0 ∷ [])
unfolding valid_of group_of octets sort_of is_listed listed_class class_in class_of is_public_action is_response broken_of heard_of is_bare least_of shape_of head_of body_of bytes_of written_of length_of
    settings_fit query_times_fit network_fits role_answers role_asks role_associates time_fits is_joined associates is_free hold_fits record_fits highest_state query_allowed
    place_fits ds_of network_address send_of deauthentication_to turn_of replied_of barred_of hear_of first_from all_tails count_of alone_in crowd_of sparse_of well_formed settled_of
    refused_of stepped_of seated_of for_us read_from read_full read_of heard_from received_of no_links links_fit links_stand slot_fits link_addresses_of some_of find_link_of seek_of
    towards_of
back_to_link = step_said site known refl event.Frame (data_from 0x14) (replicate 37 0) refl (omega arith)

-- "frames asked by a primitive to the first link": primitive 3 to the device, once it is in State 2
abbrev later : List Record
later = placed 0x0c 2 two ∷ replicate 31 free_of

to_first_link :
    ReadsTo site 0x12 (heard.Deauthentication 1)
    (0xc0 ∷ 0 ∷ 0 ∷ 0 ∷ 0x12 ∷ 0 ∷ 0 ∷ 0 ∷ 0 ∷ 0 ∷ 0x0a ∷ 0 ∷ 0 ∷ 0 ∷ 0 ∷ 0 ∷ 0x0a ∷ 0 ∷ 0 ∷ 0 ∷ 0 ∷ 0 ∷ 0 ∷ 0 ∷ 1 ∷ 0 ∷ [])
unfolding valid_of octets head_of body_of bytes_of written_of length_of settings_fit query_times_fit network_fits role_answers role_asks role_associates time_fits is_free hold_fits
    record_fits highest_state query_allowed place_fits ds_of network_address send_of deauthentication_to turn_of ended_of changed_of query_in deauthenticate_of code_allowed
    role_allowed conflict_of mismatch_of held_of ask_of first_from all_tails alone_in sparse_of well_formed others_of settled_of refused_of stepped_of seated_of first_of unless
    may_ask no_place asked_at asked_of no_links links_fit links_stand slot_fits link_addresses_of some_of find_link_of towards_of spoken_at
to_first_link = step_said site later refl (event.Ask 3 0x0c 1) [] (replicate 37 0) (omega arith) (omega arith)

-- ---- primitive 12: the device, the count, the links

abbrev address : ℕ → List ℕ → List ℕ
address a xs = a ∷ 0 ∷ 0 ∷ 0 ∷ 0 ∷ 0 ∷ xs

-- another link for the device: done
abbrev another : List ℕ
another = address 0x0c (1 ∷ address 0x22 [])

relinked : ((step_of site known event.Links another 37).answer.refusal ≡ 0) × ((get_or (step_of site known event.Links another 37).table 0 free_of).links ≡ record { one = 0x22; two = 0; three = 0; four = 0 })
unfolding valid_of settings_fit query_times_fit network_fits role_answers role_asks role_associates time_fits is_free hold_fits record_fits highest_state query_allowed place_fits
    ds_of turn_of linking_of withLinks first_from all_tails alone_in sparse_of well_formed settled_of refused_of stepped_of seated_of first_of unless no_links links_fit links_stand
    slot_fits link_addresses_of some_of find_link_of links_at count_fits used_elsewhere link_allowed may_link linked_at linked_of
relinked = (refl, refl)

-- neither the device's state is moved, nor the other's record changed
still : Unmoved (placed 0x0c 1 two) (get_or (step_of site known event.Links another 37).table 0 free_of)
still = links_move_no_state site known another 37 0 refl

left_alone : get_or (step_of site known event.Links another 37).table 1 free_of ≡ placed 0x0e 2 unlinked
left_alone = links_leave site known another 37 1 refl refl

-- "3 for an address invalid, own, given twice or in use elsewhere, a count over 4, or a link address named in a primitive; .. 7 outside State 1":
-- an invalid link, our own, one given twice, another device's, a count of 5, a link as the device; a device in State 2; and a primitive to a link
refusals :
    map (λ (xs : List ℕ). (step_of site known event.Links xs 37).answer.refusal)
    (address 0x0c (1 ∷ address 0x21 [])
    ∷ address 0x0c (1 ∷ address 0x0a [])
    ∷ address 0x0c (2 ∷ address 0x22 (address 0x22 []))
    ∷ address 0x0c (1 ∷ address 0x0e [])
    ∷ address 0x0c (5 ∷ [])
    ∷ address 0x12 (0 ∷ [])
    ∷ address 0x0e (1 ∷ address 0x22 [])
    ∷ [])
    ≡ 3 ∷ 3 ∷ 3 ∷ 3 ∷ 3 ∷ 3 ∷ 7 ∷ []
unfolding valid_of settings_fit query_times_fit network_fits role_answers role_asks role_associates time_fits is_free hold_fits record_fits highest_state query_allowed place_fits
    ds_of turn_of linking_of withLinks first_from all_tails alone_in sparse_of well_formed settled_of refused_of stepped_of seated_of first_of unless no_links links_fit links_stand
    slot_fits link_addresses_of some_of find_link_of links_at count_fits used_elsewhere link_allowed may_link linked_at linked_of
refusals = refl

not_by_link : (step_of site known (event.Ask 3 0x12 1) [] 37).answer.refusal ≡ 3
unfolding valid_of settings_fit query_times_fit network_fits role_answers role_asks role_associates time_fits is_free hold_fits record_fits highest_state query_allowed place_fits
    first_from all_tails alone_in sparse_of well_formed settled_of refused_of stepped_of first_of unless no_links links_fit links_stand slot_fits link_addresses_of some_of
    find_link_of code_allowed may_ask asked_at asked_of
not_by_link = refl
