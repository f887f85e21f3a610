-- Reasons computed: an access point, 0a, with the peer 0e in State 2 and the device 0c in State 1, whose link is 14; and a station, 0a, that the AP 0e told to wait
-- as long as can be said. Each is the number of the reason and the value beside it.
-- Assumes nothing.
use Prim.Native.Nat.{ℕ}
use mathlib.Core.Path.{◌≡◌, refl}
use mathlib.Core.List.{List, [], ◌∷◌, map}
use lib.ListN.{replicate}
use Rattle.octets.specs.Address.{group_of, valid_of}
use Rattle.octets.specs.Class.{class_in, class_of, is_public_action, listed_class}
use Rattle.octets.specs.Element.{broken_of, is_response}
use Rattle.octets.specs.Heard.{authentication_of, heard_of, query_of, response_of}
use Rattle.octets.specs.Links.{no_links, unlinked}
use Rattle.octets.specs.Shape.{is_bare, least_management, least_of, shape_of}
use Rattle.octets.specs.Sort.{is_listed, sort_of}
use Rattle.octets.specs.declared.links.Links.{Links}
use Rattle.peer.specs.Fit.{highest_state, hold_fits, links_fit, links_stand, place_fits, query_allowed, record_fits, slot_fits}
use Rattle.peer.specs.Idle.{authentication_acts, group_barred, idle_of, query_response_acts, response_acts}
use Rattle.peer.specs.Record.{associates, free_of, fresh_of, is_free, is_joined}
use Rattle.peer.specs.Refuse.{code_allowed, conflict_of, held_of, join_conflict, joined_elsewhere, mismatch_of, role_allowed}
use Rattle.peer.specs.Settings.{network_fits, query_times_fit, role_answers, role_asks, role_associates, settings_fit, time_fits}
use Rattle.peer.specs.declared.query.Query.TheVariants as query
use Rattle.peer.specs.declared.exchange.Exchange.TheVariants.{None}
use Rattle.peer.specs.declared.record.Record.{Record}
use Rattle.peer.specs.declared.settings.Settings.{Settings}
use Rattle.table.specs.Ask.{may_ask, no_place}
use Rattle.table.specs.Fit.{alone_in, crowd_of, sparse_of, well_formed}
use Rattle.table.specs.Others.{associated_of, others_of}
use Rattle.table.specs.Places.{all_tails, count_of, find_link_of, first_from, link_addresses_of, seek_of, some_of}
use Rattle.table.specs.Read.{for_us, read_bare, read_from, read_full, read_of}
use Rattle.table.specs.Refusals.{first_of}
use Rattle.table.specs.Why.{ask_why, class_filter, frame_why, group_rule, no_class, nothing_to_do, reason_number, why_asked, why_from, why_of, why_passed}
use Rattle.table.specs.declared.rules.event.Event.{Event}
use Rattle.table.specs.declared.rules.event.Event.TheVariants as event
use Rattle.table.specs.declared.rules.why.Why.{Why}

abbrev site : Settings
site = record { role = 1; own = 0x0a; network = 0; rsna = 0; authentication = 10; association = 10; edition = 1; protection = 0; retry = 201; maximum = 1000 }

abbrev scanner : Settings
scanner = record { role = 2; own = 0x0a; network = 0; rsna = 0; authentication = 10; association = 10; edition = 1; protection = 0; retry = 201; maximum = 1000 }

abbrev placed : ℕ → ℕ → ℕ → Links → Record
placed address state hold links = record { address = address; state = state; exchange = None; left = 0; hold = hold; query = query.None; identifier = 0; links = links }

abbrev known : List Record
known = placed 0x0c 1 0 (record { one = 0x14; two = 0; three = 0; four = 0 }) ∷ placed 0x0e 2 0 unlinked ∷ replicate 30 free_of

abbrev held : List Record
held = placed 0x0e 2 4294967295 unlinked ∷ replicate 31 free_of

abbrev shown : Why → ℕ × ℕ
shown w = (reason_number w.reason, w.value)

-- a frame, by its first octet, Address 1 and Address 2
abbrev frame : ℕ → ℕ → ℕ → List ℕ → List ℕ
frame first to from body =
    first ∷ 0 ∷ 0 ∷ 0 ∷ to ∷ 0 ∷ 0 ∷ 0 ∷ 0 ∷ 0 ∷ from ∷ 0 ∷ 0 ∷ 0 ∷ 0 ∷ 0 ∷ 0x0a ∷ 0 ∷ 0 ∷ 0 ∷ 0 ∷ 0 ∷ 0 ∷ 0 ∷ body

-- data from a stranger, from the peer in State 2, and over the device's link; a request to a group address from the peer, and from a stranger, whom the filter
-- stops first; another version; a deauthentication in State 1 and a beacon; an authentication by another algorithm, which is answered; nine octets; a frame for
-- another
frames :
    map (λ (xs : List ℕ). shown (why_of site known event.Frame xs 37))
    (frame 0x08 0x0a 0x1e []
    ∷ frame 0x08 0x0a 0x0e []
    ∷ frame 0x08 0x0a 0x14 []
    ∷ frame 0x00 0x01 0x0e (0 ∷ 0 ∷ 0 ∷ 0 ∷ [])
    ∷ frame 0x00 0x01 0x1e (0 ∷ 0 ∷ 0 ∷ 0 ∷ [])
    ∷ frame 0x09 0x0a 0x1e []
    ∷ frame 0xc0 0x0a 0x1e (0 ∷ 0 ∷ [])
    ∷ frame 0x80 0x01 0x1e []
    ∷ frame 0xb0 0x0a 0x1e (3 ∷ 0 ∷ 1 ∷ 0 ∷ 0 ∷ 0 ∷ [])
    ∷ (0x08 ∷ 0 ∷ 0 ∷ 0 ∷ 0x0a ∷ 0 ∷ 0 ∷ 0 ∷ 0 ∷ [])
    ∷ frame 0x08 0x22 0x0e []
    ∷ [])
    ≡ (class_filter, 1) ∷ (class_filter, 2) ∷ (class_filter, 1) ∷ (group_rule, 0) ∷ (class_filter, 1) ∷ (no_class, 0) ∷ (nothing_to_do, 0) ∷ (nothing_to_do, 0) ∷ (0, 0)
    ∷ (3, 9) ∷ (4, 0) ∷ []
unfolding valid_of group_of sort_of is_listed listed_class class_in class_of is_public_action is_response broken_of heard_of authentication_of response_of query_of is_bare least_management least_of shape_of settings_fit query_times_fit
    network_fits role_answers role_asks role_associates time_fits is_joined associates is_free hold_fits record_fits highest_state query_allowed place_fits first_from all_tails
    count_of alone_in crowd_of sparse_of well_formed for_us read_bare read_from read_full read_of no_links links_fit links_stand slot_fits link_addresses_of some_of find_link_of seek_of
    fresh_of why_of why_from frame_why group_barred idle_of authentication_acts response_acts query_response_acts
frames = refl

-- the longest hold; the state of the peer asked, and of a stranger; another role's primitive; an AP's primitive that is done; a clock step of 0, and of 1
asked :
    map (λ (e : Event). shown (why_of scanner held e [] 256))
    (event.Ask 4 0x0e 0 ∷ event.Ask 9 0x0e 0 ∷ event.Ask 9 0x1e 0 ∷ event.Ask 2 0x0e 0 ∷ event.Ask 3 0x0e 1 ∷ event.Clock 0 ∷ event.Clock 1 ∷ [])
    ≡ (8, 4294967295) ∷ (7, 2) ∷ (7, 1) ∷ (5, 0) ∷ (0, 0) ∷ (3, 0) ∷ (0, 0) ∷ []
unfolding valid_of settings_fit query_times_fit network_fits role_answers role_asks role_associates time_fits is_joined associates is_free hold_fits record_fits highest_state query_allowed
    place_fits first_from all_tails count_of alone_in crowd_of sparse_of well_formed no_links links_fit links_stand slot_fits link_addresses_of some_of find_link_of fresh_of code_allowed
    role_allowed conflict_of join_conflict mismatch_of joined_elsewhere held_of others_of associated_of first_of may_ask no_place why_of why_asked why_passed ask_why
asked = refl
