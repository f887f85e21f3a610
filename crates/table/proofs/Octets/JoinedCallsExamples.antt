-- Calls of a host in a row: the peer that joins at an access point, and its data. Every hypothesis of `class_3_octets` is met.
-- Assumes nothing.
use Prim.Native.Nat.{ℕ}
use mathlib.Core.Path.{◌≡◌, refl, subst, sym, ◌∙◌}
use mathlib.Core.List.{List, [], ◌∷◌, map}
use Rattle.octets.specs.Address.{group_of, valid_of}
use Rattle.octets.specs.Class.{class_in, class_of, is_public_action, listed_class}
use Rattle.octets.specs.Element.{broken_of, ends, is_response, walk}
use Rattle.octets.specs.Field.{octets}
use Rattle.octets.specs.Frame.{aid_field, body_of, bytes_of, capability_of, comeback_element, head_of, length_of, written_of}
use Rattle.octets.specs.Heard.{authentication_of, heard_of, response_of}
use Rattle.octets.specs.Links.{links_at, no_links}
use Rattle.octets.specs.Shape.{is_bare, least_management, least_of, shape_of}
use Rattle.octets.specs.Sort.{is_listed, sort_of}
use Rattle.peer.specs.Ask.{answer_of, ask_of, associate_of, awaited_of, deauthenticate_of, declined_move, declined_of, disassociate_of, reassociate_of, report_of, reported_move, respond_of, started_of}
use Rattle.peer.specs.Association.{accepted_of, parted_of, rejected_of, request_heard, response_heard}
use Rattle.peer.specs.Authentication.{answered_move, authentication_answered, authentication_asked, authentication_heard, requested_of}
use Rattle.peer.specs.Challenge.{challenged_of, is_challenged, passed_of as unmarked, querying_of}
use Rattle.peer.specs.Farewell.{deauthentication_heard}
use Rattle.peer.specs.Filter.{barred_of}
use Rattle.peer.specs.Fit.{asked_fits, awaiting_fits, highest_state, hold_fits, links_fit, links_stand, place_fits, query_allowed, query_stands, record_fits, running_fits, sent_fits, slot_fits, stands}
use Rattle.peer.specs.Hear.{group_heard, hear_of}
use Rattle.peer.specs.Moves.{ds_of}
use Rattle.peer.specs.Query.{query_in, running_of, stepped_of as stepped, unmarked_of}
use Rattle.peer.specs.Record.{associates, changed_of, fresh_of, is_free, is_joined, linked_of as withLinks, queried_of, spoken_at}
use Rattle.peer.specs.Refuse.{code_allowed, conflict_of, held_of, join_conflict, joined_elsewhere, mismatch_of, role_allowed}
use Rattle.peer.specs.Reply.{authentication_to, deauthentication_to, disassociation_to, later_to, network_address, request_to, response_to, send_of}
use Rattle.peer.specs.Settings.{network_fits, query_times_fit, role_answers, role_asks, role_associates, settings_fit, time_fits}
use Rattle.peer.specs.Tick.{expired_move, freed_of, queried_timed, reported_of, tick_of, timed_of}
use Rattle.peer.specs.declared.record.Record.{Record}
use Rattle.peer.specs.Turn.{admit, begun_of, ended_of, linking_of, replied_of, sole_of, still_of, towards_of, turn_of}
use Rattle.table.specs.Answer.{refused_of, settled_of, stepped_of}
use Rattle.table.specs.Ask.{asked_at, asked_of, may_ask, no_place}
use Rattle.table.specs.Fit.{alone_in, crowd_of, sparse_of, well_formed}
use Rattle.table.specs.Link.{count_fits, link_allowed, linked_at, linked_of, may_link, used_elsewhere}
use Rattle.table.specs.Others.{associated_of, others_of}
use Rattle.table.specs.Pass.{clocked_of, passed_of, report_for, reports_of}
use Rattle.table.specs.Places.{all_tails, count_of, find_link_of, first_from, link_addresses_of, seek_of, some_of}
use Rattle.table.specs.Read.{for_us, read_from, read_full, read_of}
use Rattle.table.specs.Receive.{heard_from, received_of}
use Rattle.table.specs.Refusals.{first_of, unless}
use Rattle.table.specs.Seat.{newcomer_of, seated_of, starts_of, stranger_of}
use Rattle.table.specs.Step.{step_of}
use Rattle.table.specs.declared.rules.event.Event.TheVariants as event
use lib.ListN.{replicate}
use Rattle.table.specs.Boundary.{edition_in, maximum_in, retry_in, settings_in, settings_length}
use Rattle.table.specs.Calls.{Call}
use Rattle.table.specs.History.{Happening, empty_table, left_by}
use Rattle.table.specs.JoinedCases.{joins_ap}
use Rattle.table.specs.JoinedOctets.{JoinedBefore, after_calls}
use Rattle.table.specs.Marked.{as_ap, data_frame}
use Rattle.table.proofs.Octets.JoinedCalls.{call_given, calls_leave, class_3_octets}

-- an access point in octets: role 1, address 02:00:00:00:00:01, no RSNA, timeouts of 100 TU
abbrev access_point : List ℕ
access_point = 1 ∷ 0x02 ∷ 0 ∷ 0 ∷ 0 ∷ 0 ∷ 0x01 ∷ 0 ∷ 100 ∷ 0 ∷ 100 ∷ 0 ∷ []

abbrev call_for : Happening → Call
call_for e = record { event = e.event; frame = e.octets; out = replicate 37 0; room = replicate 24 0 }

abbrev calls : List Call
calls = map call_for joins_ap

abbrev data_call : Call
data_call = record { event = event.Frame; frame = data_frame; out = replicate 37 0; room = replicate 24 0 }

settings_are : settings_in access_point ≡ as_ap
unfolding settings_in settings_length edition_in retry_in maximum_in
settings_are = refl

-- the data is taken, and admitted
data_given : ((step_of as_ap (left_by as_ap empty_table joins_ap) event.Frame data_frame 37).answer.refusal ≡ 0) × ((step_of as_ap (left_by as_ap empty_table joins_ap) event.Frame data_frame 37).answer.verdict ≡ admit)
unfolding valid_of group_of octets sort_of is_listed listed_class class_in class_of is_public_action walk ends is_response broken_of authentication_of response_of heard_of least_management is_bare least_of shape_of
    capability_of aid_field comeback_element head_of body_of bytes_of written_of length_of settings_fit query_times_fit network_fits role_answers role_asks role_associates time_fits is_joined associates
    fresh_of is_free changed_of query_in queried_of withLinks stands asked_fits awaiting_fits sent_fits hold_fits record_fits highest_state query_allowed query_stands running_fits place_fits
    links_fit links_stand slot_fits ds_of network_address send_of authentication_to deauthentication_to disassociation_to request_to response_to later_to turn_of ended_of begun_of
    replied_of still_of sole_of towards_of linking_of barred_of requested_of authentication_asked answered_move authentication_answered authentication_heard
    deauthentication_heard is_challenged challenged_of querying_of running_of stepped unmarked_of unmarked request_heard accepted_of rejected_of response_heard parted_of group_heard hear_of code_allowed
    role_allowed join_conflict conflict_of joined_elsewhere mismatch_of held_of started_of answer_of deauthenticate_of associate_of reassociate_of disassociate_of awaited_of
    declined_move declined_of respond_of reported_move report_of ask_of spoken_at timed_of expired_move freed_of queried_timed reported_of tick_of first_from all_tails count_of some_of
    alone_in crowd_of sparse_of well_formed associated_of others_of settled_of refused_of stepped_of seated_of starts_of stranger_of newcomer_of first_of unless for_us
    read_from read_full read_of heard_from received_of may_ask no_place asked_at asked_of report_for reports_of clocked_of passed_of no_links link_addresses_of
    find_link_of seek_of links_at count_fits used_elsewhere link_allowed may_link linked_at linked_of
data_given = (refl, refl)

joined_by_calls : JoinedBefore access_point calls data_call
unfolding all_tails role_associates class_of is_public_action settings_in settings_length edition_in retry_in maximum_in
joined_by_calls =
    let left = calls_leave access_point calls refl in
    let given = call_given access_point (after_calls access_point calls) data_call left.0 refl refl in
    let Z : List Record → Type 0 = λ t. (step_of as_ap t event.Frame data_frame 37).answer.refusal ≡ 0 in
    let A : List Record → Type 0 = λ t. (step_of as_ap t event.Frame data_frame 37).answer.verdict ≡ admit in
    (class_3_octets access_point calls refl refl data_call refl refl (given.0 ∙ subst Z (sym left.1) data_given.0)).0 (given.1 ∙ subst A (sym left.1) data_given.1)
