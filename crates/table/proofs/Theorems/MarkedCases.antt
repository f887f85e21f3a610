-- 01, "Either side of each line": "The marked cases are a single table under one proved statement about the rules".
-- The statement, computed from the definitions of all three crates.
-- Assumes nothing.
use mathlib.Core.Path.{◌≡◌, refl}
use mathlib.Core.Bool.{true}
use Rattle.octets.specs.Address.{valid_of, group_of}
use Rattle.octets.specs.Field.{octets}
use Rattle.octets.specs.Class.{class_in, class_of, is_public_action, listed_class}
use Rattle.octets.specs.Element.{broken_of, ends, is_response, walk}
use Rattle.octets.specs.Heard.{authentication_of, response_of, heard_of}
use Rattle.octets.specs.Shape.{least_management, is_bare, least_of, shape_of}
use Rattle.octets.specs.Frame.{capability_of, aid_field, head_of, body_of, bytes_of, written_of, length_of}
use Rattle.octets.specs.Links.{no_links}
use Rattle.octets.specs.Sort.{is_listed, sort_of}
use Rattle.peer.specs.Settings.{network_fits, query_times_fit, role_answers, role_asks, role_associates, settings_fit, time_fits}
use Rattle.peer.specs.Query.{query_in}
use Rattle.peer.specs.Record.{is_joined, associates, fresh_of, is_free, changed_of, queried_of, spoken_at}
use Rattle.peer.specs.Fit.{stands, asked_fits, awaiting_fits, sent_fits, highest_state, hold_fits, query_allowed, record_fits, place_fits, links_fit}
use Rattle.peer.specs.Moves.{ds_of}
use Rattle.peer.specs.Reply.{network_address, send_of, authentication_to, disassociation_to, request_to, response_to}
use Rattle.peer.specs.Turn.{turn_of, ended_of, begun_of, replied_of, still_of, towards_of}
use Rattle.peer.specs.Filter.{barred_of}
use Rattle.peer.specs.Authentication.{requested_of, authentication_asked, answered_move, authentication_answered, authentication_heard}
use Rattle.peer.specs.Farewell.{deauthentication_heard}
use Rattle.peer.specs.Association.{request_heard, rejected_of, response_heard}
use Rattle.peer.specs.Challenge.{is_challenged, passed_of as unmarked}
use Rattle.peer.specs.Hear.{hear_of}
use Rattle.peer.specs.Refuse.{code_allowed, role_allowed, join_conflict, conflict_of, joined_elsewhere, mismatch_of, held_of}
use Rattle.peer.specs.Ask.{started_of, answer_of, associate_of, awaited_of, respond_of, reported_move, report_of, ask_of}
use Rattle.peer.specs.Tick.{timed_of, freed_of, queried_timed, reported_of, tick_of}
use Rattle.table.specs.Places.{all_of, first_from, all_tails, count_of, find_link_of, link_addresses_of, seek_of, some_of}
use Rattle.table.specs.Fit.{alone_in, crowd_of, sparse_of, well_formed}
use Rattle.table.specs.Others.{associated_of, others_of}
use Rattle.table.specs.Answer.{settled_of, refused_of, stepped_of}
use Rattle.table.specs.Seat.{seated_of, starts_of, newcomer_of}
use Rattle.table.specs.Refusals.{first_of, unless}
use Rattle.table.specs.Read.{for_us, read_from, read_full, read_of}
use Rattle.table.specs.Receive.{heard_from, received_of}
use Rattle.table.specs.Ask.{may_ask, no_place, asked_at, asked_of}
use Rattle.table.specs.Pass.{report_for, reports_of, clocked_of, passed_of, passed_in}
use Rattle.table.specs.Case.{same, answer_fields, record_fields, same_table, zeros_after, table_of, line_comes_out, lines_come_out, comes_out}
use Rattle.table.specs.Marked.{marked}

pub marked_cases : all_of comes_out marked ≡ true
unfolding valid_of group_of octets sort_of is_listed listed_class class_in class_of is_public_action walk ends is_response broken_of authentication_of response_of heard_of least_management is_bare least_of shape_of capability_of
    aid_field head_of body_of bytes_of written_of length_of settings_fit query_times_fit network_fits role_answers role_asks role_associates time_fits is_joined associates fresh_of is_free changed_of query_in queried_of stands asked_fits awaiting_fits
    sent_fits hold_fits record_fits highest_state query_allowed place_fits ds_of network_address send_of authentication_to disassociation_to request_to response_to turn_of ended_of
    begun_of replied_of still_of barred_of requested_of authentication_asked answered_move authentication_answered authentication_heard
    deauthentication_heard is_challenged unmarked request_heard rejected_of response_heard hear_of code_allowed role_allowed join_conflict conflict_of joined_elsewhere
    mismatch_of held_of started_of answer_of associate_of awaited_of respond_of reported_move report_of ask_of timed_of freed_of queried_timed reported_of tick_of first_from
    all_tails count_of alone_in crowd_of sparse_of well_formed associated_of others_of settled_of refused_of stepped_of seated_of starts_of newcomer_of
    first_of unless for_us read_from read_full read_of heard_from received_of may_ask no_place asked_at asked_of report_for reports_of clocked_of passed_of
    passed_in same answer_fields record_fields same_table zeros_after table_of line_comes_out lines_come_out comes_out marked
    no_links links_fit link_addresses_of some_of find_link_of seek_of towards_of spoken_at
marked_cases = refl
