-- 01, marked: "status 17, no element: after 1,953 TU primitive 4 is refused 8, after one more it sends". 02, K6: so it is however the time is told
-- (`comeback_told`): by `one_or_many`, from one step of as many TU, which is computed.
-- Assumes nothing.
use Prim.Native.Nat.{ℕ}
use mathlib.Core.List.{List, []}
use lib.ListN.{length, replicate}
use mathlib.Core.Path.{◌≡◌, refl, sym}
use mathlib.Core.Bool.{true}
use Rattle.octets.specs.Address.{valid_of, group_of}
use Rattle.octets.specs.Field.{octets}
use Rattle.octets.specs.Class.{class_in, class_of, is_public_action, listed_class}
use Rattle.octets.specs.Element.{broken_of, ends, is_response, walk}
use Rattle.octets.specs.Heard.{authentication_of, response_of, heard_of}
use Rattle.octets.specs.Shape.{least_management, is_bare, least_of, shape_of}
use Rattle.octets.specs.Sort.{is_listed, sort_of}
use Rattle.octets.specs.Frame.{capability_of, head_of, body_of, bytes_of, written_of, length_of}
use Rattle.octets.specs.Links.{no_links}
use Rattle.peer.specs.Settings.{network_fits, query_times_fit, role_answers, role_asks, role_associates, settings_fit, time_fits}
use Rattle.peer.specs.Query.{query_in}
use Rattle.peer.specs.Record.{is_joined, associates, fresh_of, is_free, changed_of, queried_of, spoken_at}
use Rattle.peer.specs.Fit.{stands, sent_fits, highest_state, hold_fits, query_allowed, record_fits, place_fits, links_fit}
use Rattle.peer.specs.Moves.{ds_of}
use Rattle.peer.specs.Reply.{network_address, send_of, authentication_to, request_to}
use Rattle.peer.specs.Turn.{turn_of, ended_of, begun_of, replied_of, still_of, towards_of}
use Rattle.peer.specs.Authentication.{answered_move, authentication_answered, authentication_heard}
use Rattle.peer.specs.Association.{rejected_of, response_heard}
use Rattle.peer.specs.Hear.{hear_of}
use Rattle.peer.specs.Refuse.{code_allowed, role_allowed, join_conflict, conflict_of, joined_elsewhere, mismatch_of, held_of}
use Rattle.peer.specs.Ask.{started_of, associate_of, ask_of}
use Rattle.peer.specs.Tick.{timed_of, freed_of, queried_timed, reported_of, tick_of}
use Rattle.table.specs.Places.{all_of, first_from, all_tails, count_of, find_link_of, link_addresses_of, seek_of, some_of}
use Rattle.table.specs.Fit.{alone_in, crowd_of, sparse_of, well_formed}
use Rattle.table.specs.Others.{associated_of, others_of}
use Rattle.table.specs.Answer.{settled_of, refused_of, stepped_of}
use Rattle.table.specs.Seat.{seated_of, starts_of, newcomer_of}
use Rattle.table.specs.Refusals.{first_of, unless}
use Rattle.table.specs.Read.{for_us, read_from, read_full, read_of}
use Rattle.table.specs.Receive.{heard_from, received_of}
use Rattle.table.specs.Ask.{may_ask, no_place, asked_at, asked_of}
use Rattle.table.specs.Pass.{report_for, reports_of, clocked_of, passed_of, passed_in}
use Rattle.table.specs.Case.{Line, same, answer_fields, zeros_after, table_of, line_comes_out}
use Rattle.table.specs.Marked.{as_station, asks, associate_sent, refused, them, turned_away}
use Rattle.peer.specs.declared.record.Record.{Record}
use Rattle.table.specs.Order.{end}
use Rattle.table.specs.Sleep.{ComebackTold, Lapse, held, lapse_fits, lapsed, sum_of}
use Rattle.table.specs.Step.{step_of}
use Rattle.table.specs.declared.rules.event.Event.TheVariants as event
use Rattle.table.proofs.Theorems.Sleep.{one_or_many}

-- one step
abbrev told : ℕ → Lapse
told n = record { tu = n; out = replicate 256 0 }

abbrev waited : List Record
waited = (lapsed as_station held (told 1953)).0

record Computed : Type 0 where
  -- what the lines of the marked case leave before the clock
  begins : end (λ (t : List Record) (l : Line). ((step_of as_station t l.event l.frame l.room).table, l)) (table_of []) (turned_away [] []) ≡ held
  held_well : well_formed as_station held ≡ true
  early : line_comes_out as_station waited (asks 4 0 (refused 8) []) ≡ true
  well : well_formed as_station waited ≡ true
  long : length waited ≡ 32
  stays : (step_of as_station waited (event.Ask 4 them 0) [] 256).table ≡ waited
  one_more : line_comes_out as_station (lapsed as_station waited (told 1)).0 associate_sent ≡ true
  after : line_comes_out as_station (lapsed as_station held (told 1954)).0 associate_sent ≡ true

computed : Computed
unfolding valid_of group_of octets sort_of is_listed listed_class class_in class_of is_public_action walk ends is_response broken_of authentication_of response_of heard_of least_management
    is_bare least_of shape_of capability_of head_of body_of bytes_of written_of length_of settings_fit query_times_fit network_fits role_answers role_asks
    role_associates time_fits is_joined associates fresh_of is_free changed_of query_in queried_of stands sent_fits hold_fits record_fits highest_state
    query_allowed place_fits ds_of network_address send_of authentication_to request_to turn_of ended_of begun_of replied_of still_of answered_move
    authentication_answered authentication_heard rejected_of response_heard hear_of code_allowed role_allowed join_conflict conflict_of joined_elsewhere
    mismatch_of held_of started_of associate_of ask_of timed_of freed_of queried_timed reported_of tick_of first_from all_tails count_of alone_in crowd_of sparse_of
    well_formed associated_of others_of settled_of refused_of stepped_of seated_of starts_of newcomer_of first_of unless for_us read_from read_full read_of
    heard_from received_of may_ask no_place asked_at asked_of report_for reports_of clocked_of passed_of passed_in same answer_fields zeros_after table_of
    line_comes_out no_links links_fit link_addresses_of some_of find_link_of seek_of towards_of spoken_at
computed = record { begins = refl; held_well = refl; early = refl; well = refl; long = refl; stays = refl; one_more = refl; after = refl }

-- steps of the same sum
any_steps :
    (t : List Record) → well_formed as_station t ≡ true → length t ≡ 32 → (n : ℕ) → lapse_fits (told n) ≡ true
    → (ls : List Lapse) → all_of lapse_fits ls ≡ true → sum_of (λ l. l.tu) ls ≡ n → end (lapsed as_station) t ls ≡ (lapsed as_station t (told n)).0
any_steps t w h n f ls fs e = (one_or_many as_station t ls (told n) (w, h) fs f (sym e)).table

pub comeback_told : ComebackTold
unfolding lapse_fits time_fits table_of
comeback_told =
    let c = computed in
    record {
      early = λ ls fs e. rw (any_steps held c.held_well refl 1953 refl ls fs e) c.early;
      one_more = λ ls more fs e gs g. rw (any_steps held c.held_well refl 1953 refl ls fs e, c.stays, any_steps waited c.well c.long 1 refl more gs g) c.one_more;
      after = λ ls fs e. rw (any_steps held c.held_well refl 1954 refl ls fs e) c.after;
    }
