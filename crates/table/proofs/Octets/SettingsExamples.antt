-- A station's settings as a host hands them over, at work: the first of the two times is an authentication's, the second an association's.
-- Assumes nothing.
use Prim.Native.Nat.{ℕ}
use mathlib.Core.Path.{◌≡◌, refl}
use mathlib.Core.List.{List, [], ◌∷◌}
use lib.ListN.{take}
use Rattle.octets.specs.Address.{group_of, valid_of}
use Rattle.octets.specs.Field.{octets}
use Rattle.octets.specs.Frame.{body_of, bytes_of, head_of, length_of, written_of}
use Rattle.octets.specs.Links.{no_links, unlinked}
use Rattle.octets.specs.declared.heard.Kind.TheVariants as kind
use Rattle.peer.specs.Ask.{ask_of, associate_of, started_of}
use Rattle.peer.specs.Fit.{asked_fits, awaiting_fits, highest_state, hold_fits, links_fit, links_stand, place_fits, query_allowed, query_stands, record_fits, running_fits, sent_fits, slot_fits, stands}
use Rattle.peer.specs.Moves.{ds_of}
use Rattle.peer.specs.Query.{query_in}
use Rattle.peer.specs.Record.{associates, changed_of, fresh_of, is_free, is_joined, queried_of, spoken_at}
use Rattle.peer.specs.Refuse.{code_allowed, conflict_of, held_of, join_conflict, joined_elsewhere, mismatch_of, role_allowed}
use Rattle.peer.specs.Reply.{network_address, request_to, send_of}
use Rattle.peer.specs.Settings.{network_fits, query_times_fit, role_answers, role_asks, role_associates, settings_fit, time_fits}
use Rattle.peer.specs.Turn.{begun_of, sole_of, still_of, towards_of, turn_of}
use Rattle.peer.specs.declared.exchange.Exchange.TheVariants as exchange
use Rattle.peer.specs.declared.exchange.Exchange.{Exchange}
use Rattle.peer.specs.declared.query.Query.TheVariants as query
use Rattle.peer.specs.declared.record.Record.{Record}
use Rattle.table.specs.Answer.{refused_of, settled_of, stepped_of}
use Rattle.table.specs.Ask.{asked_at, asked_of, may_ask, no_place}
use Rattle.table.specs.Boundary.{edition_in, maximum_in, retry_in, settings_in, settings_length}
use Rattle.table.specs.Case.{table_of}
use Rattle.table.specs.Fit.{alone_in, crowd_of, sparse_of, well_formed}
use Rattle.table.specs.Marked.{them}
use Rattle.table.specs.Others.{associated_of, others_of}
use Rattle.table.specs.Places.{all_tails, count_of, find_link_of, first_from, link_addresses_of, seek_of, some_of}
use Rattle.table.specs.Refusals.{first_of, unless}
use Rattle.table.specs.Seat.{newcomer_of, seated_of, starts_of, stranger_of}
use Rattle.table.specs.Step.{step_of}
use Rattle.table.specs.declared.rules.event.Event.TheVariants as event

-- a station in octets: role 2, address 02:00:00:00:00:01, no RSNA, times of 7 and of 300 TU
abbrev station : List ℕ
station = 2 ∷ 0x02 ∷ 0 ∷ 0 ∷ 0 ∷ 0 ∷ 0x01 ∷ 0 ∷ 7 ∷ 0 ∷ 44 ∷ 1 ∷ []

abbrev peer : ℕ → Exchange → ℕ → Record
peer state e left =
    record { address = them; state = state; exchange = e; left = left; hold = 0; query = query.None; identifier = 0; links = unlinked }

-- the first record after a primitive that was asked of these
abbrev asked : List Record → ℕ → List Record
asked t q = take 1 (step_of (settings_in station) t (event.Ask q them 0) [] 37).table

pub record TimesInOrder : Type 0 where
  authenticates : asked (table_of []) 1 ≡ peer 1 (exchange.Sent kind.Authentication) 7 ∷ []
  associates_after : asked (table_of (peer 2 exchange.None 0 ∷ [])) 4 ≡ peer 2 (exchange.Sent kind.Association) 300 ∷ []

pub times_in_order : TimesInOrder
unfolding settings_in settings_length edition_in retry_in maximum_in valid_of group_of octets head_of body_of bytes_of written_of length_of settings_fit query_times_fit network_fits role_answers role_asks role_associates
    time_fits is_joined associates fresh_of is_free changed_of query_in queried_of stands asked_fits awaiting_fits sent_fits hold_fits record_fits highest_state query_allowed query_stands running_fits place_fits links_fit
    links_stand slot_fits ds_of network_address send_of request_to turn_of begun_of still_of sole_of towards_of code_allowed role_allowed join_conflict conflict_of joined_elsewhere mismatch_of held_of started_of associate_of
    ask_of spoken_at first_from all_tails count_of some_of alone_in crowd_of sparse_of well_formed associated_of others_of settled_of refused_of stepped_of seated_of starts_of stranger_of newcomer_of first_of unless may_ask
    no_place asked_at asked_of no_links link_addresses_of find_link_of seek_of table_of
times_in_order = record { authenticates = refl; associates_after = refl }
