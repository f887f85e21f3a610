-- Demand 3 at work, at an access point and in an ad hoc network: six events of two peers and of none, moved about. And what goes wrong where a
-- condition is left out.
-- Assumes nothing.
use Prim.Native.Nat.{ℕ}
use mathlib.Core.Path.{◌≡◌, refl}
use mathlib.Core.Bool.{true}
use mathlib.Core.List.{List, [], ◌∷◌, map}
use lib.Dec.{T}
use lib.ListN.{replicate, get_or}
use Rattle.octets.specs.Address.{valid_of, group_of}
use Rattle.octets.specs.Field.{octets}
use Rattle.octets.specs.Class.{class_in, class_of, is_direct, is_public_action, listed_class}
use Rattle.octets.specs.Element.{broken_of, is_response, walk}
use Rattle.octets.specs.Heard.{authentication_of, response_of, heard_of}
use Rattle.octets.specs.Shape.{least_management, is_bare, least_of, shape_of}
use Rattle.octets.specs.Frame.{capability_of, aid_field, head_of, body_of, bytes_of, written_of, length_of}
use Rattle.octets.specs.Links.{no_links}
use Rattle.octets.specs.Sort.{is_listed, sort_of}
use Rattle.peer.specs.Settings.{network_fits, query_times_fit, role_answers, role_asks, role_associates, settings_fit, time_fits}
use Rattle.peer.specs.Query.{query_in}
use Rattle.peer.specs.Record.{is_joined, associates, free_of, fresh_of, is_free, changed_of, spoken_at}
use Rattle.peer.specs.Fit.{stands, asked_fits, awaiting_fits, sent_fits, highest_state, hold_fits, query_allowed, record_fits, place_fits, links_fit}
use Rattle.peer.specs.Moves.{ds_of}
use Rattle.peer.specs.Reply.{network_address, send_of, authentication_to, deauthentication_to, disassociation_to, request_to, response_to}
use Rattle.peer.specs.Turn.{turn_of, ended_of, begun_of, replied_of, still_of, towards_of}
use Rattle.peer.specs.Filter.{barred_of}
use Rattle.peer.specs.Authentication.{requested_of, authentication_asked, answered_move, authentication_answered, authentication_heard}
use Rattle.peer.specs.Farewell.{deauthentication_heard}
use Rattle.peer.specs.Association.{request_heard, rejected_of, response_heard}
use Rattle.peer.specs.Hear.{hear_of}
use Rattle.peer.specs.Refuse.{code_allowed, role_allowed, join_conflict, conflict_of, joined_elsewhere, mismatch_of, held_of}
use Rattle.peer.specs.Ask.{started_of, answer_of, associate_of, awaited_of, respond_of, reported_move, report_of, ask_of}
use Rattle.peer.specs.Tick.{timed_of, freed_of, tick_of}
use Rattle.table.specs.Places.{first_from, all_tails, count_of, find_link_of, link_addresses_of, seek_of, some_of}
use Rattle.table.specs.Fit.{alone_in, crowd_of, sparse_of, well_formed}
use Rattle.table.specs.Others.{associated_of, others_of}
use Rattle.table.specs.Answer.{settled_of, refused_of, stepped_of}
use Rattle.table.specs.Seat.{seated_of, starts_of, newcomer_of}
use Rattle.table.specs.Refusals.{first_of, unless}
use Rattle.table.specs.Read.{for_us, read_from, read_full, read_of}
use Rattle.table.specs.Receive.{heard_from, received_of}
use Rattle.table.specs.Ask.{may_ask, no_place, asked_at, asked_of}
use Rattle.table.specs.Pass.{report_for, reports_of, clocked_of, passed_of, passed_in}
use Rattle.peer.specs.declared.record.Record.{Record}
use Rattle.peer.specs.declared.settings.Settings.{Settings}
use Rattle.table.specs.Case.{table_of}
use Rattle.table.specs.Marked.{as_ap, us, them, ours, frame_of, authentication_request, data_frame}
use Rattle.table.specs.Order.{end, answers, SameOutcome, Coming, frame, primitive, Handed, Gets, happens, peer_named, address_of}
use Rattle.table.proofs.Order.Allowed.{rearranged, allowed, moved, all_known, named_all}
use Rattle.table.proofs.Order.DemandThree.{demand_3}

-- another peer, 02:00:00:00:00:0b
abbrev pub other : ℕ
other = 0x0b0000000002

abbrev pub other_request : List ℕ
other_request = frame_of 0xb0 0 ours (0x02 ∷ 0 ∷ 0 ∷ 0 ∷ 0 ∷ 0x0b ∷ []) ours (0 ∷ 0 ∷ 1 ∷ 0 ∷ 0 ∷ 0 ∷ [])

-- each event has a buffer of its own, of 37 octets
abbrev pub ev : Coming → Handed
ev c = record { coming = c; out = replicate 37 9 }

-- a frame too short to be read
abbrev pub stray : Handed
stray = ev (frame [])

-- one peer at place 0, the other at place 1
abbrev pub both : List Record
both = table_of (fresh_of them ∷ fresh_of other ∷ [])

abbrev pub l₁ : List Handed
l₁ = ev (frame authentication_request) ∷ ev (primitive 2 them 0) ∷ ev (frame other_request) ∷ stray ∷ ev (primitive 2 other 1) ∷ ev (frame data_frame) ∷ []

abbrev pub there : List ℕ
there = 2 ∷ 4 ∷ 1 ∷ 0 ∷ 3 ∷ 5 ∷ []

abbrev pub back : List ℕ
back = 3 ∷ 2 ∷ 0 ∷ 4 ∷ 1 ∷ 5 ∷ []

abbrev pub l₂ : List Handed
l₂ = rearranged stray (peer_named as_ap both) l₁ there back

l₂-is : l₂ ≡ stray ∷ ev (frame other_request) ∷ ev (frame authentication_request) ∷ ev (primitive 2 other 1) ∷ ev (primitive 2 them 0) ∷ ev (frame data_frame) ∷ []
l₂-is = refl

-- What the events get: refusal, verdict, notice, octets written, the state after, and the buffer's first octet.
abbrev shown : Gets → List ℕ
shown g = g.answer.refusal ∷ g.answer.verdict ∷ g.answer.notice ∷ g.answer.written ∷ g.answer.state ∷ get_or g.bytes 0 0 ∷ []

-- State and address in the first two places at the end.
abbrev ends : Settings → List Record → List Handed → List (ℕ × ℕ)
ends s t l = map (λ (i : ℕ). ((get_or (end (happens s) t l) i free_of).state, (get_or (end (happens s) t l) i free_of).address)) (0 ∷ 1 ∷ [])

pub record AtWork : Type 0 where
  -- the conditions of demand 3 hold of the six events
  pub well : well_formed as_ap both ≡ true
  pub known : T (all_known free_of address_of (peer_named as_ap both) both l₁)
  pub kept : T (allowed stray (peer_named as_ap both) l₁ there back)
  -- the answers are not all alike, and each goes where its event went
  first : map shown (answers (happens as_ap) both l₁)
      ≡ (0 ∷ 1 ∷ 1 ∷ 0 ∷ 1 ∷ 9 ∷ []) ∷ (0 ∷ 0 ∷ 0 ∷ 30 ∷ 2 ∷ 0xb0 ∷ []) ∷ (0 ∷ 1 ∷ 1 ∷ 0 ∷ 1 ∷ 9 ∷ []) ∷ (3 ∷ 0 ∷ 0 ∷ 0 ∷ 0 ∷ 9 ∷ []) ∷ (0 ∷ 0 ∷ 0 ∷ 30 ∷ 1 ∷ 0xb0 ∷ []) ∷ (0 ∷ 2 ∷ 0 ∷ 26 ∷ 2 ∷ 0xa0 ∷ []) ∷ []
  second : map shown (answers (happens as_ap) both l₂)
      ≡ (3 ∷ 0 ∷ 0 ∷ 0 ∷ 0 ∷ 9 ∷ []) ∷ (0 ∷ 1 ∷ 1 ∷ 0 ∷ 1 ∷ 9 ∷ []) ∷ (0 ∷ 1 ∷ 1 ∷ 0 ∷ 1 ∷ 9 ∷ []) ∷ (0 ∷ 0 ∷ 0 ∷ 30 ∷ 1 ∷ 0xb0 ∷ []) ∷ (0 ∷ 0 ∷ 0 ∷ 30 ∷ 2 ∷ 0xb0 ∷ []) ∷ (0 ∷ 2 ∷ 0 ∷ 26 ∷ 2 ∷ 0xa0 ∷ []) ∷ []
  -- the table moves, to the same end
  before : ends as_ap both [] ≡ (1, them) ∷ (1, other) ∷ []
  after_first : ends as_ap both l₁ ≡ (2, them) ∷ (1, other) ∷ []
  after_second : ends as_ap both l₂ ≡ (2, them) ∷ (1, other) ∷ []
  -- "keep each peer's own events in order": one peer's own two events the other way round come to another end
  in_order : ends as_ap both (ev (frame authentication_request) ∷ ev (primitive 2 them 0) ∷ []) ≡ (2, them) ∷ (1, other) ∷ []
  out_of_order : ends as_ap both (ev (primitive 2 them 0) ∷ ev (frame authentication_request) ∷ []) ≡ (1, them) ∷ (1, other) ∷ []
  -- "every peer named already has a record": two peers without one take their places in the order in which they come
  newcomers : ends as_ap (table_of []) (ev (frame authentication_request) ∷ ev (frame other_request) ∷ []) ≡ (1, them) ∷ (1, other) ∷ []
  newcomers_swapped : ends as_ap (table_of []) (ev (frame other_request) ∷ ev (frame authentication_request) ∷ []) ≡ (1, other) ∷ (1, them) ∷ []

pub at_work : AtWork
unfolding valid_of group_of octets sort_of is_listed listed_class class_in class_of is_public_action walk is_response broken_of authentication_of response_of heard_of least_management is_bare least_of shape_of capability_of
    aid_field head_of body_of bytes_of written_of length_of settings_fit query_times_fit network_fits role_answers role_asks role_associates time_fits is_joined associates fresh_of is_free changed_of query_in stands asked_fits awaiting_fits
    sent_fits hold_fits record_fits highest_state query_allowed place_fits ds_of network_address send_of authentication_to disassociation_to request_to response_to turn_of ended_of
    begun_of replied_of still_of barred_of requested_of authentication_asked answered_move authentication_answered authentication_heard
    deauthentication_heard request_heard rejected_of response_heard hear_of code_allowed role_allowed join_conflict conflict_of joined_elsewhere
    mismatch_of held_of started_of answer_of associate_of awaited_of respond_of reported_move report_of ask_of timed_of freed_of tick_of first_from
    all_tails count_of alone_in crowd_of sparse_of well_formed associated_of others_of settled_of refused_of stepped_of seated_of starts_of newcomer_of
    first_of unless for_us read_from read_full read_of heard_from received_of may_ask no_place asked_at asked_of report_for reports_of clocked_of passed_of
    passed_in table_of deauthentication_to happens peer_named
    no_links links_fit link_addresses_of some_of find_link_of seek_of towards_of spoken_at
at_work =
    record {
      well = refl;
      known = tt;
      kept = tt;
      first = refl;
      second = refl;
      before = refl;
      after_first = refl;
      after_second = refl;
      in_order = refl;
      out_of_order = refl;
      newcomers = refl;
      newcomers_swapped = refl;
    }

-- The theorem at these events: table and all answers and bytes, whole.
pub same_six : SameOutcome (happens as_ap) both l₁ l₂ (λ k. get_or there k 0)
unfolding table_of role_answers
same_six =
    demand_3 as_ap both l₁ l₂ (λ k. get_or there k 0) (λ k. get_or back k 0) refl (at_work.well, refl)
    (named_all free_of address_of (peer_named as_ap both) both l₁ at_work.known)
    (moved stray (peer_named as_ap both) l₁ there back at_work.kept)

-- ---- 02, K10: "Demand 3 holds for role 3 too." Two scanners in an ad hoc network, 02:00:00:00:00:0c: one asks us, the other is asked by us.

abbrev pub ad_hoc_peer : Settings
ad_hoc_peer = record { own = us; network = 0x0c0000000002; authentication = 100; association = 100; role = 3; rsna = 0; edition = 1; protection = 0; retry = 201; maximum = 1000 }

abbrev other_answer : List ℕ
other_answer = frame_of 0xb0 0 ours (0x02 ∷ 0 ∷ 0 ∷ 0 ∷ 0 ∷ 0x0b ∷ []) (0x02 ∷ 0 ∷ 0 ∷ 0 ∷ 0 ∷ 0x0c ∷ []) (0 ∷ 0 ∷ 2 ∷ 0 ∷ 0 ∷ 0 ∷ [])

-- (the data frame has To DS set, so that it is kept out without a word)
abbrev pub m₁ : List Handed
m₁ = ev (frame authentication_request) ∷ ev (primitive 1 other 0) ∷ stray ∷ ev (primitive 2 them 0) ∷ ev (frame other_answer) ∷ ev (frame data_frame) ∷ []

abbrev pub onward : List ℕ
onward = 3 ∷ 0 ∷ 1 ∷ 4 ∷ 2 ∷ 5 ∷ []

abbrev pub homeward : List ℕ
homeward = 1 ∷ 2 ∷ 4 ∷ 0 ∷ 3 ∷ 5 ∷ []

abbrev pub m₂ : List Handed
m₂ = rearranged stray (peer_named ad_hoc_peer both) m₁ onward homeward

m₂-is : m₂ ≡ ev (primitive 1 other 0) ∷ stray ∷ ev (frame other_answer) ∷ ev (frame authentication_request) ∷ ev (primitive 2 them 0) ∷ ev (frame data_frame) ∷ []
m₂-is = refl

pub record AdHocAtWork : Type 0 where
  pub well : well_formed ad_hoc_peer both ≡ true
  pub known : T (all_known free_of address_of (peer_named ad_hoc_peer both) both m₁)
  pub kept : T (allowed stray (peer_named ad_hoc_peer both) m₁ onward homeward)
  first : map shown (answers (happens ad_hoc_peer) both m₁)
      ≡ (0 ∷ 1 ∷ 1 ∷ 0 ∷ 1 ∷ 9 ∷ []) ∷ (0 ∷ 0 ∷ 0 ∷ 30 ∷ 1 ∷ 0xb0 ∷ []) ∷ (3 ∷ 0 ∷ 0 ∷ 0 ∷ 0 ∷ 9 ∷ []) ∷ (0 ∷ 0 ∷ 0 ∷ 30 ∷ 2 ∷ 0xb0 ∷ []) ∷ (0 ∷ 1 ∷ 2 ∷ 0 ∷ 2 ∷ 9 ∷ []) ∷ (0 ∷ 2 ∷ 0 ∷ 0 ∷ 2 ∷ 9 ∷ []) ∷ []
  second : map shown (answers (happens ad_hoc_peer) both m₂)
      ≡ (0 ∷ 0 ∷ 0 ∷ 30 ∷ 1 ∷ 0xb0 ∷ []) ∷ (3 ∷ 0 ∷ 0 ∷ 0 ∷ 0 ∷ 9 ∷ []) ∷ (0 ∷ 1 ∷ 2 ∷ 0 ∷ 2 ∷ 9 ∷ []) ∷ (0 ∷ 1 ∷ 1 ∷ 0 ∷ 1 ∷ 9 ∷ []) ∷ (0 ∷ 0 ∷ 0 ∷ 30 ∷ 2 ∷ 0xb0 ∷ []) ∷ (0 ∷ 2 ∷ 0 ∷ 0 ∷ 2 ∷ 9 ∷ []) ∷ []
  after_first : ends ad_hoc_peer both m₁ ≡ (2, them) ∷ (2, other) ∷ []
  after_second : ends ad_hoc_peer both m₂ ≡ (2, them) ∷ (2, other) ∷ []

pub ad_hoc_at_work : AdHocAtWork
unfolding valid_of group_of octets sort_of is_listed listed_class class_in class_of is_direct is_public_action is_response broken_of authentication_of heard_of least_management is_bare least_of shape_of head_of body_of
    bytes_of written_of length_of settings_fit query_times_fit network_fits role_answers role_asks role_associates time_fits fresh_of is_free changed_of query_in stands asked_fits
    sent_fits hold_fits record_fits highest_state query_allowed place_fits ds_of network_address send_of authentication_to request_to turn_of ended_of begun_of replied_of still_of
    barred_of requested_of authentication_asked answered_move authentication_answered authentication_heard hear_of code_allowed role_allowed conflict_of mismatch_of held_of
    started_of answer_of ask_of first_from all_tails alone_in sparse_of well_formed others_of settled_of refused_of stepped_of seated_of first_of unless for_us read_from read_full
    read_of heard_from received_of may_ask no_place asked_at asked_of table_of happens peer_named
    no_links links_fit link_addresses_of some_of find_link_of seek_of towards_of spoken_at
ad_hoc_at_work =
    record {
      well = refl;
      known = tt;
      kept = tt;
      first = refl;
      second = refl;
      after_first = refl;
      after_second = refl;
    }

pub same_six_ad_hoc : SameOutcome (happens ad_hoc_peer) both m₁ m₂ (λ k. get_or onward k 0)
unfolding table_of role_answers
same_six_ad_hoc =
    demand_3 ad_hoc_peer both m₁ m₂ (λ k. get_or onward k 0) (λ k. get_or homeward k 0) refl (ad_hoc_at_work.well, refl)
    (named_all free_of address_of (peer_named ad_hoc_peer both) both m₁ ad_hoc_at_work.known)
    (moved stray (peer_named ad_hoc_peer both) m₁ onward homeward ad_hoc_at_work.kept)
