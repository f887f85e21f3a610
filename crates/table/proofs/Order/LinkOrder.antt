-- Demand 3 with the device as the peer (02, K11): the events of OrderExamples.antt, but that one peer is a device with two links, and its frames come
-- from one and from the other.
-- Assumes nothing.
use Prim.Native.Nat.{ℕ}
use mathlib.Core.Path.{◌≡◌, refl}
use mathlib.Core.Bool.{true}
use mathlib.Core.Option.{some}
use mathlib.Core.List.{List, [], ◌∷◌, map}
use lib.Dec.{T}
use lib.ListN.{get_or}
use Rattle.octets.specs.Address.{group_of, valid_of}
use Rattle.octets.specs.Class.{class_in, class_of, is_public_action, listed_class}
use Rattle.octets.specs.Element.{broken_of, is_response}
use Rattle.octets.specs.Field.{octets}
use Rattle.octets.specs.Frame.{body_of, bytes_of, head_of, length_of, written_of}
use Rattle.octets.specs.Heard.{authentication_of, heard_of}
use Rattle.octets.specs.Links.{no_links}
use Rattle.octets.specs.Shape.{is_bare, least_management, least_of, shape_of}
use Rattle.octets.specs.declared.links.Links.{Links}
use Rattle.octets.specs.Sort.{is_listed, sort_of}
use Rattle.peer.specs.Ask.{answer_of, ask_of}
use Rattle.peer.specs.Authentication.{answered_move, authentication_asked, authentication_heard, requested_of}
use Rattle.peer.specs.Filter.{barred_of}
use Rattle.peer.specs.Fit.{asked_fits, highest_state, hold_fits, links_fit, links_stand, place_fits, query_allowed, record_fits, slot_fits, stands}
use Rattle.peer.specs.Hear.{hear_of}
use Rattle.peer.specs.Moves.{ds_of}
use Rattle.peer.specs.Query.{query_in}
use Rattle.peer.specs.Record.{changed_of, free_of, fresh_of, is_free, linked_of, spoken_at}
use Rattle.peer.specs.Refuse.{code_allowed, conflict_of, held_of, mismatch_of, role_allowed}
use Rattle.peer.specs.Reply.{authentication_to, disassociation_to, network_address, send_of}
use Rattle.peer.specs.Settings.{network_fits, query_times_fit, role_answers, role_asks, role_associates, settings_fit, time_fits}
use Rattle.peer.specs.Turn.{begun_of, ended_of, replied_of, towards_of, turn_of}
use Rattle.peer.specs.declared.record.Record.{Record}
use Rattle.table.specs.Answer.{refused_of, settled_of, stepped_of}
use Rattle.table.specs.Ask.{asked_at, asked_of, may_ask, no_place}
use Rattle.table.specs.Case.{table_of}
use Rattle.table.specs.Fit.{alone_in, sparse_of, well_formed}
use Rattle.table.specs.Marked.{as_ap, frame_of, ours, them}
use Rattle.table.specs.Order.{Gets, Handed, SameOutcome, address_of, answers, frame, happens, peer_named, primitive}
use Rattle.table.specs.Others.{others_of}
use Rattle.table.specs.Places.{all_tails, find_link_of, first_from, link_addresses_of, seek_of, some_of}
use Rattle.table.specs.Read.{for_us, read_from, read_full, read_of}
use Rattle.table.specs.Receive.{heard_from, received_of}
use Rattle.table.specs.Refusals.{first_of, unless}
use Rattle.table.specs.Seat.{seated_of}
use Rattle.table.proofs.Order.Allowed.{all_known, allowed, moved, named_all, rearranged}
use Rattle.table.proofs.Order.DemandThree.{demand_3}
use Rattle.table.proofs.Order.OrderExamples.{back, ev, other, other_request, stray, there}

-- the links 02:00:00:00:00:1a and 02:00:00:00:00:1b, in octets
abbrev first : List ℕ
first = 0x02 ∷ 0 ∷ 0 ∷ 0 ∷ 0 ∷ 0x1a ∷ []

abbrev second : List ℕ
second = 0x02 ∷ 0 ∷ 0 ∷ 0 ∷ 0 ∷ 0x1b ∷ []

abbrev bound : Links
bound = record { one = 0x1a0000000002; two = 0x1b0000000002; three = 0; four = 0 }

abbrev pub device : List Record
device = table_of (linked_of (fresh_of them) bound ∷ fresh_of other ∷ [])

-- an authentication request from the second link, and a data frame from the first
abbrev pub n₁ : List Handed
n₁ =
    ev (frame (frame_of 0xb0 0 ours second ours (0 ∷ 0 ∷ 1 ∷ 0 ∷ 0 ∷ 0 ∷ [])))
    ∷ ev (primitive 2 them 0)
    ∷ ev (frame other_request)
    ∷ stray
    ∷ ev (primitive 2 other 1)
    ∷ ev (frame (frame_of 0x08 1 ours first ours []))
    ∷ []

abbrev pub n₂ : List Handed
n₂ = rearranged stray (peer_named as_ap device) n₁ there back

-- Refusal, octets written, the state after, and the last octet of the reply's Address 1.
abbrev shown : Gets → List ℕ
shown g = g.answer.refusal ∷ g.answer.written ∷ g.answer.state ∷ get_or g.bytes 9 0 ∷ []

pub record DeviceAtWork : Type 0 where
  pub well : well_formed as_ap device ≡ true
  pub known : T (all_known free_of address_of (peer_named as_ap device) device n₁)
  pub kept : T (allowed stray (peer_named as_ap device) n₁ there back)
  -- both frames name the device
  request_names : peer_named as_ap device (get_or n₁ 0 stray) ≡ some them
  data_names : peer_named as_ap device (get_or n₁ 5 stray) ≡ some them
  -- the primitive is answered to the first link
  gets : map shown (answers (happens as_ap) device n₁)
      ≡ (0 ∷ 0 ∷ 1 ∷ 9 ∷ []) ∷ (0 ∷ 30 ∷ 2 ∷ 0x1a ∷ []) ∷ (0 ∷ 0 ∷ 1 ∷ 9 ∷ []) ∷ (3 ∷ 0 ∷ 0 ∷ 9 ∷ []) ∷ (0 ∷ 30 ∷ 1 ∷ 0x0b ∷ []) ∷ (0 ∷ 26 ∷ 2 ∷ 0x1a ∷ []) ∷ []

pub device_at_work : DeviceAtWork
unfolding valid_of group_of octets sort_of is_listed listed_class class_in class_of is_public_action is_response broken_of authentication_of heard_of least_management is_bare least_of shape_of head_of body_of
    bytes_of written_of length_of settings_fit query_times_fit network_fits role_answers role_asks role_associates time_fits fresh_of is_free changed_of query_in stands asked_fits
    hold_fits record_fits highest_state query_allowed place_fits ds_of network_address send_of authentication_to disassociation_to turn_of ended_of begun_of replied_of barred_of
    requested_of authentication_asked answered_move authentication_heard hear_of code_allowed role_allowed conflict_of mismatch_of held_of answer_of ask_of first_from all_tails
    alone_in sparse_of well_formed others_of settled_of refused_of stepped_of seated_of first_of unless for_us read_from read_full read_of heard_from received_of may_ask no_place
    asked_at asked_of table_of happens peer_named no_links links_fit links_stand slot_fits link_addresses_of some_of find_link_of seek_of towards_of spoken_at linked_of
device_at_work =
    record {
      well = refl;
      known = tt;
      kept = tt;
      request_names = refl;
      data_names = refl;
      gets = refl;
    }

pub same_six_linked : SameOutcome (happens as_ap) device n₁ n₂ (λ k. get_or there k 0)
unfolding table_of role_answers
same_six_linked =
    demand_3 as_ap device n₁ n₂ (λ k. get_or there k 0) (λ k. get_or back k 0) refl (device_at_work.well, refl)
    (named_all free_of address_of (peer_named as_ap device) device n₁ device_at_work.known)
    (moved stray (peer_named as_ap device) n₁ there back device_at_work.kept)
