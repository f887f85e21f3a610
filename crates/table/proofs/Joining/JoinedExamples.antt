-- The histories of specs/JoinedCases.antt, computed; and that each sender has joined, or has not, by `class_3_after_joining`.
-- Assumes nothing.
use Prim.Native.Nat.{ℕ}
use native.Mathlib.Omega.{arith}
use mathlib.Core.Path.{◌≡◌, refl, subst, sym, ◌∙◌}
use mathlib.Core.Bool.{true}
use mathlib.Core.List.{List, [], ◌∷◌, ◌++◌, map}
use lib.ListN.{get_or}
use lib.Dec.{eqb}
use borrow.Author.Tests.{eqb-true}
use Rattle.octets.specs.Address.{group_of, valid_of}
use Rattle.octets.specs.Class.{class_in, class_of, is_public_action, is_direct, listed_class, number_of}
use Rattle.octets.specs.Element.{broken_of, ends, is_response, walk}
use Rattle.octets.specs.Field.{octets}
use Rattle.octets.specs.Frame.{aid_field, body_of, bytes_of, capability_of, comeback_element, head_of, length_of, written_of}
use Rattle.octets.specs.Heard.{authentication_of, heard_of, response_of}
use Rattle.octets.specs.Links.{links_at, no_links}
use Rattle.octets.specs.Shape.{is_bare, least_management, least_of, shape_of}
use Rattle.octets.specs.Sort.{is_listed, sort_of}
use Rattle.octets.specs.declared.class.FrameClass.{FrameClass}
use Rattle.octets.specs.declared.class.FrameClass.TheVariants as class
use Rattle.peer.proofs.Fits.{both, wrong}
use Rattle.peer.specs.Ask.{answer_of, ask_of, associate_of, awaited_of, deauthenticate_of, declined_move, declined_of, disassociate_of, reassociate_of, report_of, reported_move, respond_of, started_of}
use Rattle.peer.specs.Association.{accepted_of, parted_of, rejected_of, request_heard, response_heard}
use Rattle.peer.specs.Authentication.{answered_move, authentication_answered, authentication_asked, authentication_heard, requested_of}
use Rattle.peer.specs.Challenge.{challenged_of, is_challenged, passed_of as unmarked, querying_of}
use Rattle.peer.specs.Farewell.{deauthentication_heard}
use Rattle.peer.specs.Filter.{barred_of}
use Rattle.peer.specs.Fit.{asked_fits, awaiting_fits, highest_state, hold_fits, links_fit, links_stand, place_fits, query_allowed, query_stands, record_fits, running_fits, sent_fits, slot_fits, stands}
use Rattle.peer.specs.Hear.{group_heard, hear_of}
use Rattle.peer.specs.Moves.{ds_of}
use Rattle.peer.specs.Query.{query_in, running_of, stepped_of as stepped, unmarked_of}
use Rattle.peer.specs.Record.{associates, changed_of, fresh_of, is_free, is_joined, linked_of as withLinks, queried_of, spoken_at}
use Rattle.peer.specs.Refuse.{code_allowed, conflict_of, held_of, join_conflict, joined_elsewhere, mismatch_of, role_allowed}
use Rattle.peer.specs.Reply.{authentication_to, deauthentication_to, disassociation_to, later_to, network_address, request_to, response_to, send_of}
use Rattle.peer.specs.Settings.{network_fits, query_times_fit, role_answers, role_asks, role_associates, settings_fit, time_fits}
use Rattle.peer.specs.Tick.{expired_move, freed_of, queried_timed, reported_of, tick_of, timed_of}
use Rattle.peer.specs.declared.settings.Settings.{Settings}
use Rattle.peer.specs.Turn.{admit, begun_of, discard, ended_of, linking_of, replied_of, sole_of, still_of, towards_of, turn_of}
use Rattle.table.specs.Answer.{refused_of, settled_of, stepped_of}
use Rattle.table.specs.Ask.{asked_at, asked_of, may_ask, no_place}
use Rattle.table.specs.Case.{same}
use Rattle.table.specs.Fit.{alone_in, crowd_of, sparse_of, well_formed}
use Rattle.table.specs.History.{Moment, empty_table, run_from}
use Rattle.table.specs.Joined.{Joined, acknowledges, counts, grants, is_association, is_authentication, is_deauthentication, is_disassociation, is_move, is_rejection, is_teardown, is_timeout, of_octets, rejects, sender_in, valid_aid}
use Rattle.table.specs.JoinedCases.{History, at_ap, histories, holds, joins_ap, mark_of, other, roams, table_after}
use Rattle.table.specs.Marked.{as_ap, as_station, frame_of, ours, theirs, them}
use Rattle.table.specs.Link.{count_fits, link_allowed, linked_at, linked_of, may_link, used_elsewhere}
use Rattle.table.specs.Others.{associated_of, others_of}
use Rattle.table.specs.Pass.{clocked_of, passed_of, report_for, reports_of}
use Rattle.table.specs.Places.{all_of, all_tails, count_of, find_link_of, first_from, link_addresses_of, seek_of, some_of}
use Rattle.table.specs.Read.{for_us, read_from, read_full, read_of}
use Rattle.table.specs.Receive.{heard_from, received_of}
use Rattle.table.specs.Refusals.{first_of, unless}
use Rattle.table.specs.Seat.{newcomer_of, seated_of, starts_of, stranger_of}
use Rattle.table.specs.Step.{step_of}
use Rattle.table.specs.declared.rules.event.Event.TheVariants as event
use Rattle.table.proofs.Joining.ClassThree.{class_3_after_joining}
use Rattle.table.proofs.Order.OrderExamples.{ad_hoc_peer}
use Rattle.table.proofs.Order.OwnRecord.{all_at}

pub histories_hold : all_of holds histories ≡ true
unfolding valid_of group_of octets class_in class_of listed_class is_public_action sort_of is_listed walk ends is_response broken_of authentication_of response_of heard_of least_management is_bare least_of shape_of
    capability_of aid_field comeback_element head_of body_of bytes_of written_of length_of settings_fit query_times_fit network_fits role_answers role_asks role_associates time_fits is_joined associates
    fresh_of is_free changed_of query_in queried_of withLinks stands asked_fits awaiting_fits sent_fits hold_fits record_fits highest_state query_allowed query_stands running_fits place_fits
    links_fit links_stand slot_fits ds_of network_address send_of authentication_to deauthentication_to disassociation_to request_to response_to later_to turn_of ended_of begun_of
    replied_of still_of sole_of towards_of linking_of barred_of requested_of authentication_asked answered_move authentication_answered authentication_heard
    deauthentication_heard is_challenged challenged_of querying_of running_of stepped unmarked_of unmarked request_heard accepted_of rejected_of response_heard parted_of group_heard hear_of code_allowed
    role_allowed join_conflict conflict_of joined_elsewhere mismatch_of held_of started_of answer_of deauthenticate_of associate_of reassociate_of disassociate_of awaited_of
    declined_move declined_of respond_of reported_move report_of ask_of spoken_at timed_of expired_move freed_of queried_timed reported_of tick_of first_from all_tails count_of some_of
    alone_in crowd_of sparse_of well_formed associated_of others_of settled_of refused_of stepped_of seated_of starts_of stranger_of newcomer_of first_of unless for_us
    read_from read_full read_of heard_from received_of may_ask no_place asked_at asked_of report_for reports_of clocked_of passed_of no_links link_addresses_of
    find_link_of seek_of links_at count_fits used_elsewhere link_allowed may_link linked_at linked_of same mark_of holds counts grants acknowledges rejects valid_aid
    is_authentication is_association is_deauthentication is_disassociation is_rejection is_timeout is_move is_teardown
histories_hold = refl

-- ---- what the theorem says of each

three_of : (k : FrameClass) → eqb (number_of k) 3 ≡ true → k ≡ class.Three
three_of class.None h = wrong h
three_of class.One h = wrong h
three_of class.Two h = wrong h
three_of class.Three h = refl

abbrev Says : History → Type 0
Says c =
    (c.verdict ≡ admit → Joined c.settings c.sender (run_from c.settings empty_table c.events))
    × (c.verdict ≡ discard → Joined c.settings c.sender (run_from c.settings empty_table c.events) → ⊥)

pub history_says : (c : History) → holds c ≡ true → Says c
unfolding holds
history_says c h =
    let a = both (role_associates c.settings.role) _ h in
    let b = both (all_of of_octets c.events) _ a.1 in
    let d = both (eqb (number_of (class_of c.frame)) 3) _ b.1 in
    let e = both (eqb (step_of c.settings (table_after c) event.Frame c.frame 37).answer.refusal 0) _ d.1 in
    let f = both (eqb (sender_in (table_after c) c.frame) c.sender) _ e.1 in
    let g = both (same (map (mark_of c.settings c.sender) (run_from c.settings empty_table c.events)) c.marks) _ f.1 in
    let verdict = eqb-true _ c.verdict g.1 in
    let law = class_3_after_joining c.settings c.events b.0 a.0 c.frame 37 (three_of (class_of c.frame) d.0) (eqb-true _ 0 e.0) in
    let who : sender_in (table_after c) c.frame ≡ c.sender = eqb-true _ c.sender f.0 in
    let Here : ℕ → Type 0 = λ n. Joined c.settings n (run_from c.settings empty_table c.events) in (
      λ v. subst Here who (law.0 (verdict ∙ v)),
      λ v j. let z : ◌≡◌ {A = ℕ} 1 2 = sym (law.1 (subst Here (sym who) j)) ∙ verdict ∙ v in omega arith,
    )

abbrev at : ℕ → History
at i = get_or histories i (at_ap as_ap [] [] [] 0)

-- The peer that joined at the access point; the AP that a station left, and the one that it came to.
joined_at_ap : Joined as_ap them (run_from as_ap empty_table joins_ap)
joined_at_ap = (history_says (at 1) (all_at holds histories 1 (at 15) histories_hold (omega arith))).0 refl

left_behind : Joined as_station them (run_from as_station empty_table roams) → ⊥
left_behind = (history_says (at 11) (all_at holds histories 11 (at 15) histories_hold (omega arith))).1 refl

came_to : Joined as_station other (run_from as_station empty_table roams)
came_to = (history_says (at 12) (all_at holds histories 12 (at 15) histories_hold (omega arith))).0 refl

-- ---- 02, K10: "Demand 3 holds for role 3 too, K9 does not." Data straight from one scanner to another, class 3 by the list of 01, with nothing before it.

abbrev direct : List ℕ
direct = frame_of 0x08 0 ours theirs (0x02 ∷ 0 ∷ 0 ∷ 0 ∷ 0 ∷ 0x0c ∷ []) []

nothing_before : (s : Settings) (d : ℕ) → Joined s d [] → ⊥
nothing_before s d j = none j.association.before j.association.split
  where
    none : (before : List Moment) → [] ≡ before ++ (j.association.one ∷ j.association.after) → ⊥
    none [] e = let z : ◌≡◌ {A = ℕ} 0 1 = cc in omega arith
    none (m ∷ before) e = let z : ◌≡◌ {A = ℕ} 0 1 = cc in omega arith

pub record NotInRoleThree : Type 0 where
  pub three : class_of direct ≡ class.Three
  pub taken : (step_of ad_hoc_peer empty_table event.Frame direct 37).answer.refusal ≡ 0
  pub admitted : (step_of ad_hoc_peer empty_table event.Frame direct 37).answer.verdict ≡ admit
  pub not_joined : Joined ad_hoc_peer (sender_in empty_table direct) (run_from ad_hoc_peer empty_table []) → ⊥

pub not_in_role_3 : NotInRoleThree
unfolding valid_of group_of class_in class_of is_direct is_public_action sort_of is_listed is_response broken_of heard_of is_bare least_of shape_of settings_fit query_times_fit network_fits role_answers role_associates
    time_fits fresh_of is_free place_fits turn_of replied_of still_of hear_of first_from all_tails alone_in sparse_of well_formed settled_of refused_of stepped_of starts_of stranger_of
    newcomer_of for_us read_from read_full read_of heard_from received_of no_links link_addresses_of find_link_of seek_of some_of towards_of
not_in_role_3 = record { three = refl; taken = refl; admitted = refl; not_joined = nothing_before ad_hoc_peer (sender_in empty_table direct) }
