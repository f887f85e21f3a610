-- A class 3 frame that is not refused, at an access point and at a station, is admitted exactly if its sender is in State 3 or above.
-- Assumes nothing.
use Prim.Native.Nat.{ℕ}
use native.Mathlib.Omega.{arith}
use mathlib.Core.Path.{◌≡◌, refl, ap, subst, ◌∙◌}
use mathlib.Core.Bool.{Bool, true, false, not, ◌&&◌, ◌||◌}
use mathlib.Core.List.{List}
use lib.Dec.{eqb, leb, ltb}
use lib.ListN.{length, get_or}
use borrow.Author.Tests.{eq-eqb, eqb-true, not-false}
use Rattle.octets.proofs.Branch.{by_bool, pick_both, pick_by}
use Rattle.octets.proofs.Sorts.{sort_class}
use Rattle.octets.specs.Address.{group_of, valid_of}
use Rattle.octets.specs.Class.{class_in, class_of, classless, is_public_action}
use Rattle.octets.specs.Element.{broken_of}
use Rattle.octets.specs.Field.{field, subtype_of, type_of, version_of}
use Rattle.octets.specs.Frame.{longest}
use Rattle.octets.specs.Heard.{heard_of}
use Rattle.octets.specs.Links.{no_links}
use Rattle.octets.specs.Pick.{pick}
use Rattle.octets.specs.Shape.{is_bare, least_of, shape_of}
use Rattle.octets.specs.declared.class.FrameClass.{FrameClass}
use Rattle.octets.specs.declared.class.FrameClass.TheVariants as class
use Rattle.octets.specs.declared.heard.Heard.{Heard}
use Rattle.octets.specs.declared.heard.Heard.TheVariants as heard
use Rattle.octets.specs.declared.shape.Shape.{Shape}
use Rattle.octets.specs.declared.shape.Shape.TheVariants.{Full}
use Rattle.peer.proofs.Classes.{Classed, classed}
use Rattle.peer.proofs.Fits.{both, clash, or_left, wrong}
use Rattle.peer.specs.Authentication.{full_of}
use Rattle.peer.specs.Challenge.{query_request_heard, query_response_heard}
use Rattle.peer.specs.Farewell.{deauthentication_heard, disassociation_heard}
use Rattle.peer.specs.Hear.{act_of, group_heard, hear_of}
use Rattle.peer.specs.Query.{is_running}
use Rattle.peer.specs.Record.{free_of, fresh_of}
use Rattle.peer.specs.Settings.{role_associates}
use Rattle.peer.specs.Turn.{admit, discard, replied_of, still_of, towards_of, turn_of}
use Rattle.peer.specs.declared.record.Record.{Record}
use Rattle.peer.specs.declared.settings.Settings.{Settings}
use Rattle.peer.specs.declared.turn.Turn.{Turn}
use Rattle.table.specs.Answer.{refused_of, settled_of, stepped_of}
use Rattle.table.specs.Joined.{record_with, sender_in}
use Rattle.table.specs.Places.{addresses_of, find_of, seek_of}
use Rattle.table.specs.Read.{for_us, read_as, read_from, read_full, read_of}
use Rattle.table.specs.Receive.{heard_at, heard_from, received_of}
use Rattle.table.specs.Seat.{newcomer_of, peer_of, seated_of, starts_of, stranger_of, turn_in}
use Rattle.table.specs.Step.{step_of}
use Rattle.table.specs.declared.rules.answer.Met.{Met}
use Rattle.table.specs.declared.rules.event.Event.TheVariants as event
use Rattle.std.specs.Prelude.{Option, Some, None}
use Rattle.table.proofs.Joining.FrameSteps.{seek_stands}
use Rattle.table.proofs.Joining.Records.{Stands, over, own_record}
use Rattle.table.proofs.Theorems.Well.{Well, of_well}
use Rattle.table.proofs.Theorems.WordedRecords.{valid_named}

-- ---- one peer

-- what a class 3 frame says is acted on, to our own address and to a group's
abbrev Admits : Turn → Type 0
Admits t = t.verdict ≡ admit

three_admits : (s : Settings) (p : Record) (group : Bool) (h : Heard) → Classed class.Three h → Admits (pick group (group_heard s p h) (act_of s p h))
unfolding group_heard still_of replied_of turn_of deauthentication_heard disassociation_heard query_request_heard query_response_heard
three_admits s p group heard.Other k = pick_both Admits group refl refl
three_admits s p group (heard.Authentication algorithm transaction status) k = let z : ◌≡◌ {A = ℕ} 0 1 = cc in absurd (omega arith)
three_admits s p group (heard.Deauthentication reason) k =
    pick_both Admits group (pick_both Admits (ltb p.state 2) refl refl) (pick_both Admits (ltb p.state 2) refl refl)
three_admits s p group (heard.Disassociation reason) k =
    pick_both Admits group (pick_both Admits (ltb p.state 3) refl refl) (pick_both Admits (ltb p.state 3) refl refl)
three_admits s p group (heard.Request kind current) k = let y = k.0 in let z : ◌≡◌ {A = ℕ} 0 1 = cc in absurd (omega arith)
three_admits s p group (heard.Response kind status aid c) k = let z : ◌≡◌ {A = ℕ} 0 1 = cc in absurd (omega arith)
three_admits s p group (heard.QueryRequest identifier) k = pick_both Admits group refl (pick_both Admits (eqb p.state 4) refl refl)
three_admits s p group (heard.QueryResponse identifier) k =
    pick_both Admits group refl (pick_both Admits (eqb p.state 4 && (is_running p.query && eqb identifier p.identifier)) refl refl)

module _ (s : Settings) (role : role_associates s.role ≡ true) (p : Record) (group : Bool) (h : Heard) (k : Classed class.Three h) where
  three_verdict : (hear_of s p class.Three group h).verdict ≡ pick (leb 3 p.state) admit discard
  unfolding hear_of replied_of turn_of
  three_verdict = by_bool (leb 3 p.state) (λ e. rw (role, e) (three_admits s p group h k)) (λ e. rw (role, e))

  -- what is kept out leaves the record
  three_kept : leb 3 p.state ≡ false → (hear_of s p class.Three group h).peer ≡ p
  unfolding hear_of replied_of turn_of
  three_kept e = rw (role, e)

-- ---- the frame

-- a CTS or an ACK is class 1
bare_one : (xs : List ℕ) → class_of xs ≡ class.Three → is_bare (field 1 0 xs) ≡ true → ⊥
unfolding class_of is_public_action is_bare
bare_one xs three b =
    let k = both (eqb (type_of (field 1 0 xs)) 1) _ b in
    let one = eqb-true (type_of (field 1 0 xs)) 1 k.0 in
    by_bool (eqb (version_of (field 1 0 xs)) 0)
    (λ v. by_bool (eqb (subtype_of (field 1 0 xs)) 12)
    (λ e. not_three (rw (v, one, eqb-true (subtype_of (field 1 0 xs)) 12 e) at three))
    (λ e. not_three (rw (v, one, eqb-true (subtype_of (field 1 0 xs)) 13 (rw e at k.1)) at three)))
    (λ v. none_three (rw v at three))
  where
    not_three : class.One ≡ class.Three → ⊥
    not_three e = let z : ◌≡◌ {A = ℕ} 0 1 = cc in omega arith

    none_three : class.None ≡ class.Three → ⊥
    none_three e = let z : ◌≡◌ {A = ℕ} 0 1 = cc in omega arith

module _ (s : Settings) (t : List Record) (w : Well s t) (role : role_associates s.role ≡ true) (xs : List ℕ) (three : class_of xs ≡ class.Three) where
  abbrev a : ℕ
  a = field 6 10 xs

  -- the sender is somebody, and the verdict is by its state
  abbrev Verdict : Met → Type 0
  Verdict m = m.answer.refusal ≡ 0 → (eqb (sender_in t xs) 0 ≡ false) × (m.answer.verdict ≡ pick (over 3 t (sender_in t xs)) admit discard)

  nonzero : {P : Type 0} (n : ℕ) → eqb n 0 ≡ false → n ≡ 0 → P
  nonzero n z e = clash (eq-eqb n 0 e) z

  found_verdict : (at free : Option ℕ) (h : Heard) (group : Bool) → Classed class.Three h → Stands t a at → sender_in t xs ≡ (peer_of t at a).address
      → Verdict (turn_in t at free (towards_of a (hear_of s (peer_of t at a) class.Three group h)) (towards_of a (full_of s (peer_of t at a))))
  unfolding seated_of newcomer_of stranger_of starts_of towards_of fresh_of no_links
  found_verdict (Some i) free h group k st sender r =
      let p = get_or t i free_of in
      let own : record_with t (sender_in t xs) ≡ p = ap (λ (n : ℕ). record_with t n) sender ∙ own_record s t w i st.0 st.1 in
      (rw sender st.1, three_verdict s role p group h k ∙ rw own)
  found_verdict None free h group k st sender r =
      let p = fresh_of a in
      let own : record_with t (sender_in t xs) ≡ p = ap (λ (n : ℕ). record_with t n) sender ∙ rw st.0 in
      (rw sender st.1, rw (three_kept s role p group h k refl, own) (three_verdict s role p group h k))

  abbrev ReadVerdict : Shape → Type 0
  ReadVerdict shape = Verdict (heard_at s t (addresses_of t) (read_as shape s.own (role_associates s.role) xs))

  class_here : class_in (role_associates s.role) xs ≡ class.Three
  unfolding class_in
  class_here = rw role three

  says_three : Classed class.Three (heard_of xs)
  says_three = subst (λ (k : FrameClass). Classed k (heard_of xs)) class_here (classed (role_associates s.role) xs (rw class_here))

  full : ReadVerdict Full
  unfolding refused_of settled_of read_full read_from heard_from
  full = by_bool (not (for_us s.own (field 6 4 xs))) (λ u. rw u (nonzero 4 refl)) (λ u.
      by_bool (eqb a s.own || not (valid_of a)) (λ v. rw (u, v) (nonzero 3 refl)) (λ v.
      by_bool (broken_of xs) (λ b. rw (u, v, b) (nonzero 3 refl)) (λ b.
      let z = valid_named a (not-false _ (or_left (eqb a s.own) _ v).1) in
      let at = seek_of t (addresses_of t) a in
      let st = seek_stands s t w a z at refl in
      rw (u, v, b, sort_class (role_associates s.role) xs, class_here) (found_verdict at (find_of (addresses_of t) 0) (heard_of xs) (group_of (field 6 4 xs)) says_three st.0 st.1))))

  read_verdict : ReadVerdict (shape_of xs)
  unfolding shape_of refused_of settled_of
  read_verdict =
      pick_both ReadVerdict (ltb (length xs) 10 || ltb 4096 (length xs)) (nonzero 3 refl)
      (pick_by ReadVerdict (classless (class_of xs)) (λ e. wrong (rw three at e)) (λ e.
      pick_both ReadVerdict (ltb (length xs) (least_of (field 1 0 xs))) (nonzero 3 refl)
      (pick_by ReadVerdict (is_bare (field 1 0 xs)) (λ b. absurd (bare_one xs three b)) (λ b. full))))

  pub three_admitted : (n : ℕ) → (step_of s t event.Frame xs n).answer.refusal ≡ 0
      → (eqb (sender_in t xs) 0 ≡ false) × ((step_of s t event.Frame xs n).answer.verdict ≡ pick (over 3 t (sender_in t xs)) admit discard)
  unfolding stepped_of received_of read_of refused_of settled_of
  three_admitted n = by_bool (ltb n longest) (λ e. rw e (nonzero 1 refl)) (λ e. rw (e, of_well s t w) read_verdict)
