-- A primitive, as an event of a run (Steps.antt).
-- Assumes nothing.
use Prim.Native.Nat.{ℕ}
use mathlib.Core.Path.{◌≡◌, refl, ap, sym, ◌∙◌}
use mathlib.Core.Bool.{Bool, true, false, not, ◌&&◌, ◌||◌}
use mathlib.Core.List.{List}
use lib.Dec.{eqb, leb, ltb}
use lib.ListN.{get_or}
use borrow.Author.Tests.{eqb-true, not-true, not-false}
use Rattle.octets.proofs.Branch.{and_left, and_right, by_bool, pick_both}
use Rattle.octets.specs.Pick.{pick}
use Rattle.peer.proofs.Fits.{both, or_left, wrong}
use Rattle.peer.proofs.Links.{ask_links}
use Rattle.peer.specs.Ask.{answer_of, ask_of, associate_of, awaited_of, deauthenticate_of, declined_of, disassociate_of, failed_of, reassociate_of, report_of, respond_of, secure_of, started_of}
use Rattle.peer.specs.Challenge.{inquired_of}
use Rattle.peer.specs.Record.{awaiting_of, free_of, fresh_of, spoken_at}
use Rattle.peer.specs.Refuse.{code_allowed, mismatch_of}
use Rattle.peer.specs.Turn.{discard, towards_of, turn_of}
use Rattle.peer.specs.declared.record.Record.{Record}
use Rattle.peer.specs.declared.refuse.Others.{Others}
use Rattle.peer.specs.declared.settings.Settings.{Settings}
use Rattle.peer.specs.declared.turn.Turn.{Turn}
use Rattle.table.specs.Answer.{refused_of, settled_of, stepped_of}
use Rattle.table.specs.Ask.{asked_at, asked_of, may_ask}
use Rattle.table.specs.Joined.{acknowledges, counts, deauthenticates, disassociates, exchange_with, grants, record_with, rejects}
use Rattle.table.specs.Others.{others_of}
use Rattle.table.specs.Places.{addresses_of, find_link_of, find_of, on_found}
use Rattle.table.specs.Refusals.{unless}
use Rattle.table.specs.Seat.{aid_of, newcomer_of, peer_of, seated_of, starts_of, stranger_of, turn_in}
use Rattle.table.specs.declared.rules.answer.Met.{Met}
use Rattle.table.specs.declared.rules.event.Event.TheVariants as event
use Rattle.std.specs.Prelude.{Option, Some, None}
use Rattle.table.proofs.Joining.AskedTurns.{ask_asks, awaiting_two}
use Rattle.table.proofs.Joining.Lines.{Turned, or_none}
use Rattle.table.proofs.Joining.Records.{Stands, Still, device_fits, found_inside, over, own_record, turn_moves}
use Rattle.table.proofs.Joining.Steps.{Law, Steps, law_moves, law_still, steps_of}
use Rattle.table.proofs.Order.OwnRecord.{ask_alone}
use Rattle.table.proofs.Passes.LinkLaws.{unfound}
use Rattle.table.proofs.Theorems.StepKeeps.{none_of}
use Rattle.table.proofs.Theorems.Well.{Leads, Well, find_leads, found_address}
use Rattle.table.proofs.Theorems.WordedRecords.{valid_named}

-- a primitive has no verdict
abbrev Silent : Turn → Type 0
Silent t = t.verdict ≡ 0

ask_silent : (s : Settings) (aid : ℕ) (p : Record) (o : Others) (q c : ℕ) → Silent (ask_of s aid p o q c)
unfolding ask_of started_of answer_of deauthenticate_of associate_of reassociate_of failed_of disassociate_of respond_of awaited_of declined_of secure_of report_of inquired_of turn_of
ask_silent s aid p o q c =
    pick_both Silent (eqb q 1) refl
    (pick_both Silent (eqb q 2) refl
    (pick_both Silent (eqb q 3) refl
    (pick_both Silent (eqb q 4) (pick_both Silent (eqb p.state 1) refl refl)
    (pick_both Silent (eqb q 5) (pick_both Silent (eqb o.associated 0 || eqb p.state 1) refl refl)
    (pick_both Silent (eqb q 6) (pick_both Silent (ltb p.state 3) refl refl)
    (pick_both Silent (eqb q 7) (pick_both Silent (eqb c 0) refl refl)
    (pick_both Silent (eqb q 8) (pick_both Silent (eqb c 0) refl refl)
    (pick_both Silent (eqb q 9) refl
    (pick_both Silent (eqb q 10) refl refl)))))))))

module _ (s : Settings) (t : List Record) (w : Well s t) (q a c : ℕ) (d : ℕ) (some : eqb d 0 ≡ false) where
  abbrev E : Bool
  E = eqb a d

  abbrev G : Bool
  G = E && grants (exchange_with t d) q c

  abbrev X : Bool
  X = E && deauthenticates q c

  abbrev J : Bool
  J = E && acknowledges (exchange_with t d) q c

  abbrev Y : Bool
  Y = (E && deauthenticates q c) || ((E && disassociates q c) || ((E && rejects s (exchange_with t d) q c) || (false || false)))

  abbrev seen_in : Met → Bool
  seen_in m = eqb m.answer.refusal 0 && not (eqb m.answer.verdict discard)

  abbrev AskLaw : Met → Type 0
  AskLaw m = Law (seen_in m) t m.table d G X J Y

  refused_law : (n : ℕ) → eqb n 0 ≡ false → AskLaw (refused_of t n)
  unfolding refused_of settled_of
  refused_law n e = law_still d G X J Y (rw e) refl

  unless_law : (n : ℕ) (m : Met) → Well s (unless n t m).table → (eqb n 0 ≡ true → Well s m.table → AskLaw m) → AskLaw (unless n t m)
  unfolding unless refused_of settled_of
  unless_law n m w' k = by_bool (eqb n 0) (λ e. rw e (k e (rw e at w'))) (λ e. rw e (refused_law n e))

  -- the one turn counts, whether there is a place for it or not
  turn_seen : (at free : Option ℕ) (turn : Turn) → turn.verdict ≡ 0 → seen_in (turn_in t at free turn turn) ≡ true
  unfolding seated_of newcomer_of stranger_of
  turn_seen (Some i) free turn v = rw v
  turn_seen None free turn v = go (starts_of turn) free
    where
      go : (b : Bool) (f : Option ℕ) → seen_in (pick b (on_found f (stranger_of t turn) (λ i. seated_of t i turn)) (stranger_of t turn)) ≡ true
      go false f = rw v
      go true None = rw v
      go true (Some i) = rw v

  turned_law :
      (at free : Option ℕ) (turn : Turn) → turn.verdict ≡ 0 → turn.sole ≡ false → a ≡ (peer_of t at a).address → record_with t (peer_of t at a).address ≡ peer_of t at a → Stands t a at
      → Still at (grants (peer_of t at a).exchange q c) (acknowledges (peer_of t at a).exchange q c) turn
      → find_of (addresses_of t) 0 ≡ free → turn.peer.address ≡ (peer_of t at a).address
      → Turned (peer_of t at a) (grants (peer_of t at a).exchange q c) (deauthenticates q c) (acknowledges (peer_of t at a).exchange q c) (deauthenticates q c || (disassociates q c || rejects s (peer_of t at a).exchange q c)) turn
      → Well s (turn_in t at free turn turn).table → AskLaw (turn_in t at free turn turn)
  turned_law at free turn v alone sender own st still f same k w' =
      let p = peer_of t at a in
      rw (turn_seen at free turn v)
      (law_moves {b = true} p.address d (grants p.exchange q c) (deauthenticates q c) (acknowledges p.exchange q c) (deauthenticates q c || (disassociates q c || rejects s p.exchange q c)) G X J Y turn.sole
      (turn_moves s t w a at free turn turn _ _ _ _ st still f same k w' d some)
      (λ e.
      let here : eqb a d ≡ true = ap (λ (n : ℕ). eqb n d) sender ∙ e in
      let ex : exchange_with t d ≡ p.exchange = ap (λ (r : Record). r.exchange) (ap (λ (n : ℕ). record_with t n) (sym (eqb-true p.address d e)) ∙ own) in
      (rw (here, ex), rw here, rw (here, ex), rw (here, ex, or_none (rejects s p.exchange q c))))
      (λ e. let gone : eqb a d ≡ false = ap (λ (n : ℕ). eqb n d) sender ∙ e in (rw gone, rw gone, rw gone, rw (gone, alone))))

  abbrev turn : Option ℕ → Turn
  turn at = towards_of (spoken_at (peer_of t at a)) (ask_of s (aid_of at) (peer_of t at a) (others_of s t) q c)

  asked_law : Well s (asked_at s t (addresses_of t) q a c).table → AskLaw (asked_at s t (addresses_of t) q a c)
  unfolding asked_at may_ask towards_of fresh_of grants acknowledges
  asked_law w' = unless_law _ _ w' (λ e w''.
      let r3 = none_of s t w 3 _ _ refl e in
      let r5 = none_of s t w 5 _ _ refl r3.1 in
      let r9 = none_of s t w 9 _ _ refl r5.1 in
      let r7 = none_of s t w 7 _ _ refl r9.1 in
      let n = or_left (not (may_ask s q a c)) _ r3.0 in
      let may = both (code_allowed q c) _ (not-false _ n.0) in
      let peer = both (not (eqb a s.own)) _ may.1 in
      go (find_of (addresses_of t) a) refl (valid_named a peer.1) (find_leads s t w a peer.0 peer.1 (find_of (addresses_of t) a) (unfound (find_link_of t a) n.1) refl) r7.0 w'')
    where
      go : (at : Option ℕ) → find_of (addresses_of t) a ≡ at → eqb a 0 ≡ false → Leads s t w a at → mismatch_of (peer_of t at a) (others_of s t) q ≡ false
          → Well s (turn_in t at (find_of (addresses_of t) 0) (turn at) (turn at)).table → AskLaw (turn_in t at (find_of (addresses_of t) 0) (turn at) (turn at))
      go None f z l m w' =
          let k = ask_asks s (fresh_of a) w.settings l.2 (aid_of None) (others_of s t) q c m in
          turned_law None (find_of (addresses_of t) 0) (turn None) (ask_silent s (aid_of None) (fresh_of a) (others_of s t) q c) (ask_alone s (aid_of None) (fresh_of a) (others_of s t) q c)
          refl (rw f) (f, z) (refl, refl, ask_alone s (aid_of None) (fresh_of a) (others_of s t) q c) refl (ask_links s (fresh_of a) (aid_of None) (others_of s t) q c).0
          (record { two = k.two; three = k.three }) w'
      go (Some i) f z l m w' =
          let p = get_or t i free_of in
          let same = found_address t a i f in
          let busy : eqb p.address 0 ≡ false = rw same z in
          let inside = found_inside t a i f in
          let k = ask_asks s p w.settings l (aid_of (Some i)) (others_of s t) q c m in
          turned_law (Some i) (find_of (addresses_of t) 0) (turn (Some i)) (ask_silent s (aid_of (Some i)) p (others_of s t) q c) (ask_alone s (aid_of (Some i)) p (others_of s t) q c)
          (sym same) (own_record s t w i inside busy) (inside, busy) tt refl (ask_links s p (aid_of (Some i)) (others_of s t) q c).0
          (record { two = k.two; three = k.three }) w'

  acknowledged_stands : J ≡ true → over 2 t d ≡ true
  unfolding fresh_of acknowledges
  acknowledged_stands e = go (find_of (addresses_of t) d) refl (and_right E _ e)
    where
      go : (at : Option ℕ) → find_of (addresses_of t) d ≡ at → acknowledges (peer_of t at d).exchange q c ≡ true → leb 2 (peer_of t at d).state ≡ true
      go None f e = wrong e
      go (Some i) f e =
          let p = get_or t i free_of in
          awaiting_two p.exchange s.role p.state p.left (device_fits s t w d i some f).suits (not-true _ (and_left (not (eqb (awaiting_of p.exchange) 0)) _ e))

  pub ask_steps : (xs : List ℕ) (n : ℕ) → Well s (asked_of s t q a c n).table → Steps s d (record { table = t; event = event.Ask q a c; octets = xs; room = n })
  unfolding counts stepped_of asked_of
  ask_steps xs n w' = steps_of s d (record { table = t; event = event.Ask q a c; octets = xs; room = n })
      (unless_law _ _ w' (λ e w''. asked_law w'')) acknowledged_stands
