-- A frame, as an event of a run (Steps.antt).
-- Assumes nothing.
use Prim.Native.Nat.{ℕ}
use native.Mathlib.Omega.{arith}
use mathlib.Core.Path.{◌≡◌, refl, ap, sym, ◌∙◌}
use mathlib.Core.Bool.{Bool, true, false, not, ◌&&◌, ◌||◌}
use mathlib.Core.List.{List}
use lib.Dec.{eqb, leb, ltb}
use lib.ListN.{length, get_or}
use borrow.Author.Tests.{eqb-true, not-false}
use Rattle.octets.proofs.Branch.{and_left, and_right, by_bool, pick_both, pick_by}
use Rattle.octets.specs.Address.{group_of, valid_of}
use Rattle.octets.specs.Class.{class_of, classless}
use Rattle.octets.specs.Element.{broken_of}
use Rattle.octets.specs.Field.{field, type_of}
use Rattle.octets.specs.Frame.{longest}
use Rattle.octets.specs.Heard.{heard_of}
use Rattle.octets.specs.Shape.{is_bare, least_of, shape_of}
use Rattle.octets.specs.Sort.{class_by, sort_of}
use Rattle.octets.specs.declared.heard.Heard.{Heard}
use Rattle.octets.specs.declared.heard.Heard.TheVariants as heard
use Rattle.octets.specs.declared.shape.Shape.{Shape}
use Rattle.octets.specs.declared.shape.Shape.TheVariants.{Bare, Classless, Full, Misfit}
use Rattle.peer.proofs.Fits.{clash, or_left}
use Rattle.peer.proofs.Links.{hear_links}
use Rattle.peer.specs.Record.{free_of, fresh_of}
use Rattle.peer.specs.Settings.{role_associates}
use Rattle.peer.specs.Turn.{discard, towards_of}
use Rattle.peer.specs.declared.exchange.Exchange.TheVariants.{None}
use Rattle.peer.specs.declared.record.Record.{Record}
use Rattle.peer.specs.declared.settings.Settings.{Settings}
use Rattle.peer.specs.declared.turn.Turn.{Turn}
use Rattle.table.specs.Answer.{refused_of, settled_of, stepped_of}
use Rattle.table.specs.Joined.{accepted_by, counts, exchange_with, granted_by, record_with, rejected_by, says_deauthentication, says_disassociation, sender_in}
use Rattle.table.specs.Order.{device_of}
use Rattle.table.specs.Places.{addresses_of, find_link_of, find_of, on_found, seek_of}
use Rattle.table.specs.Read.{for_us, read_as, read_bare, read_from, read_full, read_of}
use Rattle.table.specs.Receive.{heard_at, heard_from, received_of}
use Rattle.table.specs.Seat.{newcomer_of, peer_of, seated_of, turn_in}
use Rattle.table.specs.declared.rules.answer.Met.{Met}
use Rattle.table.specs.declared.rules.event.Event.TheVariants as event
use Rattle.std.specs.Prelude.{Option}
use Rattle.std.specs.declared.option.Option.TheVariants as option
use Rattle.table.proofs.Joining.HeardTurns.{Hears, accepted_two, hear_hears}
use Rattle.table.proofs.Joining.Lines.{Turned, gone, heard_associating, or_none}
use Rattle.table.proofs.Joining.Records.{Stands, Still, device_fits, found_inside, over, own_record, turn_moves}
use Rattle.table.proofs.Joining.Steps.{Law, Steps, law_moves, law_none, law_still, steps_of}
use Rattle.table.proofs.Order.OwnRecord.{no_kind}
use Rattle.table.proofs.Passes.LinkLaws.{link_inside}
use Rattle.table.proofs.Theorems.Well.{Well, found_address, leads_fits, linked_fits, of_well, seek_leads}
use Rattle.table.proofs.Theorems.WordedRecords.{valid_named}

-- a CTS or an ACK says nothing
bare_other : (xs : List ℕ) → shape_of xs ≡ Bare → heard_of xs ≡ heard.Other
unfolding shape_of heard_of is_bare
bare_other xs =
    let P : Shape → Type 0 = λ sh. sh ≡ Bare → heard_of xs ≡ heard.Other in
    pick_both P (ltb (length xs) 10 || ltb 4096 (length xs)) (λ e. let z : ◌≡◌ {A = ℕ} 0 1 = cc in absurd (omega arith))
    (pick_both P (classless (class_of xs)) (λ e. let z : ◌≡◌ {A = ℕ} 0 1 = cc in absurd (omega arith))
    (pick_both P (ltb (length xs) (least_of (field 1 0 xs))) (λ e. let z : ◌≡◌ {A = ℕ} 0 1 = cc in absurd (omega arith))
    (pick_by P (is_bare (field 1 0 xs))
    (λ b e. rw (eqb-true (type_of (field 1 0 xs)) 1 (and_left (eqb (type_of (field 1 0 xs)) 1) _ b)))
    (λ b e. let z : ◌≡◌ {A = ℕ} 0 1 = cc in absurd (omega arith)))))

-- where no exchange is under way nothing is granted, accepted
granted_none : (h : Heard) → granted_by None h ≡ false
granted_none heard.Other = refl
granted_none (heard.Authentication algorithm transaction status) = refl
granted_none (heard.Deauthentication reason) = refl
granted_none (heard.Disassociation reason) = refl
granted_none (heard.Request kind current) = refl
granted_none (heard.Response kind status aid c) = refl
granted_none (heard.QueryRequest identifier) = refl
granted_none (heard.QueryResponse identifier) = refl

accepted_none : (h : Heard) → accepted_by None h ≡ false
accepted_none heard.Other = refl
accepted_none (heard.Authentication algorithm transaction status) = refl
accepted_none (heard.Deauthentication reason) = refl
accepted_none (heard.Disassociation reason) = refl
accepted_none (heard.Request kind current) = refl
accepted_none (heard.Response kind status aid c) = rw (no_kind kind)
accepted_none (heard.QueryRequest identifier) = refl
accepted_none (heard.QueryResponse identifier) = refl

-- where a frame's Address 2 leads: the sender is the device whose record it is
pub seek_stands :
    (s : Settings) (t : List Record) → Well s t → (a : ℕ) → eqb a 0 ≡ false → (at : Option ℕ) → seek_of t (addresses_of t) a ≡ at
    → Stands t a at × (device_of t a ≡ (peer_of t at a).address)
unfolding seek_of fresh_of
seek_stands s t w a z at e = go (find_link_of t a) refl at e
  where
    device : (at : Option ℕ) → find_of (addresses_of t) a ≡ at → Stands t a at × (a ≡ (peer_of t at a).address)
    device option.None q = ((q, z), refl)
    device (option.Some i) q = let same = found_address t a i q in ((found_inside t a i q, rw same z), sym same)

    go : (l : Option ℕ) → find_link_of t a ≡ l → (at : Option ℕ) → on_found l (find_of (addresses_of t) a) (λ i. option.Some i) ≡ at
        → Stands t a at × (on_found l a (λ i. (get_or t i free_of).address) ≡ (peer_of t at a).address)
    go option.None l at q = device at q
    go (option.Some i) l at q = rw (← q) ((link_inside t a i l, valid_named _ (linked_fits s t w a i l).valid), refl)

module _ (s : Settings) (t : List Record) (w : Well s t) (xs : List ℕ) (d : ℕ) (some : eqb d 0 ≡ false) where
  abbrev h : Heard
  h = heard_of xs

  abbrev E : Bool
  E = eqb (sender_in t xs) d

  abbrev G : Bool
  G = E && granted_by (exchange_with t d) h

  abbrev X : Bool
  X = E && says_deauthentication h

  abbrev J : Bool
  J = E && accepted_by (exchange_with t d) h

  abbrev Y : Bool
  Y = (E && says_deauthentication h) || ((E && says_disassociation h) || ((E && rejected_by (exchange_with t d) h) || (false || (not E && accepted_by (exchange_with t (sender_in t xs)) h))))

  abbrev seen_in : Met → Bool
  seen_in m = eqb m.answer.refusal 0 && not (eqb m.answer.verdict discard)

  abbrev FrameLaw : Met → Type 0
  FrameLaw m = Law (seen_in m) t m.table d G X J Y

  -- a peer's turn, which counts as b says
  module _ (at : Option ℕ) (own : record_with t (peer_of t at (field 6 10 xs)).address ≡ peer_of t at (field 6 10 xs)) (sender : sender_in t xs ≡ (peer_of t at (field 6 10 xs)).address) where
    abbrev p : Record
    p = peer_of t at (field 6 10 xs)

    exchange_own : eqb p.address d ≡ true → exchange_with t d ≡ p.exchange
    exchange_own e = ap (λ (r : Record). r.exchange) (ap (λ (n : ℕ). record_with t n) (sym (eqb-true p.address d e)) ∙ own)

    turned_law :
        (free : Option ℕ) (turn full : Turn) (b : Bool) → Stands t (field 6 10 xs) at
        → Still at (b && granted_by p.exchange h) (b && accepted_by p.exchange h) turn
        → find_of (addresses_of t) 0 ≡ free → turn.peer.address ≡ p.address
        → Turned p (b && granted_by p.exchange h) (b && says_deauthentication h) (b && accepted_by p.exchange h) (b && (says_deauthentication h || (says_disassociation h || rejected_by p.exchange h))) turn
        → turn.sole ≡ (b && accepted_by p.exchange h) → Well s (turn_in t at free turn full).table
        → Law b t (turn_in t at free turn full).table d G X J Y
    turned_law free turn full b st still f same k parts w' =
        law_moves p.address d (granted_by p.exchange h) (says_deauthentication h) (accepted_by p.exchange h)
        (says_deauthentication h || (says_disassociation h || rejected_by p.exchange h)) G X J Y turn.sole
        (turn_moves s t w (field 6 10 xs) at free turn full _ _ _ _ st still f same k w' d some)
        (λ e. let ex = exchange_own e in (rw (sender, e, ex), rw (sender, e), rw (sender, e, ex), rw (sender, e, ex, or_none (rejected_by p.exchange h))))
        (λ e.
        let acc : accepted_by (exchange_with t (sender_in t xs)) h ≡ accepted_by p.exchange h = ap (λ (n : ℕ). accepted_by (exchange_with t n) h) sender ∙ ap (λ (r : Record). accepted_by r.exchange h) own in
        (rw (sender, e), rw (sender, e), rw (sender, e), rw (acc, sender, e) (sym parts)))

  abbrev a : ℕ
  a = field 6 10 xs

  -- of a peer with a record, and of one without
  found_law :
      (at free : Option ℕ) (turn full : Turn) → Hears (peer_of t at a) h turn → sender_in t xs ≡ (peer_of t at a).address → Stands t a at
      → find_of (addresses_of t) 0 ≡ free → turn.peer.address ≡ (peer_of t at a).address → Well s (turn_in t at free turn full).table
      → FrameLaw (turn_in t at free turn full)
  unfolding seated_of fresh_of
  found_law (option.Some i) free turn full k sender st f same w' =
      turned_law (option.Some i) (own_record s t w i st.0 st.1) sender free turn full (not (eqb turn.verdict 2)) st tt f same k.turned k.parts w'
  found_law option.None free turn full k sender st f same w' =
      turned_law option.None (rw st.0) sender free turn full b st (rw (none, ← gone b), rw (no, ← gone b), alone) f same
      (record { two = rw (none, ← gone b) low_two; three = rw (no, ← gone b) low_three }) (rw (no, ← gone b) alone) w'
    where
      b : Bool
      b = seen_in (newcomer_of t free turn full)

      seen : Bool
      seen = not (eqb turn.verdict 2)

      none : granted_by None h ≡ false
      none = granted_none h

      no : accepted_by None h ≡ false
      no = accepted_none h

      alone : turn.sole ≡ false
      alone = k.parts ∙ rw (no, ← gone seen)

      low_two : leb 2 turn.peer.state ≡ false
      low_two = k.turned.two ∙ rw (none, ← gone seen)

      low_three : leb 3 turn.peer.state ≡ false
      low_three = k.turned.three ∙ rw (no, ← gone seen)

  bare_law : h ≡ heard.Other → Law true t t d G X J Y
  bare_law o = law_none d G X J Y (rw o (sym (gone E))) (rw o (sym (gone E))) (rw o (sym (gone E))) (rw o (untorn E))
    where
      untorn : (b : Bool) → ((b && false) || ((b && false) || ((b && false) || (false || (not b && false))))) ≡ false
      untorn true = refl
      untorn false = refl

  -- as a frame reads
  shape_law : (shape : Shape) → shape_of xs ≡ shape → Well s (heard_at s t (addresses_of t) (read_as shape s.own (role_associates s.role) xs)).table
      → FrameLaw (heard_at s t (addresses_of t) (read_as shape s.own (role_associates s.role) xs))
  unfolding refused_of settled_of read_bare read_full read_from heard_from towards_of
  shape_law Misfit e w' = law_still d G X J Y refl refl
  shape_law Classless e w' = law_still d G X J Y refl refl
  shape_law Bare e w' = by_bool (for_us s.own (field 6 4 xs)) (λ u. rw u (bare_law (bare_other xs e))) (λ u. rw u (law_still d G X J Y refl refl))
  shape_law Full e w' = by_bool (not (for_us s.own (field 6 4 xs)))
      (λ u. rw u (law_still d G X J Y refl refl))
      (λ u. by_bool (eqb a s.own || not (valid_of a))
      (λ v. rw (u, v) (law_still d G X J Y refl refl))
      (λ v. by_bool (broken_of xs)
      (λ b. rw (u, v, b) (law_still d G X J Y refl refl))
      (λ b. rw (u, v, b) (from_law (or_left (eqb a s.own) _ v) (rw (u, v, b) at w')))))
    where
      from_law : (eqb a s.own ≡ false) × (not (valid_of a) ≡ false) → Well s (heard_from s t (addresses_of t) a (group_of (field 6 4 xs)) (class_by (sort_of (role_associates s.role) xs)) h).table
          → FrameLaw (heard_from s t (addresses_of t) a (group_of (field 6 4 xs)) (class_by (sort_of (role_associates s.role) xs)) h)
      from_law n w' =
          let at = seek_of t (addresses_of t) a in
          let valid = not-false _ n.1 in
          let st = seek_stands s t w a (valid_named a valid) at refl in
          let fits = leads_fits s t w a at (seek_leads s t w a (rw n.0) valid at refl) in
          let k = hear_hears s (peer_of t at a) fits (class_by (sort_of (role_associates s.role) xs)) (group_of (field 6 4 xs)) h (heard_associating xs) in
          found_law at (find_of (addresses_of t) 0) _ _ (record { turned = record { two = k.turned.two; three = k.turned.three }; parts = k.parts }) st.1 st.0 refl
          (hear_links s (peer_of t at a) (class_by (sort_of (role_associates s.role) xs)) (group_of (field 6 4 xs)) h).0 w'

  accepted_stands : J ≡ true → over 2 t d ≡ true
  unfolding fresh_of
  accepted_stands e = go (find_of (addresses_of t) d) refl (and_right E _ e)
    where
      go : (at : Option ℕ) → find_of (addresses_of t) d ≡ at → accepted_by (peer_of t at d).exchange h ≡ true → leb 2 (peer_of t at d).state ≡ true
      go option.None f e = clash e (accepted_none h)
      go (option.Some i) f e = accepted_two s (get_or t i free_of) (device_fits s t w d i some f) h (heard_associating xs) e

  pub frame_steps : (n : ℕ) → Well s (received_of s t xs n).table → Steps s d (record { table = t; event = event.Frame; octets = xs; room = n })
  unfolding counts stepped_of received_of refused_of settled_of read_of
  frame_steps n w' = steps_of s d (record { table = t; event = event.Frame; octets = xs; room = n }) (by_bool (ltb n longest)
      (λ e. rw e (law_still d G X J Y refl refl))
      (λ e. rw (e, of_well s t w) (shape_law (shape_of xs) refl (rw (e, of_well s t w) at w')))) accepted_stands
