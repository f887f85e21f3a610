-- Demand 2: "a frame written here reads back to the fields it was written from", of each step. Whatever the table and the buffer, where a frame
-- or a primitive writes, the octets at the buffer's front read as a frame to the peer that the event names, heard there as document 01 says
-- (`step_said`). Of a table or settings that are not well formed nothing is written.
-- Assumes nothing.
use Prim.Native.Nat.{ℕ, ◌<◌, ◌^◌}
use mathlib.Core.Path.{◌≡◌, refl, sym, subst, ◌∙◌}
use mathlib.Core.Bool.{Bool, true, false, not, ◌||◌, or-false}
use mathlib.Core.List.{List, [], ◌∷◌}
use native.Mathlib.Omega.{arith}
use lib.Dec.{eqb, ltb}
use lib.ListN.{length, get_or, take}
use borrow.Author.Tests.{eqb-true, ltb-true, not-false, not-true}
use Rattle.std.proofs.Common.{Option, None, Some}
use Rattle.octets.proofs.Branch.{by_bool, pick_both, pick_by}
use Rattle.octets.specs.Address.{valid_of, group_of}
use Rattle.octets.specs.Class.{class_in, classless, class_of, number_of}
use Rattle.octets.specs.Element.{broken_of}
use Rattle.octets.specs.Field.{all_octets, field}
use Rattle.octets.specs.Frame.{longest}
use Rattle.octets.specs.Heard.{heard_of}
use Rattle.octets.specs.Links.{no_links}
use Rattle.octets.specs.Shape.{shape_of}
use Rattle.octets.specs.declared.heard.Heard.{Heard}
use Rattle.octets.specs.declared.shape.Shape.{Shape}
use Rattle.octets.specs.declared.shape.Shape.TheVariants.{Misfit, Classless, Bare, Full}
use Rattle.octets.proofs.Sorts.{sort_class}
use Rattle.octets.specs.declared.frame.Frame.{Frame}
use Rattle.peer.proofs.AskSaid.{ask_said}
use Rattle.peer.proofs.Classes.{same_classless}
use Rattle.peer.proofs.Fits.{Fits, both, fits_of, or_left, wrong}
use Rattle.peer.proofs.HearSaid.{full_said, hear_said}
use Rattle.peer.proofs.Keeps.{fresh_fits, query_soon}
use Rattle.peer.proofs.Links.{hear_links}
use Rattle.peer.proofs.Spoken.{spoken_alone, spoken_valid, towards_speaks}
use Rattle.peer.proofs.Sent.{valid_below}
use Rattle.peer.specs.Ask.{ask_of}
use Rattle.peer.specs.Authentication.{full_of}
use Rattle.peer.specs.Fit.{place_fits}
use Rattle.peer.specs.Hear.{hear_of}
use Rattle.peer.specs.Record.{free_of, fresh_of, is_free, is_joined, spoken_at, under_way}
use Rattle.peer.specs.Refuse.{code_allowed}
use Rattle.peer.specs.Said.{ReadsTo, Speaks, replied_says}
use Rattle.peer.specs.Settings.{role_answers, role_associates}
use Rattle.peer.specs.Turn.{towards_of}
use Rattle.peer.specs.declared.query.Query.TheVariants as query
use Rattle.peer.specs.declared.record.Record.{Record}
use Rattle.peer.specs.declared.refuse.Others.{Others}
use Rattle.peer.specs.declared.settings.Settings.{Settings}
use Rattle.peer.specs.declared.turn.Turn.{Turn}
use Rattle.table.specs.Answer.{refused_of, settled_of}
use Rattle.table.specs.Ask.{asked_at, asked_of, may_ask}
use Rattle.table.specs.Fit.{well_formed}
use Rattle.table.specs.Meant.{Spoken, says_in, spoken_to}
use Rattle.table.specs.Others.{associated_of, others_of}
use Rattle.table.specs.Places.{addresses_of, all_of, all_tails, find_link_of, find_of, on_found, seek_of}
use Rattle.table.specs.Read.{for_us, read_as, read_bare, read_from, read_full, read_of}
use Rattle.table.specs.Receive.{heard_at, heard_from, received_of}
use Rattle.table.specs.Refusals.{first_of, unless}
use Rattle.table.specs.Seat.{aid_of, newcomer_of, peer_of, seated_of, starts_of, stranger_of, turn_in}
use Rattle.table.specs.Step.{step_in, step_of}
use Rattle.table.specs.Written.{reply_bytes}
use Rattle.table.specs.declared.rules.answer.Met.{Met}
use Rattle.table.specs.declared.rules.event.Event.{Event}
use Rattle.table.specs.declared.rules.event.Event.TheVariants as event
use Rattle.std.specs.Prelude.{Option, Some, None}
use Rattle.table.proofs.Passes.LinkLaws.{unfound}
use Rattle.table.proofs.Theorems.Well.{Well, alone_found, find_leads, leads_fits, seek_leads, well_of}
use Rattle.table.proofs.Theorems.WrittenCount.{written_count}

-- a frame that is read for its peer has a class
full_classed : (xs : List ℕ) → shape_of xs ≡ Full → classless (class_of xs) ≡ false
unfolding shape_of
full_classed xs e = by_bool (ltb (length xs) 10 || ltb 4096 (length xs))
    (λ m. let n : Misfit ≡ Full = rw m at e in let z : ◌≡◌ {A = ℕ} 0 1 = cc in absurd (omega arith))
    (λ m. by_bool (classless (class_of xs))
    (λ k. let n : Classless ≡ Full = rw (m, k) at e in let z : ◌≡◌ {A = ℕ} 0 1 = cc in absurd (omega arith))
    (λ k. k))

-- an AID of the table has 14 bits
aid_small : (at : Option ℕ) → aid_of at < 2 ^ 14
aid_small None = omega arith
aid_small (Some i) = pick_by (λ (a : ℕ). a < 2 ^ 14) (ltb i 32) (λ e. let l = ltb-true i 32 e in omega arith) (λ e. omega arith)

module _ (s : Settings) where
  -- what an event is met with, as a reply
  abbrev Said : ℕ → Heard → Met → Type 0
  Said a w m = Speaks s a w m.reply

  -- the record in State 3 or 4 has an address
  joined_valid : (p : Record) → place_fits s p ≡ true → is_joined p ≡ true → valid_of p.address ≡ true
  unfolding place_fits is_free is_joined
  joined_valid p h j = by_bool (is_free p)
      (λ f.
      let z = eqb-true p.state 0 (both (eqb p.state 0) _ (both (eqb p.address 0) _ f).1).0 in
      wrong (rw z at j))
      (λ f. (fits_of s p (rw f at h)).valid)

  associated_below : (t : List Record) → all_of (place_fits s) t ≡ true → associated_of t < 2 ^ 48
  unfolding associated_of all_tails
  associated_below [] h = omega arith
  associated_below (p ∷ t) h =
      let k = both (place_fits s p) (all_of (place_fits s) t) h in
      pick_by (λ (a : ℕ). a < 2 ^ 48) (is_joined p)
      (λ j. valid_below p.address (joined_valid p k.0 j))
      (λ j. associated_below t k.1)

  others_below : (t : List Record) → all_of (place_fits s) t ≡ true → (others_of s t).associated < 2 ^ 48
  unfolding others_of
  others_below t h = pick_both (λ (o : Others). o.associated < 2 ^ 48) (role_answers s.role) (omega arith) (associated_below t h)

  module _ (t : List Record) (w : Well s t) where
    -- ---- frames, of the classes where there are access points or in an ad hoc network

    abbrev on : Bool
    on = role_associates s.role

    module _ (xs : List ℕ) (o : all_octets xs ≡ true) (k : classless (class_in on xs) ≡ false) (group : Bool) where
      turned : (p : Record) → Fits s p → Speaks s p.address (replied_says s p.state p.query (number_of (class_in on xs)) (heard_of xs)) (hear_of s p (class_in on xs) group (heard_of xs)).reply
      turned p f = hear_said s w.settings p f.valid f.low (query_soon s p w.settings f) on xs o k group

      -- to an address of the peer
      abbrev turn : ℕ → Record → Turn
      turn a p = towards_of a (hear_of s p (class_in on xs) group (heard_of xs))

      stranger_said : (a : ℕ) (free : Option ℕ) → Fits s (fresh_of a) → Said a (replied_says s 1 query.None (number_of (class_in on xs)) (heard_of xs)) (newcomer_of t free (turn a (fresh_of a)) (towards_of a (full_of s (fresh_of a))))
      unfolding newcomer_of stranger_of seated_of starts_of fresh_of towards_of no_links
      stranger_said a free f =
          pick_by (Said a (replied_says s 1 query.None (number_of (class_in on xs)) (heard_of xs))) (starts_of (turn a (fresh_of a)))
          (λ b. placed free (not-true _ (begun b)))
          (λ b. here)
        where
          low : a < 2 ^ 48
          low = valid_below a f.valid

          here : Speaks s a (replied_says s 1 query.None (number_of (class_in on xs)) (heard_of xs)) (turn a (fresh_of a)).reply
          here = towards_speaks s a a (replied_says s 1 query.None (number_of (class_in on xs)) (heard_of xs)) (hear_of s (fresh_of a) (class_in on xs) group (heard_of xs)).reply (λ n. refl) low (turned (fresh_of a) f)

          -- a stranger has no links
          begun : starts_of (turn a (fresh_of a)) ≡ true → not (eqb (under_way (hear_of s (fresh_of a) (class_in on xs) group (heard_of xs)).peer.exchange) 0) ≡ true
          begun b = sym (or-false (not (eqb (under_way (hear_of s (fresh_of a) (class_in on xs) group (heard_of xs)).peer.exchange) 0))) ∙ (rw (hear_links s (fresh_of a) (class_in on xs) group (heard_of xs)).1 at b)

          placed : (free : Option ℕ) → eqb (under_way (hear_of s (fresh_of a) (class_in on xs) group (heard_of xs)).peer.exchange) 0 ≡ false → Said a (replied_says s 1 query.None (number_of (class_in on xs)) (heard_of xs)) (on_found free (stranger_of t (towards_of a (full_of s (fresh_of a)))) (λ i. seated_of t i (turn a (fresh_of a))))
          placed None b = towards_speaks s a a (replied_says s 1 query.None (number_of (class_in on xs)) (heard_of xs)) (full_of s (fresh_of a)).reply (λ n. refl) low (full_said s w.settings (fresh_of a) f.valid f.low (query_soon s (fresh_of a) w.settings f) refl refl on xs k group b)
          placed (Some i) b = here

      from_said : (a : ℕ) → not (eqb a s.own) ≡ true → valid_of a ≡ true → (at free : Option ℕ) → seek_of t (addresses_of t) a ≡ at → Said a (replied_says s (peer_of t at a).state (peer_of t at a).query (number_of (class_in on xs)) (heard_of xs)) (turn_in t at free (turn a (peer_of t at a)) (towards_of a (full_of s (peer_of t at a))))
      unfolding seated_of fresh_of towards_of
      from_said a own v None free e = stranger_said a free (fresh_fits s a own v)
      from_said a own v (Some i) free e =
          let f = seek_leads s t w a own v (Some i) e in
          towards_speaks s (get_or t i free_of).address a (replied_says s (get_or t i free_of).state (get_or t i free_of).query (number_of (class_in on xs)) (heard_of xs)) (hear_of s (get_or t i free_of) (class_in on xs) group (heard_of xs)).reply (alone_found s t w a (Some i) e f) (valid_below a v) (turned (get_or t i free_of) f)

    read_said : (xs : List ℕ) → all_octets xs ≡ true → (shape : Shape) → shape_of xs ≡ shape → Said (field 6 10 xs) (says_in s t event.Frame xs) (heard_at s t (addresses_of t) (read_as shape s.own on xs))
    unfolding refused_of settled_of read_bare read_full read_from heard_from
    read_said xs o Misfit e = tt
    read_said xs o Classless e = tt
    read_said xs o Bare e = by_bool (for_us s.own (field 6 4 xs)) (λ u. rw u tt) (λ u. rw u tt)
    read_said xs o Full e = by_bool (not (for_us s.own (field 6 4 xs)))
        (λ u. rw u tt)
        (λ u. by_bool (eqb (field 6 10 xs) s.own || not (valid_of (field 6 10 xs)))
        (λ g. rw (u, g) tt)
        (λ g.
        let n = or_left (eqb (field 6 10 xs) s.own) _ g in
        by_bool (broken_of xs) (λ b. rw (u, g, b) tt) (λ b.
        rw (u, g, b, sort_class on xs) (from_said xs o (same_classless on xs ∙ full_classed xs e) (group_of (field 6 4 xs)) (field 6 10 xs) (rw n.0) (not-false _ n.1)
        (seek_of t (addresses_of t) (field 6 10 xs)) (find_of (addresses_of t) 0) refl))))

    -- ---- primitives

    none_first : (k : ℕ) (b : Bool) (rest : List (ℕ × Bool)) → eqb k 0 ≡ false → eqb (first_of ((k, b) ∷ rest)) 0 ≡ true → b ≡ false
    unfolding first_of
    none_first k true rest z h = wrong (sym z ∙ h)
    none_first k false rest z h = refl

    unless_said : (a : ℕ) (h : Heard) (n : ℕ) (m : Met) → (eqb n 0 ≡ true → Said a h m) → Said a h (unless n t m)
    unfolding unless refused_of settled_of
    unless_said a h n m k = pick_by (Said a h) (eqb n 0) k (λ e. tt)

    -- a turn that no want of a place changes
    turn_said : (a : ℕ) (h : Heard) (at free : Option ℕ) (turn : Turn) → Speaks s a h turn.reply → Said a h (turn_in t at free turn turn)
    unfolding newcomer_of stranger_of seated_of
    turn_said a h None None turn k = pick_both (Said a h) (starts_of turn) k k
    turn_said a h None (Some i) turn k = pick_both (Said a h) (starts_of turn) k k
    turn_said a h (Some i) free turn k = k

    asked_said : (q a c : ℕ) (xs : List ℕ) → c < 2 ^ 16 → Said (spoken_to t (event.Ask q a c) xs) (says_in s t (event.Ask q a c) xs) (asked_at s t (addresses_of t) q a c)
    unfolding asked_at may_ask towards_of
    asked_said q a c xs short =
        let at = find_of (addresses_of t) a in
        let p = peer_of t at a in
        let turn = ask_of s (aid_of at) p (others_of s t) q c in
        let h = says_in s t (event.Ask q a c) xs in
        unless_said (spoken_at p) h _ _ (λ e.
        let n = or_left (not (may_ask s q a c)) _ (none_first 3 _ _ refl e) in
        let may = both (code_allowed q c) _ (not-false _ n.0) in
        let peer = both (not (eqb a s.own)) _ may.1 in
        let f = leads_fits s t w a at (find_leads s t w a peer.0 peer.1 at (unfound (find_link_of t a) n.1) refl) in
        turn_said (spoken_at p) h at (find_of (addresses_of t) 0) (towards_of (spoken_at p) turn)
        (towards_speaks s p.address (spoken_at p) h turn.reply (spoken_alone s p f) (valid_below (spoken_at p) (spoken_valid s p f))
        (ask_said s w.settings p f.valid f.numbered (aid_of at) (aid_small at) (others_of s t) (others_below t w.places) q c short)))

-- ---- each event

module _ (s : Settings) (t : List Record) (h : length t ≡ 32) where
  frame_said : (xs : List ℕ) (n : ℕ) → all_octets xs ≡ true → Speaks s (field 6 10 xs) (says_in s t event.Frame xs) (received_of s t xs n).reply
  unfolding received_of refused_of settled_of read_of
  frame_said xs n o =
      pick_both (Said s (field 6 10 xs) (says_in s t event.Frame xs)) (ltb n longest) tt
      (pick_by (Said s (field 6 10 xs) (says_in s t event.Frame xs)) (not (well_formed s t)) (λ e. tt)
      (λ e. read_said s t (well_of s t (not-false _ e) h) xs o (shape_of xs) refl))

  primitive_said : (q a c : ℕ) (xs : List ℕ) (n : ℕ) → c < 2 ^ 16 → Speaks s (spoken_to t (event.Ask q a c) xs) (says_in s t (event.Ask q a c) xs) (asked_of s t q a c n).reply
  unfolding asked_of unless first_of refused_of settled_of
  primitive_said q a c xs n short = by_bool (ltb n longest)
      (λ e. rw e tt)
      (λ e. by_bool (not (well_formed s t))
      (λ b. rw (e, b) tt)
      (λ b. rw (e, b) (asked_said s t (well_of s t (not-false _ b) h) q a c xs short)))

  -- what is replied is what is written
  spoken : (a : ℕ) (v : Heard) (r : Option Frame) → Speaks s a v r → 0 < length (reply_bytes r) → ReadsTo s a v (reply_bytes r)
  spoken a v None k l = absurd (omega arith)
  spoken a v (Some f) k l = k.1

  pub step_said :
      (e : Event) (xs l : List ℕ) → Spoken e xs → 0 < (step_of s t e xs (length l)).answer.written
      → ReadsTo s (spoken_to t e xs) (says_in s t e xs) (take (step_of s t e xs (length l)).answer.written (step_in s t e xs l))
  step_said event.Frame xs l o some =
      let wr = written_count s t event.Frame xs l h in
      subst (λ (ys : List ℕ). ReadsTo s (field 6 10 xs) (says_in s t event.Frame xs) ys) (sym wr.front)
      (spoken (field 6 10 xs) (says_in s t event.Frame xs) (received_of s t xs (length l)).reply (frame_said xs (length l) o) (rw wr.count at some))
  step_said (event.Ask q a c) xs l short some =
      let wr = written_count s t (event.Ask q a c) xs l h in
      subst (λ (ys : List ℕ). ReadsTo s (spoken_to t (event.Ask q a c) xs) (says_in s t (event.Ask q a c) xs) ys) (sym wr.front)
      (spoken (spoken_to t (event.Ask q a c) xs) (says_in s t (event.Ask q a c) xs) (asked_of s t q a c (length l)).reply (primitive_said q a c xs (length l) short) (rw wr.count at some))
  step_said event.Links xs l none some = absurd none
  step_said (event.Clock d) xs l none some = absurd none
