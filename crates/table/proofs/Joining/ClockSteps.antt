-- A clock step and primitive 12, as events of a run (Steps.antt).
-- Assumes nothing.
use Prim.Native.Nat.{ℕ, zero, suc, ◌<◌}
use native.Mathlib.Nat.{not-suc-le-zero, le_of_suc-le-suc}
use native.Mathlib.Omega.{arith}
use mathlib.Core.Path.{◌≡◌, refl, ap, sym, ◌∙◌}
use mathlib.Core.Bool.{Bool, true, false, not, ◌&&◌, ◌||◌}
use mathlib.Core.List.{List, map, ◌∷◌, []}
use lib.Dec.{eqb, leb}
use lib.ListN.{length, get_or, length-map}
use borrow.Author.Tests.{leb-false, lt-leb, not-false}
use Rattle.octets.proofs.Branch.{by_bool}
use Rattle.octets.specs.Address.{valid_of}
use Rattle.octets.specs.Pick.{pick}
use Rattle.peer.proofs.Fits.{Fits, both, wrong}
use Rattle.peer.proofs.TickKeeps.{tick_keeps}
use Rattle.peer.specs.Record.{associates, free_of, fresh_of, linked_of as withLinks}
use Rattle.peer.specs.Tick.{tick_of}
use Rattle.peer.specs.Turn.{linking_of, turn_of}
use Rattle.peer.specs.declared.record.Record.{Record}
use Rattle.peer.specs.declared.settings.Settings.{Settings}
use Rattle.table.specs.Answer.{refused_of, settled_of, stepped_of}
use Rattle.table.specs.History.{Moment}
use Rattle.table.specs.Joined.{counts, record_with}
use Rattle.table.specs.Link.{count_fits, device_in, linked_at, linked_of, links_in, may_link}
use Rattle.table.specs.Pass.{after_of, clocked_of, pass_refusals, passed_of}
use Rattle.table.specs.Places.{addresses_of, find_of}
use Rattle.table.specs.Refusals.{first_of, unless}
use Rattle.table.specs.Seat.{peer_of, turn_in}
use Rattle.table.specs.Written.{times_out}
use Rattle.table.specs.declared.rules.answer.Met.{Met}
use Rattle.table.specs.declared.rules.event.Event.TheVariants as event
use Rattle.std.specs.Prelude.{Option, Some, None}
use Rattle.table.proofs.Joining.Lines.{gone, kept, remains, or_none}
use Rattle.table.proofs.Joining.Records.{Stands, Still, device_fits, found_inside, found_not, over, turn_moves}
use Rattle.table.proofs.Joining.Steps.{Law, Steps, law_still, steps_of}
use Rattle.table.proofs.Joining.TimedTurns.{tick_same, tick_three, tick_two}
use Rattle.table.proofs.Order.OwnRecord.{find_at}
use Rattle.table.proofs.Theorems.StepKeeps.{none_of}
use Rattle.table.proofs.Theorems.Well.{Well, found_address, place_fits_lem}
use Rattle.table.proofs.Theorems.WordedRecords.{valid_named}

get_inside : {A B : Type 0} (f : A → B) (l : List A) (i : ℕ) (b : B) (a : A) → i < length l → get_or (map f l) i b ≡ f (get_or l i a)
get_inside f [] i b a h = absurd (not-suc-le-zero h)
get_inside f (x ∷ l) zero b a h = refl
get_inside f (x ∷ l) (suc i) b a h = get_inside f l i b a (le_of_suc-le-suc h)

module _ (s : Settings) (t : List Record) (w : Well s t) (d : ℕ) (some : eqb d 0 ≡ false) where
  -- ---- the clock

  module _ (tu : ℕ) (w' : Well s (map (after_of s tu) t)) where
    abbrev u : List Record
    u = map (after_of s tu) t

    abbrev after : ℕ → Record
    after i = (tick_of s (get_or t i free_of) tu).peer

    at_u : (i : ℕ) → i < length t → get_or u i free_of ≡ after i
    at_u i h = get_inside (after_of s tu) t i free_of free_of h

    -- a device that is still there was there, at the same place
    was : (i : ℕ) → find_of (addresses_of u) d ≡ Some i → (i < length t) × (find_of (addresses_of t) d ≡ Some i)
    was i e =
        let h : i < length t = rw (length-map t (after_of s tu)) at (found_inside u d i e) in
        let here : (after i).address ≡ d = ap (λ (r : Record). r.address) (sym (at_u i h)) ∙ found_address u d i e in
        let same : (after i).address ≡ (get_or t i free_of).address = (tick_keeps s (get_or t i free_of) tu (place_fits_lem s t w i)).same (rw here some) in
        let there : (get_or t i free_of).address ≡ d = sym same ∙ here in
        (h, ap (λ (n : ℕ). find_of (addresses_of t) n) (sym there) ∙ find_at t i w.distinct h (rw there some))

    -- over a line n, where the clock leaves of a record what it must
    clocked :
        (n : ℕ) (want : Record → Bool) → ((p : Record) → Fits s p → leb n (tick_of s p tu).peer.state ≡ want p)
        → ((p : Record) → leb 2 p.state ≡ false → want p ≡ false) → leb n 1 ≡ false → over n u d ≡ want (record_with t d)
    unfolding fresh_of
    clocked n want law low one = go (find_of (addresses_of u) d) refl
      where
        lost : (f : Option ℕ) → find_of (addresses_of t) d ≡ f → find_of (addresses_of u) d ≡ None → want (peer_of t f d) ≡ false
        lost None e g = low (fresh_of d) refl
        lost (Some i) e g = by_bool (leb 2 (get_or t i free_of).state)
            (λ high.
            let h = found_inside t d i e in
            let stays : (after i).address ≡ d = tick_same s (get_or t i free_of) (device_fits s t w d i some e) tu high ∙ found_address t d i e in
            let here : (get_or u i free_of).address ≡ d = ap (λ (r : Record). r.address) (at_u i h) ∙ stays in
            let found : find_of (addresses_of u) d ≡ Some i = ap (λ (n : ℕ). find_of (addresses_of u) n) (sym here) ∙ find_at u i w'.distinct (rw (length-map t (after_of s tu)) h) (rw here some) in
            found_not (sym g ∙ found))
            (λ high. low (get_or t i free_of) high)

        go : (f : Option ℕ) → find_of (addresses_of u) d ≡ f → leb n (peer_of u f d).state ≡ want (record_with t d)
        go None e = one ∙ sym (lost (find_of (addresses_of t) d) refl e)
        go (Some i) e =
            let k = was i e in
            rw (at_u i k.0, k.1) (law (get_or t i free_of) (device_fits s t w d i some k.1))

    low_three : (b c : Bool) → b ≡ false → (b && c) ≡ false
    low_three b c e = rw e

    clock_law : Law true t u d false false false ((associates (record_with t d) && times_out tu (record_with t d)) || false)
    clock_law = record {
      two = clocked 2 (λ p. leb 2 p.state) (λ p f. tick_two s p f tu) (λ p e. e) refl ∙ kept (over 2 t d);
      three = rw (or_none (associates (record_with t d) && times_out tu (record_with t d)))
          (clocked 3 (λ p. leb 3 p.state && not (associates p && times_out tu p)) (λ p f. tick_three s p f tu)
          (λ p e. low_three (leb 3 p.state) _ (below p e)) refl);
    }
      where
        below : (p : Record) → leb 2 p.state ≡ false → leb 3 p.state ≡ false
        below p e = lt-leb 3 p.state (let l = leb-false 2 p.state e in omega arith)

  pub clock_steps : (tu : ℕ) (xs : List ℕ) (n : ℕ) → Well s (passed_of s t tu n).table → Steps s d (record { table = t; event = event.Clock tu; octets = xs; room = n })
  unfolding counts passed_of clocked_of
  clock_steps tu xs n w' = steps_of s d (record { table = t; event = event.Clock tu; octets = xs; room = n })
      (by_bool (eqb (first_of (pass_refusals s t tu n)) 0)
      (λ e. rw e (clock_law tu (rw e at w')))
      (λ e. rw e (law_still d _ _ _ _ (rw e) refl)))
      (λ e. wrong e)

  -- ---- primitive 12

  abbrev Same : Met → Type 0
  Same m = (over 2 m.table d ≡ over 2 t d) × (over 3 m.table d ≡ over 3 t d)

  unless_same : (n : ℕ) (m : Met) → Well s (unless n t m).table → (eqb n 0 ≡ true → Well s m.table → Same m) → Same (unless n t m)
  unfolding unless refused_of settled_of
  unless_same n m w' k = by_bool (eqb n 0) (λ e. rw e (k e (rw e at w'))) (λ e. rw e (refl, refl))

  module _ (xs : List ℕ) where
    linked_same : Well s (linked_at s t (addresses_of t) xs).table → Same (linked_at s t (addresses_of t) xs)
    unfolding linked_at linking_of turn_of withLinks may_link fresh_of
    linked_same w' = unless_same _ _ w' (λ e w''.
        let r3 = none_of s t w 3 _ _ refl e in
        let m = both (count_fits xs) _ (not-false _ r3.0) in
        let v = both (valid_of (device_in xs)) _ m.1 in
        go (find_of (addresses_of t) (device_in xs)) refl (valid_named (device_in xs) v.0) w'')
      where
        unmoved : (e b : Bool) → ((e && false) || (b && not (e && false))) ≡ b
        unmoved true b = sym (kept b)
        unmoved false b = sym (kept b)

        unparted : (e b : Bool) → ((e && false) || (b && not (pick e false false))) ≡ b
        unparted true b = sym (kept b)
        unparted false b = sym (kept b)

        turned : (at free : Option ℕ) → Stands t (device_in xs) at → Still at false false (linking_of s (peer_of t at (device_in xs)) (links_in xs)) → find_of (addresses_of t) 0 ≡ free
            → Well s (turn_in t at free (linking_of s (peer_of t at (device_in xs)) (links_in xs)) (linking_of s (peer_of t at (device_in xs)) (links_in xs))).table
            → Same (turn_in t at free (linking_of s (peer_of t at (device_in xs)) (links_in xs)) (linking_of s (peer_of t at (device_in xs)) (links_in xs)))
        turned at free st still f w' =
            let p = peer_of t at (device_in xs) in
            let k = turn_moves s t w (device_in xs) at free (linking_of s p (links_in xs)) (linking_of s p (links_in xs)) false false false false st still f refl (remains (linking_of s p (links_in xs)) refl) w' d some in
            (k.two ∙ unmoved (eqb p.address d) (over 2 t d), k.three ∙ unparted (eqb p.address d) (over 3 t d))

        go : (at : Option ℕ) → find_of (addresses_of t) (device_in xs) ≡ at → eqb (device_in xs) 0 ≡ false
            → Well s (turn_in t at (find_of (addresses_of t) 0) (linking_of s (peer_of t at (device_in xs)) (links_in xs)) (linking_of s (peer_of t at (device_in xs)) (links_in xs))).table
            → Same (turn_in t at (find_of (addresses_of t) 0) (linking_of s (peer_of t at (device_in xs)) (links_in xs)) (linking_of s (peer_of t at (device_in xs)) (links_in xs)))
        go None f z w' = turned None (find_of (addresses_of t) 0) (f, z) (refl, refl, refl) refl w'
        go (Some i) f z w' = turned (Some i) (find_of (addresses_of t) 0) (found_inside t (device_in xs) i f, rw (found_address t (device_in xs) i f) z) tt refl w'

    pub link_steps : (n : ℕ) → Well s (linked_of s t xs n).table → Steps s d (record { table = t; event = event.Links; octets = xs; room = n })
    unfolding stepped_of linked_of
    link_steps n w' =
        let m : Moment = record { table = t; event = event.Links; octets = xs; room = n } in
        let k = unless_same _ _ w' (λ e w''. linked_same w'') in
        steps_of s d m (record { two = k.0 ∙ rw (← gone (counts s m)) (kept (over 2 t d)); three = k.1 ∙ rw (← gone (counts s m)) (kept (over 3 t d)) }) (λ e. wrong e)
