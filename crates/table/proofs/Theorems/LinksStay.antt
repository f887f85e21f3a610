-- 02, K11: no frame and no primitive but 12 changes the links of any place (`received_links`, `asked_links`): so a table's octets keep them.
-- Assumes nothing.
use Prim.Native.Nat.{ℕ}
use mathlib.Core.Path.{◌≡◌, refl, sym, ap, ◌∙◌}
use mathlib.Core.Bool.{Bool, true, false, not}
use mathlib.Core.List.{List, map}
use lib.Dec.{eqb, ltb}
use lib.ListN.{get_or, length, set}
use lib.Seq.{get_or-set_other, get_or-set_same, set-get_or, set_out}
use borrow.Author.Tests.{eq-eqb, ltb-false, ltb-true}
use Rattle.octets.proofs.Branch.{by_bool, pick_both}
use Rattle.octets.specs.Frame.{longest}
use Rattle.octets.specs.Links.{unlinked}
use Rattle.octets.specs.Sort.{class_by}
use Rattle.octets.specs.declared.links.Links.{Links}
use Rattle.peer.proofs.Fits.{clash}
use Rattle.peer.proofs.Links.{ask_links, hear_links, parted_links}
use Rattle.peer.specs.Association.{parted_of}
use Rattle.peer.specs.Record.{free_of, fresh_of}
use Rattle.peer.specs.Settings.{role_associates}
use Rattle.peer.specs.Turn.{towards_of}
use Rattle.peer.specs.declared.record.Record.{Record}
use Rattle.peer.specs.declared.settings.Settings.{Settings}
use Rattle.peer.specs.declared.turn.Turn.{Turn}
use Rattle.table.specs.Answer.{refused_of, settled_of}
use Rattle.table.specs.Ask.{asked_at, asked_of}
use Rattle.table.specs.Fit.{well_formed}
use Rattle.table.specs.Marked.{as_ap}
use Rattle.table.specs.Others.{others_of}
use Rattle.table.specs.Places.{addresses_of, find_of, on_found, seek_of}
use Rattle.table.specs.Read.{read_of}
use Rattle.table.specs.Receive.{heard_at, heard_from, received_of}
use Rattle.table.specs.Refusals.{unless}
use Rattle.table.specs.Rows.{links_over}
use Rattle.table.specs.Ruled.{new_at}
use Rattle.table.specs.Seat.{met_of, newcomer_of, peer_of, seated_of, starts_of, stored_in, stranger_of, turn_in}
use Rattle.table.specs.declared.rules.answer.Met.{Met}
use Rattle.table.specs.declared.rules.read.Reading.{Reading}
use Rattle.table.specs.declared.rules.read.Reading.TheVariants.{Admitted, Discarded, From, Refused}
use Rattle.table.specs.declared.rules.seat.Change.{Change}
use Rattle.std.specs.Prelude.{Option, Some, None}
use Rattle.table.proofs.Octets.RecordTrip.{example_long, example_well, linked_device}
use Rattle.table.proofs.Passes.Lists.{get_map, map_same, map_set}
use Rattle.table.proofs.Theorems.Well.{Well, found_address, free_links, well_of}

module _ (s : Settings) (t : List Record) where
  abbrev pub Stay : Met → Type 0
  Stay m = links_over m.table ≡ links_over t

  -- a record stored at a place changes the links there alone
  stored : (sole : Bool) (i : ℕ) (p : Record) → links_over (stored_in t sole i p) ≡ set (links_over t) i p.links
  stored true i p = map_set (λ (q : Record). q.links) (map parted_of t) i p ∙ ap (λ (l : List Links). set l i p.links) (map_same (λ (q : Record). q.links) parted_of (λ q. (parted_links q).1) t)
  stored false i p = map_set (λ (q : Record). q.links) t i p

  seated : (i : ℕ) (turn : Turn) → turn.peer.links ≡ (get_or t i free_of).links → Stay (seated_of t i turn)
  unfolding seated_of
  seated i turn e = stored turn.sole i turn.peer ∙ rw (e ∙ sym (get_map (λ (p : Record). p.links) t i free_of)) (set-get_or (links_over t) i unlinked)

  -- What holds where all links stay, and of a newcomer at the lowest free place, holds of whatever a frame or a primitive makes of the table.
  module _ (Q : Met → Type 0) (stays : (m : Met) → Stay m → Q m) (fills : (i : ℕ) (turn : Turn) → find_of (addresses_of t) 0 ≡ Some i → turn.peer.links ≡ unlinked → Q (seated_of t i turn)) where
    turned : (at free : Option ℕ) (a : ℕ) (turn full : Turn) → find_of (addresses_of t) 0 ≡ free → turn.peer.links ≡ (peer_of t at a).links → Q (turn_in t at free turn full)
    unfolding newcomer_of stranger_of fresh_of
    turned (Some i) free a turn full f e = stays _ (seated i turn e)
    turned None None a turn full f e = pick_both Q (starts_of turn) (stays _ refl) (stays _ refl)
    turned None (Some i) a turn full f e = pick_both Q (starts_of turn) (fills i turn f e) (stays _ refl)

    pub heard_stay : (r : Reading) → Q (heard_at s t (addresses_of t) r)
    unfolding refused_of settled_of heard_from towards_of
    heard_stay (Refused n) = stays _ refl
    heard_stay Discarded = stays _ refl
    heard_stay Admitted = stays _ refl
    heard_stay (From a group k h) =
        let at = seek_of t (addresses_of t) a in
        turned at (find_of (addresses_of t) 0) a _ _ refl (hear_links s (peer_of t at a) (class_by k) group h).1

    unless_stay : (n : ℕ) (m : Met) → Q m → Q (unless n t m)
    unfolding unless refused_of settled_of
    unless_stay n m h = pick_both Q (eqb n 0) h (stays _ refl)

    pub asked_stay : (q a c : ℕ) → Q (asked_at s t (addresses_of t) q a c)
    unfolding asked_at towards_of
    asked_stay q a c =
        let at = find_of (addresses_of t) a in
        unless_stay _ _ (turned at (find_of (addresses_of t) 0) a _ _ refl (ask_links s (peer_of t at a) _ (others_of s t) q c).1)

-- In a table that is well formed a free place has no links, and a newcomer has none.
module _ (s : Settings) (t : List Record) (w : Well s t) where
  fills : (i : ℕ) (turn : Turn) → find_of (addresses_of t) 0 ≡ Some i → turn.peer.links ≡ unlinked → Stay s t (seated_of t i turn)
  fills i turn f e = seated s t i turn (e ∙ sym (free_links s t w i f))

  pub received_links : (xs : List ℕ) (n : ℕ) → Stay s t (received_of s t xs n)
  unfolding received_of refused_of settled_of
  received_links xs n =
      pick_both (Stay s t) (ltb n longest) refl
      (pick_both (Stay s t) (not (well_formed s t)) refl (heard_stay s t (Stay s t) (λ m h. h) fills (read_of s.own (role_associates s.role) xs)))

  pub asked_links : (q a c n : ℕ) → Stay s t (asked_of s t q a c n)
  unfolding asked_of
  asked_links q a c n = unless_stay s t (Stay s t) (λ m h. h) fills _ _ (asked_stay s t (Stay s t) (λ m h. h) fills q a c)

-- In any table: a change that makes the same of it, at a place that is not free.
module _ (s : Settings) (t : List Record) where
  abbrev pub Unnamed : Met → Type 0
  Unnamed m = (c : Change) → met_of t c ≡ m → new_at t c.place ≡ false → Stay s t m

  -- two stores at two places that leave the same leave each what was there
  apart : (l : List Links) (i j : ℕ) (x y : Links) → (i ≡ j → ⊥) → set l j y ≡ set l i x → set l i x ≡ l
  apart l i j x y n e = by_bool (ltb i (length l))
      (λ h. let g : x ≡ get_or l i unlinked = sym (get_or-set_same l i x unlinked (ltb-true i (length l) h)) ∙ ap (λ (k : List Links). get_or k i unlinked) (sym e) ∙ get_or-set_other l j i y unlinked n in rw g (set-get_or l i unlinked))
      (λ h. set_out l i x (ltb-false i (length l) h))

  fills_unnamed : (i : ℕ) (turn : Turn) → find_of (addresses_of t) 0 ≡ Some i → turn.peer.links ≡ unlinked → Unnamed (seated_of t i turn)
  unfolding seated_of met_of new_at
  fills_unnamed i turn f e c m n = by_place c.place n (ap (λ (x : Met). x.table) m)
    where
      by_place : (at : Option ℕ) → new_at t at ≡ false → on_found at t (λ j. stored_in t c.sole j c.peer) ≡ (seated_of t i turn).table → Stay s t (seated_of t i turn)
      by_place None n k = ap links_over (sym k)
      by_place (Some j) n k =
          let new : eqb (get_or t i free_of).address 0 ≡ true = eq-eqb _ _ (found_address t 0 i f) in
          stored s t turn.sole i turn.peer
          ∙ apart (links_over t) i j turn.peer.links c.peer.links (λ q. clash new (rw q n)) (sym (stored s t c.sole j c.peer) ∙ ap links_over k ∙ stored s t turn.sole i turn.peer)

  pub heard_unnamed : (r : Reading) → Unnamed (heard_at s t (addresses_of t) r)
  heard_unnamed = heard_stay s t Unnamed (λ m h c e n. h) fills_unnamed

  pub asked_unnamed : (q a c : ℕ) → Unnamed (asked_at s t (addresses_of t) q a c)
  asked_unnamed = asked_stay s t Unnamed (λ m h c e n. h) fills_unnamed

-- What is asked for is met: a device with two links keeps them, whatever is heard.
example_stay : (xs : List ℕ) (n : ℕ) → links_over (received_of as_ap linked_device xs n).table ≡ links_over linked_device
example_stay = received_links as_ap linked_device (well_of as_ap linked_device example_well example_long)
