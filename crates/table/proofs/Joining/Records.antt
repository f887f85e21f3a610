-- The record of a device after a peer's turn: the turn's own at its place, and every other as it was, or put to State 2 where the turn says so.
-- Assumes nothing.
use Prim.Native.Nat.{ℕ, zero, suc, ◌+◌, ◌≤◌, ◌<◌}
use native.Mathlib.Omega.{arith}
use mathlib.Core.Path.{◌≡◌, refl, ap, sym, ◌∙◌}
use mathlib.Core.Bool.{Bool, true, false, not, ◌&&◌, ◌||◌}
use mathlib.Core.List.{List, [], ◌∷◌, map}
use lib.Dec.{eqb, leb, ltb}
use lib.ListN.{length, get_or, set, length-map, length-set}
use lib.Seq.{get_or-set_other, get_or-set_same}
use borrow.Author.Tests.{eq-eqb, eqb-true, le-leb, lt-leb, ltb-true, ltb-false}
use Rattle.octets.proofs.Branch.{by_bool, pick_both}
use Rattle.octets.specs.Pick.{pick}
use Rattle.peer.proofs.Fits.{Fits, clash, fits_of}
use Rattle.peer.proofs.Links.{parted_links}
use Rattle.peer.specs.Association.{parted_of}
use Rattle.peer.specs.Record.{changed_of, free_of, fresh_of, is_free}
use Rattle.peer.specs.Fit.{place_fits}
use Rattle.peer.specs.declared.record.Record.{Record}
use Rattle.peer.specs.declared.settings.Settings.{Settings}
use Rattle.peer.specs.declared.turn.Turn.{Turn}
use Rattle.table.specs.Joined.{record_with}
use Rattle.table.specs.Order.{address_of}
use Rattle.table.specs.Places.{addresses_of, find_of, first_from, on_found}
use Rattle.table.specs.Seat.{newcomer_of, peer_of, seated_of, starts_of, stored_in, stranger_of, turn_in}
use Rattle.std.specs.Prelude.{Option, Some, None}
use Rattle.table.proofs.Joining.Lines.{Turned, gone, kept}
use Rattle.table.proofs.Order.OwnRecord.{find_at}
use Rattle.table.proofs.Passes.Lists.{get_map, map_same, map_set, swap}
use Rattle.table.proofs.Theorems.Well.{Well, found_address, place_fits_lem}

-- whether the device d is in State n or above
abbrev pub over : ℕ → List Record → ℕ → Bool
over n t d = leb n (record_with t d).state

-- ---- places

pub found_not : {P : Type 0} {i : ℕ} → None ≡ Some i → P
found_not e = let z : ◌≡◌ {A = ℕ} 0 1 = cc in absurd (omega arith)

pub first_inside : {A : Type 0} (f : A → Bool) (l : List A) (n i : ℕ) → first_from f n l ≡ Some i → i < n + length l
unfolding first_from
first_inside f [] n i e = found_not e
first_inside f (p ∷ ps) n i e = by_bool (f p)
    (λ b. let q : Some n ≡ Some i = rw b at e in let z : n ≡ i = cc in omega arith)
    (λ b. let l = first_inside f ps (n + 1) i (rw b at e) in omega arith)

pub found_inside : (t : List Record) (a i : ℕ) → find_of (addresses_of t) a ≡ Some i → i < length t
found_inside t a i e =
    let l : i < 0 + length (addresses_of t) = first_inside (λ (b : ℕ). eqb b a) (addresses_of t) 0 i e in
    let k : i < 0 + length t = rw (length-map t address_of) at l in
    omega arith

-- an address that neither was nor is at a place is found where it was
first_set :
    (ads : List ℕ) (n i x d : ℕ) → eqb x d ≡ false → eqb (get_or ads i 0) d ≡ false
    → first_from (λ b. eqb b d) n (set ads i x) ≡ first_from (λ b. eqb b d) n ads
unfolding first_from
first_set [] n i x d e g = refl
first_set (b ∷ bs) n zero x d e g = rw (e, g)
first_set (b ∷ bs) n (suc i) x d e g = rw (first_set bs (n + 1) i x d e g)

stored_addresses : (t : List Record) (sole : Bool) (i : ℕ) (q : Record) → addresses_of (stored_in t sole i q) ≡ set (addresses_of t) i q.address
stored_addresses t true i q = map_set address_of (map parted_of t) i q ∙ rw (map_same address_of parted_of (λ p. (parted_links p).0) t)
stored_addresses t false i q = map_set address_of t i q

-- a device's record is not free
pub device_fits : (s : Settings) (t : List Record) → Well s t → (d i : ℕ) → eqb d 0 ≡ false → find_of (addresses_of t) d ≡ Some i → Fits s (get_or t i free_of)
unfolding place_fits is_free
device_fits s t w d i z e =
    let busy : eqb (get_or t i free_of).address 0 ≡ false = rw (found_address t d i e) z in
    fits_of s (get_or t i free_of) (rw busy at (place_fits_lem s t w i))

-- ---- the record stored, and the others

pub own_record : (s : Settings) (t : List Record) (w : Well s t) (i : ℕ) → i < length t → eqb (get_or t i free_of).address 0 ≡ false → record_with t (get_or t i free_of).address ≡ get_or t i free_of
own_record s t w i h z = rw (find_at t i w.distinct h z)

pub stored_own :
    (s : Settings) (t : List Record) (sole : Bool) (i : ℕ) (q : Record) → Well s (stored_in t sole i q) → i < length t → eqb q.address 0 ≡ false
    → record_with (stored_in t sole i q) q.address ≡ q
stored_own s t sole i q w h z =
    let inside : i < length (pick sole (map parted_of t) t) = pick_both (λ (l : List Record). i < length l) sole (rw (length-map t parted_of) h) h in
    let here : get_or (stored_in t sole i q) i free_of ≡ q = get_or-set_same (pick sole (map parted_of t) t) i q free_of inside in
    let long : i < length (stored_in t sole i q) = rw (length-set (pick sole (map parted_of t) t) i q) inside in
    rw here at (own_record s (stored_in t sole i q) w i long (rw here z))

pub stored_other :
    (t : List Record) (sole : Bool) (i : ℕ) (q : Record) (d : ℕ) → eqb q.address d ≡ false → eqb (get_or t i free_of).address d ≡ false
    → record_with (stored_in t sole i q) d ≡ pick sole (parted_of (record_with t d)) (record_with t d)
unfolding parted_of fresh_of
stored_other t sole i q d e g =
    let same : find_of (addresses_of (stored_in t sole i q)) d ≡ find_of (addresses_of t) d =
    ap (λ (l : List ℕ). find_of l d) (stored_addresses t sole i q) ∙ first_set (addresses_of t) 0 i q.address d e (rw (get_map address_of t i free_of) g) in
    rw same (go (find_of (addresses_of t) d) refl sole)
  where
    apart : (j : ℕ) → find_of (addresses_of t) d ≡ Some j → j ≡ i → ⊥
    apart j h z = clash (eq-eqb _ d (found_address t d j h)) (rw z g)

    go : (f : Option ℕ) → find_of (addresses_of t) d ≡ f → (b : Bool) → peer_of (stored_in t b i q) f d ≡ pick b (parted_of (peer_of t f d)) (peer_of t f d)
    go None h true = refl
    go None h false = refl
    go (Some j) h true = get_or-set_other (map parted_of t) i j q free_of (apart j h) ∙ get_map parted_of t j free_of
    go (Some j) h false = get_or-set_other t i j q free_of (apart j h)

-- ---- over the lines of State 2 and 3

parted_two : (p : Record) → leb 2 (parted_of p).state ≡ leb 2 p.state
unfolding parted_of changed_of
parted_two p = by_bool (ltb p.state 3) (λ e. rw e) (λ e. rw (e, le-leb 2 p.state (let l : 3 ≤ p.state = ltb-false p.state 3 e in omega arith)))

parted_three : (p : Record) → leb 3 (parted_of p).state ≡ false
unfolding parted_of changed_of
parted_three p = by_bool (ltb p.state 3) (λ e. rw (e, lt-leb 3 p.state (ltb-true p.state 3 e))) (λ e. rw e)

-- What a turn of the device D leaves of the device d: g and j raise it over the two lines, x and y put it below, of D itself; of all others a turn
-- that is `sole` does.
pub record Moves (t u : List Record) (D d : ℕ) (g x j y sole : Bool) : Type 0 where
  pub two : over 2 u d ≡ ((eqb D d && g) || (over 2 t d && not (eqb D d && x)))
  pub three : over 3 u d ≡ ((eqb D d && j) || (over 3 t d && not (pick (eqb D d) y sole)))

module _ (s : Settings) (t : List Record) (p : Record) (own : record_with t p.address ≡ p) (some : eqb p.address 0 ≡ false) (turn : Turn) (same : turn.peer.address ≡ p.address) (g x j y : Bool) (k : Turned p g x j y turn) where
  -- stored at a place
  seated_moves :
      (i : ℕ) → i < length t → Well s (stored_in t turn.sole i turn.peer) → (d : ℕ) → (eqb p.address d ≡ false → eqb (get_or t i free_of).address d ≡ false)
      → Moves t (stored_in t turn.sole i turn.peer) p.address d g x j y turn.sole
  seated_moves i h w d apart = by_bool (eqb p.address d)
      (λ e.
      let here : p.address ≡ d = eqb-true p.address d e in
      let new : record_with (stored_in t turn.sole i turn.peer) d ≡ turn.peer =
      ap (λ (n : ℕ). record_with (stored_in t turn.sole i turn.peer) n) (sym here ∙ sym same) ∙ stored_own s t turn.sole i turn.peer w h (rw same some) in
      let old : record_with t d ≡ p = ap (λ (n : ℕ). record_with t n) (sym here) ∙ own in
      record { two = rw (e, new, old) k.two; three = rw (e, new, old) k.three })
      (λ e.
      let new = stored_other t turn.sole i turn.peer d (rw same e) (apart e) in
      record { two = rw (e, new) (other_two turn.sole (record_with t d)); three = rw (e, new) (other_three turn.sole (record_with t d)) })
    where
      other_two : (b : Bool) (r : Record) → leb 2 (pick b (parted_of r) r).state ≡ (leb 2 r.state && true)
      other_two true r = parted_two r ∙ kept (leb 2 r.state)
      other_two false r = kept (leb 2 r.state)

      other_three : (b : Bool) (r : Record) → leb 3 (pick b (parted_of r) r).state ≡ (leb 3 r.state && not b)
      other_three true r = parted_three r ∙ gone (leb 3 r.state)
      other_three false r = kept (leb 3 r.state)

  -- nobody's record changes, where the peer has none
  stays_moves : p.state ≡ 1 → g ≡ false → j ≡ false → turn.sole ≡ false → (d : ℕ) → Moves t t p.address d g x j y turn.sole
  stays_moves one eg ej o d = by_bool (eqb p.address d)
      (λ e.
      let old : record_with t d ≡ p = ap (λ (n : ℕ). record_with t n) (sym (eqb-true p.address d e)) ∙ own in
      record { two = rw (e, old, one, eg); three = rw (e, old, one, ej) })
      (λ e. record { two = rw e (kept (over 2 t d)); three = rw (e, o) (kept (over 3 t d)) })

-- where the peer of a turn is: at a place, or nowhere
abbrev pub Stands : List Record → ℕ → Option ℕ → Type 0
Stands t a None = (find_of (addresses_of t) a ≡ None) × (eqb a 0 ≡ false)
Stands t a (Some i) = (i < length t) × (eqb (get_or t i free_of).address 0 ≡ false)

-- one without a record is not raised
abbrev pub Still : Option ℕ → Bool → Bool → Turn → Type 0
Still None g j turn = (g ≡ false) × (j ≡ false) × (turn.sole ≡ false)
Still (Some i) g j turn = Unit

pub turn_moves :
    (s : Settings) (t : List Record) → Well s t → (a : ℕ) (at free : Option ℕ) (turn full : Turn) (g x j y : Bool) → Stands t a at → Still at g j turn
    → find_of (addresses_of t) 0 ≡ free → turn.peer.address ≡ (peer_of t at a).address → Turned (peer_of t at a) g x j y turn
    → Well s (turn_in t at free turn full).table → (d : ℕ) → eqb d 0 ≡ false
    → Moves t (turn_in t at free turn full).table (peer_of t at a).address d g x j y turn.sole
unfolding seated_of newcomer_of stranger_of fresh_of
turn_moves s t w a (Some i) free turn full g x j y st calm f same k w' d z =
    seated_moves s t (get_or t i free_of) (own_record s t w i st.0 st.1) st.1 turn same g x j y k i st.0 w' d (λ e. e)
turn_moves s t w a None free turn full g x j y st calm f same k w' d z = go (starts_of turn) free f w'
  where
    own : record_with t a ≡ fresh_of a
    own = rw st.0

    stays : Moves t t a d g x j y turn.sole
    stays = stays_moves s t (fresh_of a) own st.1 turn same g x j y k refl calm.0 calm.1 calm.2 d

    go : (b : Bool) (f : Option ℕ) → find_of (addresses_of t) 0 ≡ f → Well s (pick b (on_found f (stranger_of t full) (λ i. seated_of t i turn)) (stranger_of t turn)).table
        → Moves t (pick b (on_found f (stranger_of t full) (λ i. seated_of t i turn)) (stranger_of t turn)).table a d g x j y turn.sole
    go false f e w' = stays
    go true None e w' = stays
    go true (Some i) e w' =
        seated_moves s t (fresh_of a) own st.1 turn same g x j y k i (found_inside t 0 i e) w' d
        (λ n. rw (found_address t 0 i e) (swap d 0 z))
