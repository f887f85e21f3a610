-- The links of a list of records as walks meet them: the slots of all places in one row, the search over places and their slots by what is
-- still to come (from place i on, and in place i from slot j on), and what is so where no record has links.
-- The equation that a loop keeps stands before the other premises: from it antt reads what is not written.
-- Assumes nothing.
use Prim.Native.Nat.{ℕ, zero, suc, ◌+◌, ◌*◌, ◌/◌, ◌%◌, ◌≤◌, ◌<◌}
use mathlib.Core.Path.{◌≡◌, refl, sym, ◌∙◌}
use mathlib.Core.Bool.{Bool, true, false, not}
use mathlib.Core.List.{List, [], ◌∷◌}
use native.Mathlib.Omega.{arith}
use borrow.Author.Tests.{eqb-false, ne_eqb, not-false}
use lib.Dec.{eqb}
use lib.ListN.{length, drop, get_or}
use Rattle.octets.specs.Links.{links_of, no_links, unlinked}
use Rattle.octets.specs.Pick.{pick}
use Rattle.octets.proofs.Branch.{by_bool}
use Rattle.octets.proofs.LinkTrip.{unlinked_of}
use Rattle.peer.proofs.Fits.{both, or_left}
use Rattle.peer.specs.Fit.{links_fit}
use Rattle.peer.specs.Query.{query_number}
use Rattle.peer.specs.Record.{free_of, is_free}
use Rattle.peer.specs.declared.record.Record.{Record}
use Rattle.peer.specs.declared.settings.Settings.{Settings}
use Rattle.table.specs.Fit.{alone_in, links_apart}
use Rattle.table.specs.Places.{all_tails, all_of, find_link_of, first_from, has_link, link_addresses_of, some_of}
use Rattle.table.specs.Rows.{linked_in}
use Rattle.std.specs.Prelude.{Option, Some, None}
use Rattle.table.proofs.Passes.Loops.{left_step, left_end}

-- ---- the slots of all places: four for each

pub length_links : (t : List Record) → length (link_addresses_of t) ≡ 4 * length t
unfolding link_addresses_of
length_links [] = refl
length_links (p ∷ ps) = omega (arith, length_links ps)

pub link_slot : (t : List Record) (k : ℕ) → k < 4 * length t → get_or (link_addresses_of t) k 0 ≡ get_or (links_of (get_or t (k / 4) free_of).links) (k % 4) 0
unfolding link_addresses_of
link_slot [] k h = absurd (omega arith)
link_slot (p ∷ ps) zero h = refl
link_slot (p ∷ ps) (suc zero) h = refl
link_slot (p ∷ ps) (suc (suc zero)) h = refl
link_slot (p ∷ ps) (suc (suc (suc zero))) h = refl
link_slot (p ∷ ps) (suc (suc (suc (suc k)))) h =
    let place : suc (suc (suc (suc k))) / 4 ≡ suc (k / 4) = omega arith in
    let slot : suc (suc (suc (suc k))) % 4 ≡ k % 4 = omega arith in
    rw (place, slot) (link_slot ps k (omega arith))

-- ---- the search

-- x where an element passes a test, else y. It is shut, so that antt reads its arguments off a loop's equation
unfoldable pub within : {A B : Type 0} → (A → Bool) → List A → B → B → B
within f t x y = pick (some_of f t) x y

-- the outer loop enters a place, with what comes after it
pub first_in : {A B : Type 0} (f : B → Bool) (g : A → List B) (t : List A) (i : ℕ) (r : Option ℕ) → first_from (λ p. some_of f (g p)) i (drop i t) ≡ r → (d : A) → i < length t
    → within f (g (get_or t i d)) (Some i) (first_from (λ p. some_of f (g p)) (i + 1) (drop (i + 1) t)) ≡ r
unfolding first_from within
first_in f g t i r q d h = sym (left_step (first_from (λ p. some_of f (g p)) i) t i d h) ∙ q

-- the inner loop: x where a slot from j on passes, else y. The slot j passes; it does not; no slot is left
module _ {A B : Type 0} (f : A → Bool) (t : List A) (j : ℕ) (x y r : B) (q : within f (drop j t) x y ≡ r) where
  pub some_yes : (d : A) → j < length t → f (get_or t j d) ≡ true → x ≡ r
  unfolding some_of within
  some_yes d h e = sym (left_step (λ s. within f s x y) t j d h ∙ rw e) ∙ q

  pub some_no : (d : A) → j < length t → f (get_or t j d) ≡ false → within f (drop (j + 1) t) x y ≡ r
  unfolding some_of within
  some_no d h e = sym (left_step (λ s. within f s x y) t j d h ∙ rw e) ∙ q

  pub some_end : length t ≤ j → y ≡ r
  unfolding some_of within
  some_end h = sym (left_end (λ s. within f s x y) t j h) ∙ q

-- ---- where no record has links

-- a free place has no links
pub free_unlinked : (p : Record) → is_free p ≡ true → p.links ≡ unlinked
unfolding is_free
free_unlinked p f =
    let state = (both (eqb p.address 0) _ f).1 in
    let hold = (both (eqb p.left 0) _ (both (eqb p.state 0) _ state).1).1 in
    let query = (both (eqb p.identifier 0) _ (both (eqb p.hold 0) _ hold).1).1 in
    unlinked_of p.links (both (no_links p.links) _ (both (eqb (query_number p.query) 0) _ query).1).0

bare : (p : Record) (ps : List Record) → linked_in (p ∷ ps) ≡ false → (p.links ≡ unlinked) × (linked_in ps ≡ false)
unfolding some_of
bare p ps h =
    let k = or_left (not (no_links p.links)) _ h in
    (unlinked_of p.links (not-false (no_links p.links) k.0), k.1)

module _ (a : ℕ) (z : eqb a 0 ≡ false) where
  none_has : (t : List Record) (n : ℕ) → linked_in t ≡ false → first_from (has_link a) n t ≡ None
  unfolding first_from some_of
  none_has [] n h = refl
  none_has (p ∷ ps) n h =
      let k = bare p ps h in
      let other : eqb 0 a ≡ false = ne_eqb 0 a (λ (e : 0 ≡ a). eqb-false a 0 z (sym e)) in
      rw (k.0, other) (none_has ps (n + 1) k.1)

pub find_unlinked : (t : List Record) (a : ℕ) → linked_in t ≡ false → find_link_of t a ≡ None
unfolding find_link_of
find_unlinked t a h = by_bool (eqb a 0) (λ e. rw e) (λ e. rw e (none_has a e t 0 h))

pub apart_unlinked : (t : List Record) (ads : List ℕ) → linked_in t ≡ false → links_apart (link_addresses_of t) ads ≡ true
unfolding link_addresses_of all_tails alone_in
apart_unlinked [] ads h = refl
apart_unlinked (p ∷ ps) ads h =
    let k = bare p ps h in
    rw k.0 (apart_unlinked ps ads k.1)

pub fit_unlinked : (s : Settings) (t : List Record) → linked_in t ≡ false → all_of (links_fit s) t ≡ true
unfolding all_tails links_fit no_links
fit_unlinked s [] h = refl
fit_unlinked s (p ∷ ps) h =
    let k = bare p ps h in
    rw k.0 (fit_unlinked s ps k.1)
