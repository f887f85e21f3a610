-- What a pass over a table's octets, from the last place to the first, has found: every place passed is well formed but for its links, no address stands
-- there twice, and what is counted of them (`Surveyed`).
-- Assumes nothing.
use mathlib.Core.Path.{◌≡◌, refl, ap, sym, ◌∙◌}
use mathlib.Core.Bool.{Bool, true, false, not, ◌&&◌, ◌||◌}
use mathlib.Core.List.{List}
use Prim.Native.Nat.{ℕ, zero, suc, ◌+◌, ◌*◌, ◌-◌, ◌≤◌, ◌<◌}
use native.Mathlib.Nat.{zero-add}
use native.Mathlib.Omega.{arith}
use lib.Dec.{eqb, leb}
use lib.ListN.{length, drop, get_or, set}
use borrow.Author.Tests.{eqb-true, eqb-false, not-true}
use Rattle.octets.specs.Address.{valid_of}
use Rattle.octets.specs.Links.{no_links}
use Rattle.octets.specs.Pick.{pick}
use Rattle.octets.specs.Row.{blank_at, row_at}
use Rattle.octets.specs.declared.row.Row.{Row}
use Rattle.octets.proofs.Branch.{by_bool}
use Rattle.octets.proofs.RowTrip.{blank_row, row_blank}
use Rattle.peer.proofs.Fits.{Fits, both, clash, fits_of, or_right}
use Rattle.peer.specs.Fit.{links_fit, place_fits, record_fits}
use Rattle.peer.specs.Record.{associates, free_of, is_free, is_joined, linked_of}
use Rattle.peer.specs.Settings.{role_answers, settings_fit}
use Rattle.peer.specs.declared.record.Record.{Record}
use Rattle.peer.specs.declared.settings.Settings.{Settings}
use Rattle.table.specs.Fit.{apart, crowd_of, links_apart, sparse_of, well_formed}
use Rattle.table.specs.Others.{associated_of}
use Rattle.table.specs.Places.{addresses_of, all_of, link_addresses_of}
use Rattle.table.specs.Rows.{linked_in, row_numbered, numbered_at, record_of, records_of}
use Rattle.table.proofs.Passes.Loops.{all_end, all_step, and_false, and_true}
use Rattle.table.proofs.Passes.Marks.{Passed, mark_of, passed_all, passed_none, passed_one, passed_zero, same_twice}
use Rattle.table.proofs.Order.OwnRecord.{all_at, wf_distinct, wf_fits}
use Rattle.table.proofs.Octets.RowLaws.{address_at, at_place, blank_free, blank_numbered, length_addresses, length_records, numbered_end, numbered_row, numbered_step}
use Rattle.table.proofs.Octets.Standings.{free_row}
use Rattle.table.proofs.Octets.LinkStandings.{all_both, bare_fits, bare_of, record_both}
use Rattle.table.proofs.Passes.Tallies.{Tallied, tallied_all, tallied_free, tallied_more, tallied_none}

-- What holds of the places from i on, and of the one before.
pub one_down : (P : ℕ → Type 0) (i : ℕ) → 0 < i → P (i - 1) → ((j : ℕ) → i ≤ j → j < 32 → P j) → (j : ℕ) → i - 1 ≤ j → j < 32 → P j
one_down P i z p ps j l h = by_bool (eqb (i - 1) j)
    (λ e. rw (eqb-true (i - 1) j e) at p)
    (λ e. ps j (omega (arith, eqb-false (i - 1) j e)) h)

turn_round : (w l a : Bool) → (w && (l && a)) ≡ (l && (a && w))
turn_round true l a = rw (and_true a)
turn_round false l a = rw (and_false a) (sym (and_false l))

-- A test that can't hold fails.
fails : (b : Bool) → (b ≡ true → ⊥) → false ≡ b
fails true h = absurd (h refl)
fails false h = refl

-- xs: the octets of the table. What is found in the places from i on.
pub record Surveyed (s : Settings) (xs : List ℕ) (marks : List Bool) (associated joined associating i : ℕ) : Type 0 where
  pub long : length xs ≡ 1536
  pub tally : Tallied (records_of xs) associated joined associating i
  pub fits : all_of (bare_fits s) (drop i (records_of xs)) ≡ true
  pub numbered : numbered_at (32 - i) (48 * i) xs ≡ true
  pub passed : Passed mark_of (addresses_of (records_of xs)) marks i

surveyed_none : (s : Settings) (xs : List ℕ) → length xs ≡ 1536 → (marks : List Bool) → length marks ≡ 256 → (i : ℕ) → i ≡ 32 → Surveyed s xs marks 0 0 0 i
surveyed_none s xs n marks w i e =
    let over : length (records_of xs) ≤ i = rw (length_records 32 0 xs) (omega arith) in
    let end : i ≡ length (addresses_of (records_of xs)) = e ∙ sym (length_addresses xs) in
    record {
      long = n;
      tally = tallied_none (records_of xs) (length_records 32 0 xs) i e;
      fits = all_end (bare_fits s) (records_of xs) i over;
      numbered = numbered_end i xs (omega arith);
      passed = rw end (passed_none mark_of (addresses_of (records_of xs)) marks (λ a. rw w (omega arith)));
    }

module _ (s : Settings) (xs : List ℕ) (marks : List Bool) (associated joined associating i : ℕ) (v : Surveyed s xs marks associated joined associating i) (z : 0 < i) where
  next : i - 1 + 1 ≡ i
  next = omega arith

  inside : i - 1 < 32
  inside = omega (arith, v.tally.low)

  inside' : i - 1 < length (records_of xs)
  inside' = rw (length_records 32 0 xs) inside

  more_fits : (p : Record) → p ≡ get_or (records_of xs) (i - 1) free_of → bare_fits s p ≡ true → all_of (bare_fits s) (drop (i - 1) (records_of xs)) ≡ true
  more_fits p e h = all_step (bare_fits s) (records_of xs) (i - 1) free_of inside' ∙ rw (← e, h, next, v.fits)

  -- a free place more
  pub surveyed_free : blank_at (48 * (i - 1)) xs ≡ true → Surveyed s xs marks associated joined associating (i - 1)
  unfolding is_free no_links
  surveyed_free b =
      let e : free_of ≡ get_or (records_of xs) (i - 1) free_of = sym (blank_free (i - 1) xs inside b) in
      let no_address : 0 ≡ get_or (addresses_of (records_of xs)) (i - 1) 0 = sym (ap (λ r. r.address) (blank_row (48 * (i - 1)) xs b)) ∙ address_at (i - 1) xs inside in
      record {
        long = v.long;
        tally = tallied_free (records_of xs) associated joined associating i v.tally z e;
        fits = more_fits free_of e refl;
        numbered = blank_numbered (i - 1) xs inside b ∙ rw (next, v.numbered);
        passed = passed_zero (addresses_of (records_of xs)) marks i v.passed z 0 no_address refl;
      }

  -- a record more: r its row
  module _ (r : Row) (er : r ≡ row_at (48 * (i - 1)) xs) where
    here : record_of r ≡ get_or (records_of xs) (i - 1) free_of
    here = ap record_of er ∙ at_place (i - 1) xs inside

    -- one that does not fit, in a place that is not free
    pub unfit_row : blank_at (48 * (i - 1)) xs ≡ false → (row_numbered r && record_fits s (bare_of (record_of r))) ≡ false → false ≡ (numbered_at 32 0 xs && well_formed s (records_of xs))
    unfolding place_fits
    unfit_row b f = fails (numbered_at 32 0 xs && well_formed s (records_of xs)) λ w.
        let all = both (numbered_at 32 0 xs) _ w in
        let number : row_numbered r ≡ true = rw er (rw zero-add at (numbered_row 32 (i - 1) 0 xs inside all.0)) in
        let place : place_fits s (record_of r) ≡ true = rw here (all_at (place_fits s) (records_of xs) (i - 1) free_of (wf_fits s (records_of xs) all.1) inside') in
        by_bool (is_free (record_of r))
        (λ q. clash (row_blank (48 * (i - 1)) xs (rw v.long (omega (arith, inside))) (sym er ∙ free_row r number q)) b)
        (λ q. clash (both _ _ (sym (record_both s (record_of r)) ∙ rw q at place)).0 (rw number at f))

    module _ (fit : (row_numbered r && record_fits s (bare_of (record_of r))) ≡ true) where
      clauses : Fits s (bare_of (record_of r))
      clauses = fits_of s (bare_of (record_of r)) (both (row_numbered r) _ fit).1

      at_place' : r.address ≡ get_or (addresses_of (records_of xs)) (i - 1) 0
      at_place' = ap (λ r. r.address) er ∙ address_at (i - 1) xs inside

      not_zero : eqb r.address 0 ≡ false
      unfolding valid_of record_of linked_of
      not_zero = not-true (eqb r.address 0) (both (not (eqb r.address 0)) _ clauses.valid).0

      module _ (m : ℕ) (em : m ≡ mark_of r.address) where
        pub same_address : (not (get_or marks m false) || all_of (apart r.address) (drop (i - 1 + 1) (addresses_of (records_of xs)))) ≡ false → false ≡ (numbered_at 32 0 xs && well_formed s (records_of xs))
        same_address e = fails (numbered_at 32 0 xs && well_formed s (records_of xs)) λ w.
            clash (wf_distinct s (records_of xs) (both (numbered_at 32 0 xs) _ w).1)
            (sym (same_twice (addresses_of (records_of xs)) marks i v.passed z r.address at_place' not_zero m em e))

        pub surveyed_used : (not (get_or marks m false) || all_of (apart r.address) (drop (i - 1 + 1) (addresses_of (records_of xs)))) ≡ true
            → (associated' : ℕ) → associated' ≡ pick (leb 3 r.state) r.address associated → (joined' : ℕ) → joined' ≡ joined + pick (leb 3 r.state) 1 0
            → (asks : Bool) → asks ≡ associates (record_of r) → (associating' : ℕ) → associating' ≡ associating + pick asks 1 0
            → Surveyed s xs (set marks m true) associated' joined' associating' (i - 1)
        unfolding is_joined record_of
        surveyed_used e associated' ea joined' ej asks es associating' ek =
            record {
              long = v.long;
              tally = tallied_more (records_of xs) associated joined associating i v.tally z (record_of r) here associated' ea joined' ej associating' (rw es at ek);
              fits = more_fits (record_of r) here (or_right (is_free (record_of r)) (record_fits s (bare_of (record_of r))) (both (row_numbered r) _ fit).1);
              numbered = numbered_step (i - 1) xs inside ∙ rw (← er, (both (row_numbered r) _ fit).0, next, v.numbered);
              passed = passed_one (addresses_of (records_of xs)) marks i v.passed z r.address at_place' not_zero m em e;
            }

        -- a row of which no more is to be asked, whose mark is new
        pub surveyed_plain : get_or marks m false ≡ false → associates (record_of r) ≡ false
            → (associated' : ℕ) → associated' ≡ pick (leb 3 r.state) r.address associated → (joined' : ℕ) → joined' ≡ joined + pick (leb 3 r.state) 1 0
            → Surveyed s xs (set marks m true) associated' joined' associating (i - 1)
        surveyed_plain new none associated' ea joined' ej = surveyed_used (rw new) associated' ea joined' ej false (sym none) associating (omega arith)

-- Where every place from i on is free.
pub surveyed_from : (s : Settings) (xs : List ℕ) → length xs ≡ 1536 → (marks : List Bool) → length marks ≡ 256 → (k i : ℕ) → i + k ≡ 32 → ((j : ℕ) → i ≤ j → j < 32 → blank_at (48 * j) xs ≡ true)
    → Surveyed s xs marks 0 0 0 i
surveyed_from s xs n marks w zero i e b = surveyed_none s xs n marks w i (omega arith)
surveyed_from s xs n marks w (suc k) i e b =
    let one : i + 1 - 1 ≡ i = omega arith in
    rw one at (surveyed_free s xs marks 0 0 0 (i + 1) (surveyed_from s xs n marks w k (i + 1) (omega arith) (λ j l h. b j (omega arith) h)) (omega arith) (rw one (b i (omega arith) (omega arith))))

-- After the first place: b is what is found of the crowd and of the links.
module _ (s : Settings) (xs : List ℕ) (marks : List Bool) (associated joined associating i : ℕ) (v : Surveyed s xs marks associated joined associating i) (h : i ≤ 0) (f : settings_fit s ≡ true) (linked : Bool) (any-linked : linked ≡ linked_in (records_of xs)) where
  abbrev Found : Bool → Type 0
  Found b =
      (b ≡ (numbered_at 32 0 xs && well_formed s (records_of xs)))
      × (b ≡ true → (associated ≡ associated_of (records_of xs)) × (record { joined = joined; associating = associating } ≡ crowd_of (records_of xs)) × (linked ≡ linked_in (records_of xs)))

  first : i ≡ 0
  first = omega arith

  pub surveyed_all : (w : Bool) → w ≡ (role_answers s.role || (leb joined 1 && leb associating 1))
      → (l : Bool) → l ≡ (all_of (links_fit s) (records_of xs) && links_apart (link_addresses_of (records_of xs)) (addresses_of (records_of xs))) → (b : Bool) → b ≡ (w && l) → Found b
  unfolding well_formed sparse_of
  surveyed_all w ew l el b e =
      let number : numbered_at 32 0 xs ≡ true = rw first at v.numbered in
      let fits : all_of (bare_fits s) (records_of xs) ≡ true = rw first at v.fits in
      let all = tallied_all (records_of xs) associated joined associating i v.tally h in
      (e ∙ rw (number, f, all_both s (records_of xs), fits, ← passed_all (addresses_of (records_of xs)) marks i v.passed h, ← all.1, ew, el) (turn_round (role_answers s.role || (leb joined 1 && leb associating 1)) (all_of (links_fit s) (records_of xs)) (links_apart (link_addresses_of (records_of xs)) (addresses_of (records_of xs)))), λ t. (all.0, all.1, any-linked))

pub unfit_settings : (s : Settings) (xs : List ℕ) → settings_fit s ≡ false → false ≡ (numbered_at 32 0 xs && well_formed s (records_of xs))
unfolding well_formed
unfit_settings s xs f = rw f (sym (and_false (numbered_at 32 0 xs)))

-- What is not well formed says nothing more.
pub says_nothing : {P : Type 0} (b w : Bool) → b ≡ false → false ≡ w → (b ≡ w) × (b ≡ true → P)
says_nothing b w e h = (e ∙ h, λ t. clash t e)
