-- A well-formed table, as facts; and where an address leads in it.
-- Assumes nothing.
use Prim.Native.Nat.{ℕ, ◌-◌, ◌≤◌}
use mathlib.Core.Path.{◌≡◌, refl, sym, ◌∙◌}
use mathlib.Core.Bool.{true, false, not}
use mathlib.Core.List.{List}
use native.Mathlib.Omega.{arith}
use lib.Dec.{eqb, leb}
use lib.ListN.{length, get_or}
use borrow.Author.Tests.{eqb-true, le-leb, leb-true}
use Rattle.octets.proofs.Branch.{by_bool}
use Rattle.octets.proofs.LinkTrip.{unlinked_of}
use Rattle.octets.specs.Address.{valid_of}
use Rattle.octets.specs.Links.{no_links, unlinked}
use Rattle.peer.proofs.Fits.{Fits, both, clash, fits_of, wrong}
use Rattle.peer.proofs.Keeps.{found_fits, fresh_fits}
use Rattle.peer.proofs.Spoken.{linked_stand}
use Rattle.peer.specs.Fit.{place_fits}
use Rattle.peer.specs.Record.{associates, free_of, fresh_of, is_free, is_joined}
use Rattle.peer.specs.Settings.{ap, role_answers, settings_fit}
use Rattle.peer.specs.declared.record.Record.{Record}
use Rattle.peer.specs.declared.settings.Settings.{Settings}
use Rattle.table.specs.Fit.{apart, crowd_of, distinct_of, links_apart, sparse_of, well_formed}
use Rattle.table.specs.Places.{addresses_of, all_of, count_of, find_link_of, find_of, link_addresses_of, on_found, seek_of, some_of}
use Rattle.table.specs.Seat.{peer_of}
use Rattle.std.specs.Prelude.{Option, Some, None}
use Rattle.table.proofs.Passes.Lists.{all_get, first_at, first_none, get_map, swap}
use Rattle.table.proofs.Passes.LinkLaws.{link_found, no_link}
use Rattle.table.proofs.Walks.LinkLists.{free_unlinked}
use Rattle.table.proofs.Theorems.WordedRecords.{free_address, valid_named}

-- the clauses of `well_formed`, and that there are 32 records
pub record Well (s : Settings) (t : List Record) : Type 0 where
  pub settings : settings_fit s ≡ true
  pub long : length t ≡ 32
  pub places : all_of (place_fits s) t ≡ true
  pub distinct : distinct_of (addresses_of t) ≡ true
  pub apart : links_apart (link_addresses_of t) (addresses_of t) ≡ true
  pub joined : role_answers s.role ≡ false → count_of is_joined t ≤ 1
  pub associating : role_answers s.role ≡ false → count_of associates t ≤ 1

pub well_of : (s : Settings) (t : List Record) → well_formed s t ≡ true → length t ≡ 32 → Well s t
unfolding well_formed sparse_of crowd_of
well_of s t h l =
    let a = both (settings_fit s) _ h in
    let b = both (all_of (place_fits s) t) _ a.1 in
    let c = both (distinct_of (addresses_of t)) _ b.1 in
    let d = both (links_apart (link_addresses_of t) (addresses_of t)) _ c.1 in
    record {
      settings = a.0;
      long = l;
      places = b.0;
      distinct = c.0;
      apart = d.0;
      joined = λ r. leb-true (count_of is_joined t) 1 (both (leb (count_of is_joined t) 1) _ (rw r at d.1)).0;
      associating = λ r. leb-true (count_of associates t) 1 (both (leb (count_of is_joined t) 1) _ (rw r at d.1)).1;
    }

pub of_well : (s : Settings) (t : List Record) → Well s t → well_formed s t ≡ true
unfolding well_formed sparse_of crowd_of
of_well s t w = rw (w.settings, w.places, w.distinct, w.apart) (by_bool (role_answers s.role)
    (λ r. rw r)
    (λ r. rw (r, le-leb (count_of is_joined t) 1 (w.joined r), le-leb (count_of associates t) 1 (w.associating r))))

free_fits : (s : Settings) → place_fits s free_of ≡ true
unfolding place_fits is_free no_links
free_fits s = refl

-- ---- where an address leads in a well-formed table

-- the record at a place found by its address has it
pub found_address : (t : List Record) (a i : ℕ) → find_of (addresses_of t) a ≡ Some i → (get_or t i free_of).address ≡ a
found_address t a i e =
    let found = first_at (λ (b : ℕ). eqb b a) 0 (addresses_of t) 0 i e in
    let at_i : i - 0 ≡ i = omega arith in
    let b : eqb (get_or (addresses_of t) i 0) a ≡ true = rw at_i at found.1 in
    sym (get_map (λ (p : Record). p.address) t i free_of) ∙ eqb-true _ a b

-- a record that a link leads to has links
some_links : (t : List Record) (a i : ℕ) → find_link_of t a ≡ Some i → no_links (get_or t i free_of).links ≡ false
unfolding some_of
some_links t a i e =
    let h = link_found t a i e in
    by_bool (no_links (get_or t i free_of).links)
    (λ n. wrong (rw (unlinked_of (get_or t i free_of).links n, swap a 0 h.0) at h.1))
    (λ n. n)

module _ (s : Settings) (t : List Record) (w : Well s t) where
  pub place_fits_lem : (i : ℕ) → place_fits s (get_or t i free_of) ≡ true
  place_fits_lem i = all_get (place_fits s) t i free_of w.places (free_fits s)

  pub free_links : (i : ℕ) → find_of (addresses_of t) 0 ≡ Some i → (get_or t i free_of).links ≡ unlinked
  free_links i e =
      let z : eqb (get_or t i free_of).address 0 ≡ true = rw (found_address t 0 i e) in
      free_unlinked (get_or t i free_of) (free_address s (get_or t i free_of) (place_fits_lem i) ∙ z)

  -- a record with a link is not free
  pub linked_fits : (a i : ℕ) → find_link_of t a ≡ Some i → Fits s (get_or t i free_of)
  unfolding place_fits some_of
  linked_fits a i e =
      let h = link_found t a i e in
      by_bool (is_free (get_or t i free_of))
      (λ f. wrong (rw (free_unlinked (get_or t i free_of) f, swap a 0 h.0) at h.1))
      (λ f. fits_of s (get_or t i free_of) (rw f at (place_fits_lem i)))

  -- to a record that fits; or nowhere, and then it may be a new record's
  abbrev pub Leads : ℕ → Option ℕ → Type 0
  Leads a None = (all_of (apart a) (addresses_of t) ≡ true) × (all_of (apart a) (link_addresses_of t) ≡ true) × Fits s (fresh_of a)
  Leads a (Some i) = Fits s (get_or t i free_of)

  pub leads_fits : (a : ℕ) (at : Option ℕ) → Leads a at → Fits s (peer_of t at a)
  leads_fits a None l = l.2
  leads_fits a (Some i) l = l

  module _ (a : ℕ) (own : not (eqb a s.own) ≡ true) (v : valid_of a ≡ true) where
    pub find_leads : (at : Option ℕ) → find_link_of t a ≡ None → find_of (addresses_of t) a ≡ at → Leads a at
    find_leads None n e = (first_none (λ (b : ℕ). eqb b a) (addresses_of t) 0 e, no_link t a (valid_named a v) n, fresh_fits s a own v)
    find_leads (Some i) n e = found_fits s (get_or t i free_of) (place_fits_lem i) (rw (found_address t a i e) v)

    pub seek_leads : (at : Option ℕ) → seek_of t (addresses_of t) a ≡ at → Leads a at
    unfolding seek_of
    seek_leads at e = go (find_link_of t a) refl e
      where
        go : (l : Option ℕ) → find_link_of t a ≡ l → on_found l (find_of (addresses_of t) a) (λ i. Some i) ≡ at → Leads a at
        go None n q = find_leads at n q
        go (Some i) n q = rw (← q) (linked_fits a i n)

  -- a device that is spoken to by its link is an AP's; else it has one address
  pub alone_found : (a : ℕ) (at : Option ℕ) → seek_of t (addresses_of t) a ≡ at → Leads a at → eqb s.role ap ≡ false → a ≡ (peer_of t at a).address
  unfolding seek_of fresh_of
  alone_found a at e f n = go (find_link_of t a) refl at e f
    where
      device : (at : Option ℕ) → find_of (addresses_of t) a ≡ at → a ≡ (peer_of t at a).address
      device None q = refl
      device (Some i) q = sym (found_address t a i q)

      go : (l : Option ℕ) → find_link_of t a ≡ l → (at : Option ℕ) → on_found l (find_of (addresses_of t) a) (λ i. Some i) ≡ at → Leads a at → a ≡ (peer_of t at a).address
      go None l at q f = device at q
      go (Some i) l at q f = clash (linked_stand s (get_or t i free_of) (linked_fits a i l) (some_links t a i l)).0 n
