-- Records to octets and back: a table's octets give its records, where each number fits its octets; those of a well-formed table do. And they
-- are a table (`octets_table`).
-- Assumes nothing.
use mathlib.Core.Path.{◌≡◌, refl, ap, sym, ◌∙◌}
use mathlib.Core.List.{List, [], ◌∷◌, ◌++◌}
use Prim.Native.Nat.{ℕ, zero, suc, ◌+◌, ◌*◌, ◌^◌, ◌<◌, ◌≤◌}
use native.Mathlib.Omega.{arith}
use mathlib.Core.Bool.{true, false, not}
use lib.Dec.{eqb, leb}
use lib.ListN.{length, drop, length-append, replicate}
use lib.Seq.{drop-append-add}
use borrow.Author.Tests.{eq-eqb, eqb-true, leb-true, leb-false, le-leb, lt-leb}
use Rattle.octets.specs.Links.{links_at, no_links}
use Rattle.octets.specs.Row.{row_at, row_octets}
use Rattle.octets.specs.declared.links.Links.{Links}
use Rattle.octets.proofs.LinkTrip.{LinksFit, unlinked_of}
use Rattle.octets.proofs.Branch.{by_bool}
use Rattle.octets.proofs.RowTrip.{RowFits, row_back}
use Rattle.octets.proofs.RowHead.{length_row}
use Rattle.octets.specs.Address.{valid_of}
use Rattle.peer.proofs.Fits.{Fits, both, clash, fits_of, or_right, suits_short}
use Rattle.peer.proofs.Keeps.{query_soon}
use Rattle.peer.proofs.QueryFits.{query_number_small}
use Rattle.peer.specs.Fit.{highest_state, hold_fits, links_fit, links_stand, place_fits, query_allowed, record_fits, slot_fits}
use Rattle.peer.specs.Query.{query_left, query_number, running_number}
use Rattle.peer.specs.Record.{exchange_number, free_of, is_free}
use Rattle.peer.specs.Settings as settings
use Rattle.peer.specs.Settings.{network_fits, query_times_fit, role_answers, role_asks, role_associates, settings_fit, time_fits}
use Rattle.peer.specs.declared.query.Query.{Query}
use Rattle.peer.specs.declared.query.Query.TheVariants as query
use Rattle.peer.specs.declared.exchange.Exchange.{Exchange}
use Rattle.peer.specs.declared.exchange.Exchange.TheVariants.{None, Asked, Awaiting, Sent}
use Rattle.octets.specs.declared.heard.Kind.TheVariants.{Association, Authentication, Reassociation}
use Rattle.peer.specs.declared.record.Record.{Record}
use Rattle.peer.specs.declared.settings.Settings.{Settings}
use Rattle.table.specs.Fit.{alone_in, sparse_of, well_formed}
use Rattle.table.specs.Marked.{as_ap, them}
use Rattle.table.specs.Places.{all_of, all_tails, link_addresses_of}
use Rattle.table.specs.Rows.{is_table, numbered_at, octets_of, query_numbered, records_at, records_of, row_numbered, row_of}
use Rattle.table.proofs.Octets.RowLaws.{record_back}

-- Each record's numbers fit their octets: an address 8, a hold 4, a time left 2, an identifier 2.
abbrev pub Fitting : List Record → Type 0
Fitting [] = Unit {0}
Fitting (p ∷ t) = RowFits (row_of p) × Fitting t

none_left : (q : Query) → eqb (query_number q) 0 ≡ true → query_left q ≤ 65535
unfolding running_number
none_left query.None h = omega arith
none_left (query.Running left true) h = clash h refl
none_left (query.Running left false) h = clash h refl
none_left query.TimedOut h = omega arith

-- Links fit: there are none, or they are addresses, of six octets.
no_links_fit : (ls : Links) → no_links ls ≡ true → LinksFit ls
no_links_fit ls e =
    rw (unlinked_of ls e)
    (record { one = omega arith; two = omega arith; three = omega arith; four = omega arith })

slot_in_range : (own before l : ℕ) → slot_fits own before l ≡ true → l < 2 ^ 48
unfolding slot_fits valid_of
slot_in_range own before l h = by_bool (eqb l 0)
    (λ e. omega (arith, eqb-true l 0 e))
    (λ e.
    let v = (both (not (eqb l own)) _ (both (not (eqb before 0)) _ (rw e at h)).1).1 in
    omega (arith, leb-true l 281474976710655 (both (leb l 281474976710655) _ v).0))

links_in_range : (s : Settings) (p : Record) → Fits s p → LinksFit p.links
unfolding links_fit links_stand
links_in_range s p f = by_bool (no_links p.links) (no_links_fit p.links)
    (λ e.
    let ls = p.links in
    let a = both (slot_fits s.own p.address ls.one) _ (both (eqb s.role settings.ap) _ (rw e at f.linked)).1 in
    let b = both (slot_fits s.own ls.one ls.two) _ a.1 in
    let c = both (slot_fits s.own ls.two ls.three) _ b.1 in
    record {
      one = slot_in_range s.own p.address ls.one a.0;
      two = slot_in_range s.own ls.one ls.two b.0;
      three = slot_in_range s.own ls.two ls.three c.0;
      four = slot_in_range s.own ls.three ls.four c.1;
    })

-- A well-formed table's numbers fit: an address is of six octets; a hold, a time left, an identifier and what is left of a query are in range.
fitting_place : (s : Settings) (p : Record) → settings_fit s ≡ true → place_fits s p ≡ true → RowFits (row_of p)
unfolding row_of place_fits is_free valid_of hold_fits
fitting_place s p fit h = by_bool (is_free p) free (λ e. fitting (fits_of s p (rw e at h)))
  where
    free : is_free p ≡ true → RowFits (row_of p)
    free e =
        let a = both (eqb p.address 0) _ e in
        let l = both (eqb p.left 0) _ (both (eqb p.state 0) _ a.1).1 in
        let a0 : p.address ≡ 0 = eqb-true p.address 0 a.0 in
        let l0 : p.left ≡ 0 = eqb-true p.left 0 l.0 in
        let d = both (eqb p.hold 0) _ l.1 in
        let h0 : p.hold ≡ 0 = eqb-true p.hold 0 d.0 in
        let i = both (eqb p.identifier 0) _ d.1 in
        let i0 : p.identifier ≡ 0 = eqb-true p.identifier 0 i.0 in
        let n = both (eqb (query_number p.query) 0) _ i.1 in
        let r : query_left p.query ≤ 65535 = none_left p.query n.0 in
        let q : query_number p.query ≤ 3 = query_number_small p.query in
        let w = no_links_fit p.links (both (no_links p.links) _ n.1).0 in
        record { address = omega arith; hold = omega arith; left = omega arith; identifier = omega arith; remaining = omega arith; query = omega arith; links = w }

    fitting : Fits s p → RowFits (row_of p)
    fitting f =
        let a : p.address ≤ 281474976710655 = leb-true p.address 281474976710655 (both (leb p.address 281474976710655) _ (both (not (eqb p.address 0)) _ f.valid).1).0 in
        let h : p.hold ≤ 4294967295 = leb-true p.hold 4294967295 (both (leb p.hold 4294967295) _ f.held).0 in
        let l : p.left ≤ 65535 = suits_short p.exchange s.role p.state p.left f.suits in
        let i : p.identifier ≤ 65535 = f.numbered in
        let r : query_left p.query ≤ 65535 = query_soon s p fit f in
        let q : query_number p.query ≤ 3 = query_number_small p.query in
        let w = links_in_range s p f in
        record { address = omega arith; hold = omega arith; left = omega arith; identifier = omega arith; remaining = omega arith; query = omega arith; links = w }

fitting_all : (s : Settings) (t : List Record) → settings_fit s ≡ true → all_of (place_fits s) t ≡ true → Fitting t
unfolding all_tails
fitting_all s [] fit h = tt
fitting_all s (p ∷ t) fit h =
    let b = both (place_fits s p) (all_of (place_fits s) t) h in
    (fitting_place s p fit b.0, fitting_all s t fit b.1)

pub fitting_of_well : (s : Settings) (t : List Record) → well_formed s t ≡ true → Fitting t
unfolding well_formed
fitting_of_well s t h =
    let w = both (settings_fit s) _ h in
    fitting_all s t w.0 (both (all_of (place_fits s) t) _ w.1).0

module _ (row zs : List ℕ) (n : length row ≡ 48) where
  room_behind : (k : ℕ) → leb (48 + k + 48) (length (row ++ zs)) ≡ leb (k + 48) (length zs)
  room_behind k = by_bool (leb (k + 48) (length zs))
      (λ e. rw e (le-leb (48 + k + 48) (length (row ++ zs)) (rw (length-append, n) (omega (arith, leb-true (k + 48) (length zs) e)))))
      (λ e. rw e (lt-leb (48 + k + 48) (length (row ++ zs)) (rw (length-append, n) (omega (arith, leb-false (k + 48) (length zs) e)))))

  drop_behind : (k j : ℕ) → j ≡ 48 + k → drop j (row ++ zs) ≡ drop k zs
  drop_behind k j e = rw (e, ← n) (drop-append-add row zs k)

  pub row_behind : (k : ℕ) → row_at (48 + k) (row ++ zs) ≡ row_at k zs
  unfolding row_at links_at
  row_behind k =
      rw (
        room_behind k,
        drop_behind k (48 + k) refl,
        drop_behind (k + 8) (48 + k + 8) (omega arith),
        drop_behind (k + 12) (48 + k + 12) (omega arith),
        drop_behind (k + 14) (48 + k + 14) (omega arith),
        drop_behind (k + 15) (48 + k + 15) (omega arith),
        drop_behind (k + 16) (48 + k + 16) (omega arith),
        drop_behind (k + 18) (48 + k + 18) (omega arith),
        drop_behind (k + 20) (48 + k + 20) (omega arith),
        drop_behind (k + 24) (48 + k + 24) (omega arith),
        drop_behind (k + 24 + 6) (48 + k + 24 + 6) (omega arith),
        drop_behind (k + 24 + 12) (48 + k + 24 + 12) (omega arith),
        drop_behind (k + 24 + 18) (48 + k + 24 + 18) (omega arith),
      )

  records_behind : (m k : ℕ) → records_at m (48 + k) (row ++ zs) ≡ records_at m k zs
  unfolding records_at
  records_behind zero k = refl
  records_behind (suc m) k =
      let e : 48 + k + 48 ≡ 48 + (k + 48) = omega arith in
      rw (row_behind k, e, records_behind m (k + 48))

records_back : (t : List Record) → Fitting t → records_at (length t) 0 (octets_of t) ≡ t
unfolding records_at octets_of
records_back [] f = refl
records_back (p ∷ t) f =
    rw (row_back (row_of p) (octets_of t) f.0, record_back p, records_behind (row_octets (row_of p)) (octets_of t) (length_row (row_of p)) (length t) 0, records_back t f.1)

pub records_of_octets : (t : List Record) → length t ≡ 32 → Fitting t → records_of (octets_of t) ≡ t
records_of_octets t l f = ap (λ n. records_at n 0 (octets_of t)) (sym l) ∙ records_back t f

-- So the octets of a well-formed table give its records.
pub well_trip : (s : Settings) (t : List Record) → well_formed s t ≡ true → length t ≡ 32 → records_of (octets_of t) ≡ t
well_trip s t w l = records_of_octets t l (fitting_of_well s t w)

-- ---- the octets of a table are a table

number_low : (e : Exchange) → leb (exchange_number e) 9 ≡ true
number_low None = refl
number_low (Asked Authentication) = refl
number_low (Asked Association) = refl
number_low (Asked Reassociation) = refl
number_low (Awaiting Authentication) = refl
number_low (Awaiting Association) = refl
number_low (Awaiting Reassociation) = refl
number_low (Sent Authentication) = refl
number_low (Sent Association) = refl
number_low (Sent Reassociation) = refl

query_low : (q : Query) → query_numbered (query_number q) (query_left q) ≡ true
unfolding query_numbered running_number
query_low query.None = refl
query_low (query.Running left true) = or_right (eqb left 0) true refl
query_low (query.Running left false) = or_right (eqb left 0) true refl
query_low query.TimedOut = refl

length_octets : (t : List Record) → length (octets_of t) ≡ 48 * length t
unfolding octets_of
length_octets [] = refl
length_octets (p ∷ t) = rw (length-append, length_row (row_of p), length_octets t) (omega arith)

numbered_behind : (row zs : List ℕ) → length row ≡ 48 → (m k : ℕ) → numbered_at m (48 + k) (row ++ zs) ≡ numbered_at m k zs
unfolding numbered_at
numbered_behind row zs n zero k = refl
numbered_behind row zs n (suc m) k =
    let e : 48 + k + 48 ≡ 48 + (k + 48) = omega arith in
    rw (row_behind row zs n k, e, numbered_behind row zs n m (k + 48))

numbered_back : (t : List Record) → Fitting t → numbered_at (length t) 0 (octets_of t) ≡ true
unfolding numbered_at octets_of row_of row_numbered
numbered_back [] f = refl
numbered_back (p ∷ t) f =
    rw (row_back (row_of p) (octets_of t) f.0, query_low p.query, number_low p.exchange, numbered_behind (row_octets (row_of p)) (octets_of t) (length_row (row_of p)) (length t) 0) (numbered_back t f.1)

pub octets_table : (t : List Record) → length t ≡ 32 → Fitting t → is_table (octets_of t) ≡ true
unfolding is_table
octets_table t l f =
    let n : length (octets_of t) ≡ 1536 = omega (arith, length_octets t) in
    let m : numbered_at 32 0 (octets_of t) ≡ true = ap (λ k. numbered_at k 0 (octets_of t)) (sym l) ∙ numbered_back t f in
    rw (eq-eqb (length (octets_of t)) 1536 n, m)

-- What is asked for is met: a device with two links at an access point, and no other.
pub linked_device : List Record
linked_device =
    record { address = them; state = 1; exchange = None; left = 0; hold = 0; query = query.None; identifier = 0; links = record { one = 6; two = 8; three = 0; four = 0 } }
    ∷ replicate 31 free_of

pub example_well : well_formed as_ap linked_device ≡ true
unfolding linked_device well_formed settings_fit query_times_fit network_fits role_answers role_asks role_associates highest_state time_fits valid_of all_tails place_fits is_free record_fits hold_fits query_allowed alone_in sparse_of no_links links_fit links_stand slot_fits link_addresses_of
example_well = refl

pub example_long : length linked_device ≡ 32
unfolding linked_device
example_long = refl

example_trip : records_of (octets_of linked_device) ≡ linked_device
example_trip = well_trip as_ap linked_device example_well example_long
