-- The octets of a table and its records: octets to records and back are the same octets (`octets_of_records`), a record's row gives it
-- back (`record_back`), what is read at a place, and how the numbers of exchanges are tested place by place.
-- Assumes nothing.
use mathlib.Core.Path.{◌≡◌, refl, ap, sym, ◌∙◌}
use mathlib.Core.Bool.{true, ◌&&◌}
use mathlib.Core.List.{List}
use Prim.Native.Nat.{ℕ, zero, suc, ◌+◌, ◌*◌, ◌-◌, ◌/◌, ◌%◌, ◌≤◌, ◌<◌}
use native.Mathlib.Nat.{add-zero, zero-add}
use native.Mathlib.Omega.{arith}
use borrow.Author.Tests.{leb-true, eqb-true}
use lib.Dec.{eqb}
use lib.ListN.{length, get_or, take, drop, length-map, get_or-map}
use lib.Seq.{take-add, drop-drop, take_all}
use Rattle.octets.specs.Links.{links_of}
use Rattle.octets.specs.Row.{blank_at, row_at}
use Rattle.octets.specs.declared.row.Row.{Row}
use Rattle.octets.proofs.Branch.{and_left, and_right}
use Rattle.octets.proofs.RowTrip.{Octets, blank_row, octets_back}
use Rattle.peer.proofs.Fits.{both}
use Rattle.peer.proofs.QueryFits.{query_back}
use Rattle.peer.specs.Query.{query_of}
use Rattle.peer.specs.Record.{exchange_number, exchange_of, free_of}
use Rattle.peer.specs.declared.record.Record.{Record}
use Rattle.peer.specs.declared.exchange.Exchange.{Exchange}
use Rattle.peer.specs.declared.exchange.Exchange.TheVariants.{None, Asked, Awaiting, Sent}
use Rattle.octets.specs.declared.heard.Kind.TheVariants.{Authentication, Association, Reassociation}
use Rattle.table.specs.Places.{addresses_of, link_addresses_of}
use Rattle.table.proofs.Octets.Standings.{by_number, numbers_kept}
use Rattle.table.proofs.Walks.LinkLists.{length_links, link_slot}
use Rattle.table.specs.Rows.{query_numbered, record_of, row_of, row_numbered, records_at, numbered_at, records_of, octets_of, is_table}

-- An exchange's number gives it back, and a number from 0 to 9 is its exchange's.
exchange_back : (e : Exchange) → exchange_of (exchange_number e) ≡ e
unfolding exchange_of
exchange_back None = refl
exchange_back (Asked Authentication) = refl
exchange_back (Asked Association) = refl
exchange_back (Asked Reassociation) = refl
exchange_back (Awaiting Authentication) = refl
exchange_back (Awaiting Association) = refl
exchange_back (Awaiting Reassociation) = refl
exchange_back (Sent Authentication) = refl
exchange_back (Sent Association) = refl
exchange_back (Sent Reassociation) = refl

number_back : (n : ℕ) → n ≤ 9 → exchange_number (exchange_of n) ≡ n
unfolding exchange_of
number_back =
    by_number (λ n. n ≤ 9 → exchange_number (exchange_of n) ≡ n)
    (λ h. refl) (λ h. refl) (λ h. refl) (λ h. refl) (λ h. refl) (λ h. refl) (λ h. refl) (λ h. refl) (λ h. refl) (λ h. refl)
    (λ n m h. absurd (omega arith))

pub record_back : (p : Record) → record_of (row_of p) ≡ p
unfolding record_of row_of
record_back p = rw (exchange_back p.exchange, query_back p.query)

pub row_of_record : (r : Row) → row_numbered r ≡ true → row_of (record_of r) ≡ r
unfolding record_of row_of row_numbered
row_of_record r h =
    let e = both (query_numbered r.query r.remaining) _ h in
    let q = numbers_kept r.query r.remaining e.0 in
    rw (number_back r.exchange (leb-true r.exchange 9 e.1), q.0, q.1)

pub length_records : (n k : ℕ) (xs : List ℕ) → length (records_at n k xs) ≡ n
unfolding records_at
length_records zero k xs = refl
length_records (suc n) k xs = ap suc (length_records n (k + 48) xs)

-- The record at a place.
pub record_at : (n i k : ℕ) (xs : List ℕ) → i < n → get_or (records_at n k xs) i free_of ≡ record_of (row_at (k + 48 * i) xs)
unfolding records_at
record_at zero i k xs h = absurd (omega arith)
record_at (suc n) zero k xs h = rw add-zero
record_at (suc n) (suc i) k xs h =
    let e : k + 48 + 48 * i ≡ k + 48 * suc i = omega arith in
    record_at n i (k + 48) xs (omega arith) ∙ rw e

past_the_end : (n i k : ℕ) (xs : List ℕ) → n ≤ i → get_or (records_at n k xs) i free_of ≡ free_of
unfolding records_at
past_the_end zero i k xs h = refl
past_the_end (suc n) zero k xs h = absurd (omega arith)
past_the_end (suc n) (suc i) k xs h = past_the_end n i (k + 48) xs (omega arith)

pub at_place : (i : ℕ) (xs : List ℕ) → i < 32 → record_of (row_at (48 * i) xs) ≡ get_or (records_of xs) i free_of
at_place i xs h = sym (record_at 32 i 0 xs h ∙ rw zero-add)

pub no_place : (i : ℕ) (xs : List ℕ) → 32 ≤ i → free_of ≡ get_or (records_of xs) i free_of
no_place i xs h = sym (past_the_end 32 i 0 xs h)

-- The addresses, by the octets.
pub length_addresses : (xs : List ℕ) → length (addresses_of (records_of xs)) ≡ 32
length_addresses xs = length-map (records_of xs) (λ p. p.address) ∙ length_records 32 0 xs

pub address_at : (i : ℕ) (xs : List ℕ) → i < 32 → (row_at (48 * i) xs).address ≡ get_or (addresses_of (records_of xs)) i 0
unfolding record_of
address_at i xs h = ap (λ p. p.address) (at_place i xs h) ∙ sym (get_or-map (λ p. p.address) (records_of xs) i free_of)

-- The links, by the octets: of one place, and slot by slot of all.
pub slot_in : (i j : ℕ) (xs : List ℕ) → i < 32 → get_or (links_of (row_at (48 * i) xs).links) j 0 ≡ get_or (links_of (get_or (records_of xs) i free_of).links) j 0
unfolding record_of
slot_in i j xs h = ap (λ (p : Record). get_or (links_of p.links) j 0) (at_place i xs h)

pub length_slots : (xs : List ℕ) → length (link_addresses_of (records_of xs)) ≡ 128
length_slots xs = length_links (records_of xs) ∙ rw (length_records 32 0 xs)

pub slot_at : (k : ℕ) (xs : List ℕ) → k < 128 → get_or (links_of (row_at (48 * (k / 4)) xs).links) (k % 4) 0 ≡ get_or (link_addresses_of (records_of xs)) k 0
slot_at k xs h = slot_in (k / 4) (k % 4) xs (omega arith) ∙ sym (link_slot (records_of xs) k (rw (length_records 32 0 xs) h))

-- The numbers from one place on: its own, and those behind it.
pub numbered_step : (i : ℕ) (xs : List ℕ) → i < 32 → numbered_at (32 - i) (48 * i) xs ≡ (row_numbered (row_at (48 * i) xs) && numbered_at (32 - (i + 1)) (48 * (i + 1)) xs)
unfolding numbered_at
numbered_step i xs h =
    let m : 32 - i ≡ suc (32 - (i + 1)) = omega arith in
    let k : 48 * (i + 1) ≡ 48 * i + 48 = omega arith in
    rw (m, k)

pub numbered_end : (i : ℕ) (xs : List ℕ) → 32 ≤ i → numbered_at (32 - i) (48 * i) xs ≡ true
unfolding numbered_at
numbered_end i xs h =
    let m : 32 - i ≡ 0 = omega arith in
    rw m

pub numbered_row : (n i k : ℕ) (xs : List ℕ) → i < n → numbered_at n k xs ≡ true → row_numbered (row_at (k + 48 * i) xs) ≡ true
unfolding numbered_at
numbered_row zero i k xs h e = absurd (omega arith)
numbered_row (suc n) zero k xs h e = rw (add-zero) (and_left (row_numbered (row_at k xs)) (numbered_at n (k + 48) xs) e)
numbered_row (suc n) (suc i) k xs h e =
    let q : k + 48 + 48 * i ≡ k + 48 * suc i = omega arith in
    rw q at (numbered_row n i (k + 48) xs (omega arith) (and_right (row_numbered (row_at k xs)) (numbered_at n (k + 48) xs) e))

-- A place whose octets are all zero is free, and has a number.
pub blank_free : (i : ℕ) (xs : List ℕ) → i < 32 → blank_at (48 * i) xs ≡ true → get_or (records_of xs) i free_of ≡ free_of
unfolding record_of exchange_of query_of
blank_free i xs h e = sym (at_place i xs h) ∙ ap record_of (blank_row (48 * i) xs e)

pub blank_numbered : (i : ℕ) (xs : List ℕ) → i < 32 → blank_at (48 * i) xs ≡ true → numbered_at (32 - i) (48 * i) xs ≡ numbered_at (32 - (i + 1)) (48 * (i + 1)) xs
unfolding row_numbered query_numbered
blank_numbered i xs h e = numbered_step i xs h ∙ rw (blank_row (48 * i) xs e)

pub table_long : (xs : List ℕ) → is_table xs ≡ true → length xs ≡ 1536
unfolding is_table
table_long xs e = eqb-true (length xs) 1536 (and_left (eqb (length xs) 1536) (numbered_at 32 0 xs) e)

module _ (xs : List ℕ) (h : Octets xs) where
  -- Octets to records and back.
  pub octets_at : (n k : ℕ) → k + 48 * n ≤ length xs → numbered_at n k xs ≡ true → octets_of (records_at n k xs) ≡ take (48 * n) (drop k xs)
  unfolding records_at numbered_at octets_of
  octets_at zero k r e = refl
  octets_at (suc n) k r e =
      let m : 48 * suc n ≡ 48 + 48 * n = omega arith in
      rw (
        row_of_record (row_at k xs) (and_left (row_numbered (row_at k xs)) (numbered_at n (k + 48) xs) e),
        octets_back xs h k (omega arith),
        octets_at n (k + 48) (omega arith) (and_right (row_numbered (row_at k xs)) (numbered_at n (k + 48) xs) e),
        m,
        take-add,
        drop-drop,
      )

  pub octets_of_records : is_table xs ≡ true → octets_of (records_of xs) ≡ xs
  unfolding is_table
  octets_of_records e =
      let l : length xs ≡ 1536 = eqb-true (length xs) 1536 (and_left (eqb (length xs) 1536) (numbered_at 32 0 xs) e) in
      octets_at 32 0 (omega arith) (and_right (eqb (length xs) 1536) (numbered_at 32 0 xs) e) ∙ take_all 1536 xs (omega arith)
