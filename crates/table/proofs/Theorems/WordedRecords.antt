-- Whether some record of the table passes a test, as specs/Exactly.antt words the refusals of a primitive: by the place of the peer's record,
-- by counting, and by the record in State 3 or 4.
-- Assumes nothing.
use Prim.Native.Nat.{ℕ, zero, suc, ◌+◌, ◌≤◌}
use mathlib.Core.Path.{◌≡◌, refl, sym}
use mathlib.Core.Bool.{Bool, true, false, not, ◌&&◌, ◌||◌, and-false, or-false}
use mathlib.Core.List.{List, [], ◌∷◌}
use native.Mathlib.Omega.{arith}
use lib.Dec.{eqb, ltb}
use lib.ListN.{get_or}
use borrow.Author.Tests.{eqb-true, eqb-false, eq-eqb, lt-ltb, not-true}
use Rattle.octets.proofs.Branch.{and_left, by_bool}
use Rattle.octets.specs.Address.{valid_of}
use Rattle.peer.proofs.Fits.{both, wrong, clash, fits_of}
use Rattle.peer.specs.Fit.{place_fits}
use Rattle.peer.specs.Record.{free_of, is_free, is_joined}
use Rattle.peer.specs.declared.record.Record.{Record}
use Rattle.peer.specs.declared.settings.Settings.{Settings}
use Rattle.table.specs.Exactly.{peer_has, other_has}
use Rattle.table.specs.Fit.{alone_in, apart, distinct_of}
use Rattle.table.specs.Others.{associated_of}
use Rattle.table.specs.Places.{addresses_of, all_tails, all_of, count_of, first_from, on_found, some_of}

-- ---- some record of a list

pub some_none : (a : ℕ) (f : Record → Bool) (t : List Record) → all_of (λ b. not (eqb b a)) (addresses_of t) ≡ true → peer_has t a f ≡ false
unfolding some_of all_tails
some_none a f [] h = refl
some_none a f (p ∷ ps) h =
    let b = both (not (eqb p.address a)) _ h in
    rw (not-true (eqb p.address a) b.0) (some_none a f ps b.1)

-- in a list without an address twice, the record that has it is the one
pub some_at :
    (a : ℕ) (f : Record → Bool) → eqb a 0 ≡ false → (t : List Record) (i : ℕ) → distinct_of (addresses_of t) ≡ true → (get_or t i free_of).address ≡ a
    → peer_has t a f ≡ f (get_or t i free_of)
unfolding some_of all_tails alone_in
some_at a f z [] i d e = absurd (eqb-false a 0 z (sym e))
some_at a f z (p ∷ ps) zero d e =
    let alone : alone_in p.address (addresses_of ps) ≡ true = (both (alone_in p.address (addresses_of ps)) _ d).0 in
    let here : (eqb a 0 || all_of (apart a) (addresses_of ps)) ≡ true = rw e at alone in
    rw (eq-eqb p.address a e, some_none a f ps (rw z at here)) (or-false (f p))
some_at a f z (p ∷ ps) (suc i) d e = by_bool (eqb p.address a)
    (λ b.
    let same : p.address ≡ a = eqb-true p.address a b in
    let alone : alone_in p.address (addresses_of ps) ≡ true = (both (alone_in p.address (addresses_of ps)) _ d).0 in
    let here : (eqb a 0 || all_of (apart a) (addresses_of ps)) ≡ true = rw same at alone in
    let gone : peer_has ps a (λ q. true) ≡ false = some_none a (λ q. true) ps (rw z at here) in
    let there : peer_has ps a (λ q. true) ≡ true = some_at a (λ q. true) z ps i (both (alone_in p.address (addresses_of ps)) _ d).1 e in
    clash there gone)
    (λ b. rw b (some_at a f z ps i (both (alone_in p.address (addresses_of ps)) _ d).1 e))

pub some_count : (f : Record → Bool) (t : List Record) → some_of f t ≡ ltb 0 (count_of f t)
unfolding some_of count_of
some_count f [] = refl
some_count f (p ∷ ps) = by_bool (f p)
    (λ e. rw e (sym (lt-ltb 0 (1 + count_of f ps) (omega arith))))
    (λ e. let n : 0 + count_of f ps ≡ count_of f ps = omega arith in rw (e, n) (some_count f ps))

-- ---- the record in State 3 or 4, of which a station has one at most

joined_address : (s : Settings) (p : Record) → place_fits s p ≡ true → is_joined p ≡ true → eqb p.address 0 ≡ false
unfolding place_fits is_free is_joined valid_of
joined_address s p h j = by_bool (eqb p.address 0)
    (λ z. by_bool (eqb p.state 0)
    (λ e. wrong (rw (eqb-true p.state 0 e) at j))
    (λ e. wrong (rw z at (fits_of s p (rw (z, e) at h)).valid)))
    (λ z. z)

other_none : (a : ℕ) (t : List Record) → count_of is_joined t ≡ 0 → other_has t a is_joined ≡ false
unfolding some_of count_of
other_none a [] h = refl
other_none a (p ∷ ps) h = by_bool (is_joined p)
    (λ e. let n : 1 + count_of is_joined ps ≡ 0 = rw e at h in absurd (omega arith))
    (λ e. let n : 0 + count_of is_joined ps ≡ 0 = rw e at h in rw (e, and-false (not (eqb p.address a))) (other_none a ps (omega arith)))

pub other_same :
    (s : Settings) (a : ℕ) (t : List Record) → all_of (place_fits s) t ≡ true → count_of is_joined t ≤ 1
    → other_has t a is_joined ≡ (not (eqb (associated_of t) 0) && not (eqb (associated_of t) a))
unfolding some_of count_of associated_of all_tails
other_same s a [] h n = refl
other_same s a (p ∷ ps) h n = by_bool (is_joined p)
    (λ e.
    let few : 1 + count_of is_joined ps ≤ 1 = rw e at n in
    let z = joined_address s p (both (place_fits s p) _ h).0 e in
    rw (e, other_none a ps (omega arith), z) (trim (not (eqb p.address a))))
    (λ e.
    let few : 0 + count_of is_joined ps ≤ 1 = rw e at n in
    rw (e, and-false (not (eqb p.address a))) (other_same s a ps (both (place_fits s p) _ h).1 (omega arith)))
  where
    trim : (b : Bool) → ((b && true) || false) ≡ b
    trim true = refl
    trim false = refl

-- ---- a free place is one with address 0

free_zero : (p : Record) → is_free p ≡ true → eqb p.address 0 ≡ true
unfolding is_free
free_zero p e = and_left (eqb p.address 0) _ e

-- an address that is valid is not 0
pub valid_named : (a : ℕ) → valid_of a ≡ true → eqb a 0 ≡ false
unfolding valid_of
valid_named a v = not-true (eqb a 0) (and_left (not (eqb a 0)) _ v)

pub free_address : (s : Settings) (p : Record) → place_fits s p ≡ true → is_free p ≡ eqb p.address 0
unfolding place_fits
free_address s p h = by_bool (is_free p)
    (λ e. rw (e, free_zero p e))
    (λ e. rw (e, valid_named p.address (fits_of s p (rw e at h)).valid))

pub some_free : (s : Settings) (t : List Record) (n : ℕ) → all_of (place_fits s) t ≡ true → some_of is_free t ≡ on_found (first_from (λ b. eqb b 0) n (addresses_of t)) false (λ i. true)
unfolding some_of all_tails first_from
some_free s [] n h = refl
some_free s (p ∷ ps) n h =
    let k = both (place_fits s p) _ h in
    rw (free_address s p k.0) (by_bool (eqb p.address 0) (λ z. rw z) (λ z. rw z (some_free s ps (n + 1) k.1)))
