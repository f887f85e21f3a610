-- What octets, each below 256, bound: a field of n octets is below 256 ^ n (`field_below`), so a comeback is below 2 ^ 32
-- (`comeback_below`), and each field of what is heard fits (`heard_fits`).
-- Assumes nothing.
use Rattle.std.specs.Prelude.{Some}
use Prim.Native.Nat.{ℕ, zero, suc, ◌<◌, ◌^◌}
use mathlib.Core.Path.{◌≡◌, refl}
use mathlib.Core.Bool.{true}
use mathlib.Core.List.{List, [], ◌∷◌}
use native.Mathlib.Nat.{pow-suc}
use native.Mathlib.Omega.{arith}
use lib.Dec.{ltb, leb, eqb}
use lib.ListN.{length, take, drop}
use borrow.Author.Tests.{ltb-true}
use Rattle.octets.specs.Field.{le, field, all_octets, type_of, subtype_of}
use Rattle.octets.specs.Element.{walk, wanted_at, comeback_of}
use Rattle.octets.specs.Heard.{heard_of, management_of, query_of, response_of, authentication_of}
use Rattle.octets.specs.Read.{ComebackFits, HeardFits}
use Rattle.octets.specs.declared.heard.Kind.{Kind}
use Rattle.octets.proofs.Branch.{and_left, and_right, pick_both}

first_below : (x : ℕ) (xs : List ℕ) → all_octets (x ∷ xs) ≡ true → x < 256
first_below x xs h = ltb-true x 256 (and_left (ltb x 256) (all_octets xs) h)

rest_octets : (x : ℕ) (xs : List ℕ) → all_octets (x ∷ xs) ≡ true → all_octets xs ≡ true
rest_octets x xs h = and_right (ltb x 256) (all_octets xs) h

pub drop_octets : (k : ℕ) (xs : List ℕ) → all_octets xs ≡ true → all_octets (drop k xs) ≡ true
drop_octets zero xs h = h
drop_octets (suc k) [] h = refl
drop_octets (suc k) (x ∷ xs) h = drop_octets k xs (rest_octets x xs h)

above_zero : (n : ℕ) → 0 < 256 ^ n
above_zero zero = omega arith
above_zero (suc n) = let z : 0 < 256 ^ n = above_zero n in rw pow-suc (omega arith)

le_below : (n : ℕ) (xs : List ℕ) → all_octets xs ≡ true → le (take n xs) < 256 ^ n
le_below zero xs h = omega arith
le_below (suc n) [] h = above_zero (suc n)
le_below (suc n) (x ∷ xs) h =
    let low : x < 256 = first_below x xs h in
    let rest : le (take n xs) < 256 ^ n = le_below n xs (rest_octets x xs h) in
    rw pow-suc (omega arith)

pub field_below : (n k : ℕ) (xs : List ℕ) → all_octets xs ≡ true → field n k xs < 256 ^ n
field_below n k xs h = le_below n (drop k xs) (drop_octets k xs h)

walk_below : (xs : List ℕ) (k : ℕ) → all_octets xs ≡ true → ComebackFits (walk xs k)
unfolding walk
walk_below [] k h = tt
walk_below (x ∷ xs) (suc k) h = walk_below xs k (rest_octets x xs h)
walk_below (x ∷ []) zero h = tt
walk_below (x ∷ n ∷ rest) zero h =
    let r = rest_octets n rest (rest_octets x (n ∷ rest) h) in
    pick_both ComebackFits (leb n (length rest))
    (pick_both ComebackFits (wanted_at (x ∷ n ∷ rest) n) (field_below 4 1 rest r) (walk_below rest n r))
    tt

pub comeback_below : (xs : List ℕ) → all_octets xs ≡ true → (tu : ℕ) → comeback_of xs ≡ Some tu → tu < 2 ^ 32
comeback_below xs h tu e = rw e at (walk_below (drop 30 xs) 0 (drop_octets 30 xs h))

module _ (xs : List ℕ) (h : all_octets xs ≡ true) where
  response_fits : (k : Kind) → HeardFits (response_of xs k)
  unfolding response_of
  response_fits k = (field_below 2 26 xs h, omega arith, walk_below (drop 30 xs) 0 (drop_octets 30 xs h))

  authentication_fits : HeardFits (authentication_of xs)
  unfolding authentication_of
  authentication_fits = (field_below 2 24 xs h, field_below 2 26 xs h, field_below 2 28 xs h)

  query_fits_lem : HeardFits (query_of xs)
  unfolding query_of
  query_fits_lem =
      pick_both HeardFits (ltb (length xs) 28) tt
      (pick_both HeardFits (eqb (field 1 24 xs) 8)
      (pick_both HeardFits (eqb (field 1 25 xs) 0) (field_below 2 26 xs h)
      (pick_both HeardFits (eqb (field 1 25 xs) 1) (field_below 2 26 xs h) tt)) tt)

  management_fits : (s : ℕ) → HeardFits (management_of xs s)
  management_fits s =
      pick_both HeardFits (eqb s 0) (omega arith)
      (pick_both HeardFits (eqb s 1) (response_fits _)
      (pick_both HeardFits (eqb s 2) (field_below 6 28 xs h)
      (pick_both HeardFits (eqb s 3) (response_fits _)
      (pick_both HeardFits (eqb s 10) (field_below 2 24 xs h)
      (pick_both HeardFits (eqb s 11) authentication_fits
      (pick_both HeardFits (eqb s 12) (field_below 2 24 xs h)
      (pick_both HeardFits (eqb s 13) query_fits_lem tt)))))))

  pub heard_fits : HeardFits (heard_of xs)
  unfolding heard_of
  heard_fits = pick_both HeardFits (eqb (type_of (field 1 0 xs)) 0) (management_fits (subtype_of (field 1 0 xs))) tt
