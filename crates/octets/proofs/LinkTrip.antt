-- The links of a device: its slots as a list, and the 24 octets in which they cross. These are all zero where no slot has a link, and only
-- there.
-- Assumes nothing.
use mathlib.Core.Path.{◌≡◌, refl, ap}
use mathlib.Core.Bool.{true}
use mathlib.Core.List.{List}
use Prim.Native.Nat.{ℕ, zero, suc, ◌+◌, ◌*◌, ◌^◌, ◌<◌, ◌≤◌}
use native.Mathlib.Nat.{add-zero}
use native.Mathlib.Omega.{arith}
use borrow.Author.Tests.{eqb-true, eq-eqb}
use lib.Dec.{eqb}
use lib.ListN.{get_or}
use Rattle.octets.specs.Field.{field}
use Rattle.octets.specs.Links.{links_at, links_of, no_links, unlinked}
use Rattle.octets.specs.Row.{empty_at}
use Rattle.octets.specs.declared.links.Links.{Links}
use Rattle.octets.proofs.Branch.{and_left, and_right}
use Rattle.octets.proofs.Le.{at_place}

-- A link's number fits its octets.
pub record LinksFit (ls : Links) : Type 0 where
  pub one : ls.one < 2 ^ 48
  pub two : ls.two < 2 ^ 48
  pub three : ls.three < 2 ^ 48
  pub four : ls.four < 2 ^ 48

-- Each slot has its six octets; behind the last there is none.
pub slot : (k : ℕ) (xs : List ℕ) (j : ℕ) → j < 4 → field 6 (k + 6 * j) xs ≡ get_or (links_of (links_at k xs)) j 0
unfolding links_at
slot k xs zero h = rw add-zero
slot k xs (suc zero) h = refl
slot k xs (suc (suc zero)) h = refl
slot k xs (suc (suc (suc zero))) h = refl
slot k xs (suc (suc (suc (suc j)))) h = absurd (omega arith)

pub no_slot : (ls : Links) (j : ℕ) → 4 ≤ j → ◌≡◌ {A = ℕ} 0 (get_or (links_of ls) j 0)
no_slot ls zero h = absurd (omega arith)
no_slot ls (suc zero) h = absurd (omega arith)
no_slot ls (suc (suc zero)) h = absurd (omega arith)
no_slot ls (suc (suc (suc zero))) h = absurd (omega arith)
no_slot ls (suc (suc (suc (suc j)))) h = refl

pub unlinked_slot : (j : ℕ) → ◌≡◌ {A = ℕ} 0 (get_or (links_of unlinked) j 0)
unlinked_slot zero = refl
unlinked_slot (suc zero) = refl
unlinked_slot (suc (suc zero)) = refl
unlinked_slot (suc (suc (suc zero))) = refl
unlinked_slot (suc (suc (suc (suc j)))) = refl

pub unlinked_of : (ls : Links) → no_links ls ≡ true → ls ≡ unlinked
unfolding no_links
unlinked_of ls e =
    let r = and_right (eqb ls.one 0) _ e in
    let s = and_right (eqb ls.two 0) _ r in
    λ i. record {
      one = eqb-true ls.one 0 (and_left (eqb ls.one 0) _ e) i;
      two = eqb-true ls.two 0 (and_left (eqb ls.two 0) _ r) i;
      three = eqb-true ls.three 0 (and_left (eqb ls.three 0) _ s) i;
      four = eqb-true ls.four 0 (and_right (eqb ls.three 0) _ s) i;
    }

module _ (k : ℕ) (xs : List ℕ) where
  -- The 24 octets as three numbers of eight.
  pub record Empty : Type 0 where
    pub first : field 8 k xs ≡ 0
    pub second : field 8 (k + 8) xs ≡ 0
    pub third : field 8 (k + 16) xs ≡ 0

  pub of_empty : empty_at k xs ≡ true → Empty
  unfolding empty_at
  of_empty e =
      let r = and_right (eqb (field 8 k xs) 0) _ e in
      record {
        first = eqb-true (field 8 k xs) 0 (and_left (eqb (field 8 k xs) 0) _ e);
        second = eqb-true (field 8 (k + 8) xs) 0 (and_left (eqb (field 8 (k + 8) xs) 0) _ r);
        third = eqb-true (field 8 (k + 16) xs) 0 (and_right (eqb (field 8 (k + 8) xs) 0) _ r);
      }

  pub to_empty : Empty → empty_at k xs ≡ true
  unfolding empty_at
  to_empty z = rw (eq-eqb (field 8 k xs) 0 z.first, eq-eqb (field 8 (k + 8) xs) 0 z.second, eq-eqb (field 8 (k + 16) xs) 0 z.third)

  -- A number of eight octets ends within a link, and a link within such a number.
  a : field 8 k xs ≡ field 6 k xs + 256 ^ 6 * field 2 (k + 6) xs
  a = at_place 6 2 k (k + 6) xs refl

  two : field 6 (k + 6) xs ≡ field 2 (k + 6) xs + 256 ^ 2 * field 4 (k + 8) xs
  two = at_place 2 4 (k + 6) (k + 8) xs (omega arith)

  b : field 8 (k + 8) xs ≡ field 4 (k + 8) xs + 256 ^ 4 * field 4 (k + 12) xs
  b = at_place 4 4 (k + 8) (k + 12) xs (omega arith)

  three : field 6 (k + 12) xs ≡ field 4 (k + 12) xs + 256 ^ 4 * field 2 (k + 16) xs
  three = at_place 4 2 (k + 12) (k + 16) xs (omega arith)

  d : field 8 (k + 16) xs ≡ field 2 (k + 16) xs + 256 ^ 2 * field 6 (k + 18) xs
  d = at_place 2 6 (k + 16) (k + 18) xs (omega arith)

  pub empty_links : empty_at k xs ≡ true → links_at k xs ≡ unlinked
  unfolding links_at
  empty_links e =
      let z = of_empty e in
      let p : field 6 k xs ≡ 0 = omega (arith, a, z.first) in
      let q : field 6 (k + 6) xs ≡ 0 = omega (arith, a, two, b, z.first, z.second) in
      let r : field 6 (k + 12) xs ≡ 0 = omega (arith, b, three, d, z.second, z.third) in
      let s : field 6 (k + 18) xs ≡ 0 = omega (arith, d, z.third) in
      λ i. record { one = p i; two = q i; three = r i; four = s i }

  pub links_empty : links_at k xs ≡ unlinked → empty_at k xs ≡ true
  unfolding links_at
  links_empty e =
      let p : field 6 k xs ≡ 0 = ap (λ w. w.one) e in
      let q : field 6 (k + 6) xs ≡ 0 = ap (λ w. w.two) e in
      let r : field 6 (k + 12) xs ≡ 0 = ap (λ w. w.three) e in
      let s : field 6 (k + 18) xs ≡ 0 = ap (λ w. w.four) e in
      to_empty
      (record { first = omega (arith, a, two, p, q); second = omega (arith, b, two, three, q, r); third = omega (arith, d, three, r, s) })
