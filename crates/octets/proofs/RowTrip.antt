-- A row and its octets are one another's inverse: a row's octets give it back where its numbers fit (`row_back`), and the row of 48 octets
-- gives them back (`octets_back`).
-- Assumes nothing.
use mathlib.Core.Path.{◌≡◌, refl, ap, sym, ◌∙◌}
use mathlib.Core.List.{List, [], ◌∷◌, ◌++◌}
use Prim.Native.Nat.{ℕ, zero, suc, ◌+◌, ◌*◌, ◌^◌, ◌/◌, ◌%◌, ◌<◌, ◌≤◌}
use native.Mathlib.Omega.{arith}
use mathlib.Core.Bool.{true}
use borrow.Author.Tests.{le-leb}
use lib.Dec.{leb}
use lib.ListN.{length, get_or, take, drop, length-drop}
use lib.Seq.{length-take-le, get_or-drop, take-add, drop-drop, drop-cons}
use Rattle.octets.specs.Field.{le, octets, field}
use Rattle.octets.specs.Links.{link_octets, links_at, no_links, unlinked}
use Rattle.octets.specs.Row.{blank_at, empty_at, head_octets, linkless_at, no_row, query_octets, row_at, row_octets}
use Rattle.octets.specs.declared.row.Row.{Row}
use Rattle.octets.proofs.Le.{at_place, le_octets, le_one}
use Rattle.octets.proofs.LinkTrip.{LinksFit, empty_links, links_empty, of_empty, to_empty, unlinked_of}
use Rattle.octets.proofs.Branch.{and_left, and_right}

-- Each element is an octet.
abbrev pub Octets : List ℕ → Type 0
Octets xs = (i : ℕ) → get_or xs i 0 < 256

octets_of_drop : (n : ℕ) (xs : List ℕ) → Octets xs → Octets (drop n xs)
octets_of_drop n xs h i = rw (get_or-drop n xs i 0) (h (n + i))

octets_of_take : (n : ℕ) (xs : List ℕ) → Octets xs → Octets (take n xs)
octets_of_take zero xs h i = omega arith
octets_of_take (suc n) [] h i = omega arith
octets_of_take (suc n) (x ∷ xs) h zero = h zero
octets_of_take (suc n) (x ∷ xs) h (suc i) = octets_of_take n xs (λ j. h (suc j)) i

-- The number of octets, as octets again.
octets_le : (xs : List ℕ) → Octets xs → octets (length xs) (le xs) ≡ xs
unfolding octets
octets_le [] h = refl
octets_le (x ∷ xs) h =
    let x<256 : x < 256 = h zero in
    let low : (x + 256 * le xs) % 256 ≡ x = omega arith in
    let high : (x + 256 * le xs) / 256 ≡ le xs = omega arith in
    rw (low, high, octets_le xs (λ i. h (suc i)))

module _ (xs : List ℕ) (h : Octets xs) where
  field_octets : (n k : ℕ) → k + n ≤ length xs → octets n (field n k xs) ≡ take n (drop k xs)
  field_octets n k r =
      let l : length (take n (drop k xs)) ≡ n = length-take-le n (drop k xs) (simp length-drop (omega arith)) in
      ap (λ m. octets m (field n k xs)) (sym l) ∙ octets_le (take n (drop k xs)) (octets_of_take n (drop k xs) (octets_of_drop k xs h))

  one_octet : (k : ℕ) → k < length xs → (field 1 k xs ∷ []) ≡ take 1 (drop k xs)
  one_octet k r = rw (← le_one xs k r, drop-cons xs k 0 r)

  -- n octets from k on, and then m from j on
  split : (n m k j : ℕ) → k + n ≡ j → take (n + m) (drop k xs) ≡ take n (drop k xs) ++ take m (drop j xs)
  split n m k j e = rw (take-add n m (drop k xs), drop-drop n k xs, e)

  -- one field of n octets at k, and what stands from j on
  then_field : (n m k j : ℕ) → k + n ≡ j → j + m ≤ length xs → {rest : List ℕ} → rest ≡ take m (drop j xs) → octets n (field n k xs) ++ rest ≡ take (n + m) (drop k xs)
  then_field n m k j e r {rest} q = rw (q, field_octets n k (omega (arith, e, r))) (sym (split n m k j e))

  then_octet : (m k j : ℕ) → k + 1 ≡ j → j + m ≤ length xs → {rest : List ℕ} → rest ≡ take m (drop j xs) → field 1 k xs ∷ rest ≡ take (1 + m) (drop k xs)
  then_octet m k j e r {rest} q = ap (λ z. z ++ rest) (one_octet k (omega (arith, e, r))) ∙ rw q (sym (split 1 m k j e))

  -- the 24 octets of a row's links
  pub links_back : (k : ℕ) → k + 24 ≤ length xs → link_octets (links_at k xs) ≡ take 24 (drop k xs)
  unfolding link_octets links_at octets
  links_back k r =
      then_field 6 18 k (k + 6) refl (omega (arith, r))
      (then_field 6 12 (k + 6) (k + 12) (omega arith) (omega (arith, r))
      (then_field 6 6 (k + 12) (k + 18) (omega arith) (omega (arith, r))
      (field_octets 6 (k + 18) (omega (arith, r)))))

  pub octets_back : (k : ℕ) → k + 48 ≤ length xs → row_octets (row_at k xs) ≡ take 48 (drop k xs)
  unfolding row_at row_octets head_octets query_octets octets
  octets_back k r =
      rw (le-leb (k + 48) (length xs) r)
      (then_field 8 40 k (k + 8) refl (omega (arith, r))
      (then_field 4 36 (k + 8) (k + 12) (omega arith) (omega (arith, r))
      (then_field 2 34 (k + 12) (k + 14) (omega arith) (omega (arith, r))
      (then_octet 33 (k + 14) (k + 15) (omega arith) (omega (arith, r))
      (then_octet 32 (k + 15) (k + 16) (omega arith) (omega (arith, r))
      (then_field 2 30 (k + 16) (k + 18) (omega arith) (omega (arith, r))
      (then_field 2 28 (k + 18) (k + 20) (omega arith) (omega (arith, r))
      (then_field 4 24 (k + 20) (k + 24) (omega arith) (omega (arith, r))
      (links_back (k + 24) (omega (arith, r)))))))))))

-- A row's numbers fit their octets.
pub record RowFits (r : Row) : Type 0 where
  pub address : r.address < 2 ^ 64
  pub hold : r.hold < 2 ^ 32
  pub left : r.left < 2 ^ 16
  pub identifier : r.identifier < 2 ^ 16
  pub remaining : r.remaining < 2 ^ 16
  pub query : r.query < 2 ^ 32
  pub links : LinksFit r.links

pub row_back : (r : Row) (ys : List ℕ) → RowFits r → row_at 0 (row_octets r ++ ys) ≡ r
unfolding row_at row_octets head_octets query_octets link_octets links_at octets
row_back r ys h =
    rw (le-leb 48 (length (row_octets r ++ ys)) (omega arith))
    (λ i. record {
      address = le_octets 8 r.address h.address i;
      hold = le_octets 4 r.hold h.hold i;
      left = le_octets 2 r.left h.left i;
      state = one r.state i;
      exchange = one r.exchange i;
      identifier = le_octets 2 r.identifier h.identifier i;
      remaining = le_octets 2 r.remaining h.remaining i;
      query = le_octets 4 r.query h.query i;
      links = record {
        one = le_octets 6 r.links.one h.links.one i;
        two = le_octets 6 r.links.two h.links.two i;
        three = le_octets 6 r.links.three h.links.three i;
        four = le_octets 6 r.links.four h.links.four i;
      };
    })
  where
    one : (x : ℕ) → le (x ∷ []) ≡ x
    one x = omega arith

-- A row is all zero where its octets are, and only there; it has no link where the later 24 are.
module _ (k : ℕ) (xs : List ℕ) where
  s4 : field 8 (k + 8) xs ≡ field 4 (k + 8) xs + 256 ^ 4 * field 4 (k + 12) xs
  s4 = at_place 4 4 (k + 8) (k + 12) xs (omega arith)

  s2 : field 4 (k + 12) xs ≡ field 2 (k + 12) xs + 256 ^ 2 * field 2 (k + 14) xs
  s2 = at_place 2 2 (k + 12) (k + 14) xs (omega arith)

  s1 : field 2 (k + 14) xs ≡ field 1 (k + 14) xs + 256 ^ 1 * field 1 (k + 15) xs
  s1 = at_place 1 1 (k + 14) (k + 15) xs (omega arith)

  q4 : field 8 (k + 16) xs ≡ field 4 (k + 16) xs + 256 ^ 4 * field 4 (k + 20) xs
  q4 = at_place 4 4 (k + 16) (k + 20) xs (omega arith)

  q2 : field 4 (k + 16) xs ≡ field 2 (k + 16) xs + 256 ^ 2 * field 2 (k + 18) xs
  q2 = at_place 2 2 (k + 16) (k + 18) xs (omega arith)

  zero_of : (x : ℕ) → x ≡ 0 → x ≡ 0
  zero_of x q = q

  pub blank_row : blank_at k xs ≡ true → row_at k xs ≡ no_row
  unfolding blank_at row_at
  blank_row e =
      let r = and_left (leb (k + 48) (length xs)) _ e in
      let z = and_right (leb (k + 48) (length xs)) _ e in
      let y = of_empty k xs (and_left (empty_at k xs) _ z) in
      let l = empty_links (k + 24) xs (and_right (empty_at k xs) _ z) in
      let b = y.second in
      let d = y.third in
      rw (r, y.first, zero_of (field 4 (k + 8) xs) (omega (arith, b, s4)), zero_of (field 2 (k + 12) xs) (omega (arith, b, s4, s2)), zero_of (field 1 (k + 14) xs) (omega (arith, b, s4, s2, s1)), zero_of (field 1 (k + 15) xs) (omega (arith, b, s4, s2, s1)), zero_of (field 2 (k + 16) xs) (omega (arith, d, q4, q2)), zero_of (field 2 (k + 18) xs) (omega (arith, d, q4, q2)), zero_of (field 4 (k + 20) xs) (omega (arith, d, q4)), l)

  pub row_blank : k + 48 ≤ length xs → row_at k xs ≡ no_row → blank_at k xs ≡ true
  unfolding blank_at row_at
  row_blank h e =
      let r = le-leb (k + 48) (length xs) h in
      let q = rw r at e in
      let a : field 8 k xs ≡ 0 = ap (λ w. w.address) q in
      let b4 : field 4 (k + 8) xs ≡ 0 = ap (λ w. w.hold) q in
      let b2 : field 2 (k + 12) xs ≡ 0 = ap (λ w. w.left) q in
      let b1 : field 1 (k + 14) xs ≡ 0 = ap (λ w. w.state) q in
      let b0 : field 1 (k + 15) xs ≡ 0 = ap (λ w. w.exchange) q in
      let d2 : field 2 (k + 16) xs ≡ 0 = ap (λ w. w.identifier) q in
      let d1 : field 2 (k + 18) xs ≡ 0 = ap (λ w. w.remaining) q in
      let d0 : field 4 (k + 20) xs ≡ 0 = ap (λ w. w.query) q in
      let l : links_at (k + 24) xs ≡ unlinked = ap (λ w. w.links) q in
      let y = to_empty k xs (record { first = a; second = omega (arith, s4, s2, s1, b4, b2, b1, b0); third = omega (arith, q4, q2, d2, d1, d0) }) in
      rw (r, y, links_empty (k + 24) xs l)

  pub linkless_row : linkless_at k xs ≡ true → (row_at k xs).links ≡ unlinked
  unfolding linkless_at row_at
  linkless_row e =
      rw (and_left (leb (k + 48) (length xs)) _ e)
      (empty_links (k + 24) xs (and_right (leb (k + 48) (length xs)) _ e))

  pub row_linkless : k + 48 ≤ length xs → no_links (row_at k xs).links ≡ true → linkless_at k xs ≡ true
  unfolding linkless_at row_at
  row_linkless h e =
      let r = le-leb (k + 48) (length xs) h in
      rw (r, links_empty (k + 24) xs (unlinked_of (links_at (k + 24) xs) (rw r at e)))
