-- To store a row's head where its links stand already is to store the row (`head_row`).
-- Assumes nothing.
use mathlib.Core.Path.{◌≡◌, refl, ap, sym, ◌∙◌}
use mathlib.Core.List.{List, ◌++◌, append_assoc}
use Prim.Native.Nat.{ℕ, ◌+◌, ◌≤◌}
use native.Mathlib.Omega.{arith}
use borrow.Author.Tests.{leb-true}
use lib.Dec.{leb}
use lib.ListN.{length, take, drop, take-append-drop}
use lib.Seq.{sets, sets-eq, drop-drop}
use Rattle.octets.specs.Field.{octets}
use Rattle.octets.specs.Links.{link_octets}
use Rattle.octets.specs.Row.{head_in, head_octets, query_octets, row_in, row_octets}
use Rattle.octets.specs.declared.row.Row.{Row}
use Rattle.octets.proofs.Branch.{by_bool}

length_head : (r : Row) → length (head_octets r) ≡ 24
unfolding head_octets query_octets octets
length_head r = refl

pub length_row : (r : Row) → length (row_octets r) ≡ 48
unfolding row_octets head_octets query_octets link_octets octets
length_row r = refl

module _ (k : ℕ) (r : Row) (xs : List ℕ) (there : take 24 (drop (k + 24) xs) ≡ link_octets r.links) where
  with_room : k + 48 ≤ length xs → sets xs k (head_octets r) ≡ sets xs k (row_octets r)
  unfolding row_octets
  with_room h =
      let head : sets xs k (head_octets r) ≡ take k xs ++ head_octets r ++ drop (k + 24) xs = sets-eq (head_octets r) xs k (rw (length_head r) (omega arith)) ∙ rw (length_head r) in
      let row : sets xs k (row_octets r) ≡ take k xs ++ row_octets r ++ drop (k + 48) xs = sets-eq (row_octets r) xs k (rw (length_row r) h) ∙ rw (length_row r) in
      let e : k + 24 + 24 ≡ k + 48 = omega arith in
      let rest : drop (k + 24) xs ≡ link_octets r.links ++ drop (k + 48) xs = sym (take-append-drop 24 (drop (k + 24) xs)) ∙ rw (there, drop-drop 24 (k + 24) xs, e) in
      let l = link_octets r.links in
      let d = drop (k + 48) xs in
      let apart : take k xs ++ head_octets r ++ (l ++ d) ≡ take k xs ++ (head_octets r ++ (l ++ d)) = append_assoc (take k xs) (head_octets r) (l ++ d) in
      let joined : take k xs ++ (head_octets r ++ l) ++ d ≡ take k xs ++ (head_octets r ++ (l ++ d)) = append_assoc (take k xs) (head_octets r ++ l) d ∙ ap (λ z. take k xs ++ z) (append_assoc (head_octets r) l d) in
      head ∙ ap (λ z. take k xs ++ head_octets r ++ z) rest ∙ apart ∙ sym joined ∙ sym row

  pub head_row : head_in k r xs ≡ row_in k r xs
  unfolding head_in row_in
  head_row = by_bool (leb (k + 48) (length xs)) (λ e. rw e (with_room (leb-true (k + 48) (length xs) e))) (λ e. rw e)
