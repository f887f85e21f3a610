-- The rows of two tables, place by place: a row of the same octets is the same record, and of two tables one place a turn is shown.
-- Assumes nothing.
use Prim.Native.Nat.{ℕ, zero, suc, ◌+◌, ◌*◌, ◌≤◌, ◌<◌}
use mathlib.Core.Path.{◌≡◌, refl, sym, ap, ◌∙◌}
use mathlib.Core.Bool.{true}
use mathlib.Core.List.{List, [], ◌∷◌}
use native.Mathlib.Numerals.{add-one}
use native.Mathlib.Omega.{arith}
use lib.Dec.{eqb}
use lib.ListN.{length, get_or, drop, take, length-drop, drop_of_length-le}
use lib.Seq.{drop-cons, drop-drop, get_or-drop, length-take-le, take-suc, take-take}
use borrow.Author.Tests.{eq-eqb, le-leb}
use Rattle.octets.specs.Links.{links_at}
use Rattle.octets.specs.Row.{row_at}
use Rattle.peer.specs.Record.{free_of}
use Rattle.peer.specs.declared.record.Record.{Record}
use Rattle.table.proofs.Octets.RowLaws.{at_place}
use Rattle.table.specs.Rows.{record_of, records_of}
use Rattle.bench.specs.Changes.{changed_lines, moved_lines, same_links, same_query, same_record, same_times}
use Rattle.bench.specs.Output.{Output, put_all}
use Rattle.bench.proofs.Outputs.{all_behind}

-- one octet more that is the same in both
pub alike_step : (a b : List ℕ) (at j : ℕ) → at + 48 ≤ length a → at + 48 ≤ length b → j < 48 → get_or a (at + j) 0 ≡ get_or b (at + j) 0 →
    take j (drop at a) ≡ take j (drop at b) → take (j + 1) (drop at a) ≡ take (j + 1) (drop at b)
alike_step a b at j h k l e s =
    let x : j < length (drop at a) = simp length-drop (omega arith) in
    let y : j < length (drop at b) = simp length-drop (omega arith) in
    rw (add-one j, take-suc (drop at a) j 0 x, take-suc (drop at b) j 0 y, get_or-drop at a j 0, get_or-drop at b j 0, e, s)

-- n octets at j of the first m
within : (j n m : ℕ) (xs : List ℕ) → j + n ≤ m → take n (drop j (take m xs)) ≡ take n (drop j xs)
within zero n m xs h = take-take n m xs (omega arith)
within (suc j) n zero xs h = absurd (omega arith)
within (suc j) n (suc m) [] h = refl
within (suc j) n (suc m) (x ∷ xs) h = within j n m xs (omega arith)

-- .. of those that stand from k on
part : (k j n : ℕ) (xs : List ℕ) → j + n ≤ 48 → take n (drop j (take 48 (drop k xs))) ≡ take n (drop (k + j) xs)
part k j n xs h = within j n 48 (drop k xs) h ∙ ap (take n) (drop-drop j k xs)

-- A row is what its 48 octets say.
links_octets : (k : ℕ) (xs : List ℕ) → links_at (k + 24) xs ≡ links_at 24 (take 48 (drop k xs))
unfolding links_at
links_octets k xs =
    let b : k + 24 + 6 ≡ k + 30 = omega arith in
    let c : k + 24 + 12 ≡ k + 36 = omega arith in
    let d : k + 24 + 18 ≡ k + 42 = omega arith in
    rw (b, c, d, part k 24 6 xs (omega arith), part k 30 6 xs (omega arith), part k 36 6 xs (omega arith), part k 42 6 xs (omega arith))

row_octets_lem : (k : ℕ) (xs : List ℕ) → k + 48 ≤ length xs → row_at k xs ≡ row_at 0 (take 48 (drop k xs))
unfolding row_at
row_octets_lem k xs h =
    let l : length (take 48 (drop k xs)) ≡ 48 = length-take-le 48 (drop k xs) (simp length-drop (omega arith)) in
    let first : take 8 (take 48 (drop k xs)) ≡ take 8 (drop k xs) = take-take 8 48 (drop k xs) (omega arith) in
    rw (
      le-leb (k + 48) (length xs) h,
      le-leb (0 + 48) (length (take 48 (drop k xs))) (omega arith),
      first,
      part k 8 4 xs (omega arith),
      part k 12 2 xs (omega arith),
      part k 14 1 xs (omega arith),
      part k 15 1 xs (omega arith),
      part k 16 2 xs (omega arith),
      part k 18 2 xs (omega arith),
      part k 20 4 xs (omega arith),
      links_octets k xs,
    )

pub same_octets : (a b : List ℕ) (i : ℕ) → i < 32 → length a ≡ 1536 → length b ≡ 1536 → take 48 (drop (48 * i) a) ≡ take 48 (drop (48 * i) b) →
    get_or (records_of a) i free_of ≡ get_or (records_of b) i free_of
same_octets a b i h l m e =
    let r : row_at (48 * i) a ≡ row_at (48 * i) b =
    row_octets_lem (48 * i) a (omega arith) ∙ (ap (row_at 0) e ∙ sym (row_octets_lem (48 * i) b (omega arith))) in
    sym (at_place i a h) ∙ (ap record_of r ∙ at_place i b h)

-- a record that stayed, which is not shown
eqb_same : (n : ℕ) → eqb n n ≡ true
eqb_same n = eq-eqb n n refl

same_self : (p : Record) → same_record p p ≡ true
unfolding same_record same_times same_query same_links
same_self p = simp eqb_same refl

pub moved_none : (i : ℕ) (p q : Record) → p ≡ q → moved_lines i p q ≡ []
unfolding moved_lines
moved_none i p q e = rw (e, same_self q)

-- two tables, one place a turn, in the form of those still to come
pub changed_step : (t u : List Record) (i : ℕ) (o o' k : Output) → i < length t → i < length u → o' ≡ put_all (moved_lines i (get_or t i free_of) (get_or u i free_of)) o →
    put_all (changed_lines i (drop i t) (drop i u)) o ≡ k → put_all (changed_lines (i + 1) (drop (i + 1) t) (drop (i + 1) u)) o' ≡ k
unfolding changed_lines
changed_step t u i o o' k h l e g =
    let d : drop (i + 1) t ≡ drop (suc i) t = ap (λ (j : ℕ). drop j t) (add-one i) in
    let f : drop (i + 1) u ≡ drop (suc i) u = ap (λ (j : ℕ). drop j u) (add-one i) in
    rw (e, d, f) (sym (all_behind (moved_lines i (get_or t i free_of) (get_or u i free_of)) (changed_lines (i + 1) (drop (suc i) t) (drop (suc i) u)) o) ∙ rw (drop-cons t i free_of h, drop-cons u i free_of l) at g)

pub changed_end : (t u : List Record) (i : ℕ) (o k : Output) → length t ≤ i → put_all (changed_lines i (drop i t) (drop i u)) o ≡ k → o ≡ k
unfolding changed_lines put_all
changed_end t u i o k h e = rw (drop_of_length-le t h) at e
