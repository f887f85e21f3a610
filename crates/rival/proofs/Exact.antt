-- Each of the four is said exactly where it holds of the lines (specs/Says.antt).
-- Assumes nothing.
use Prim.Native.Nat.{ℕ, suc, ◌<◌, ◌≤◌}
use mathlib.Core.Path.{◌≡◌, refl, sym, ap, ◌∙◌}
use mathlib.Core.List.{List, []}
use mathlib.Core.Logic.{◌↔◌}
use native.Mathlib.Omega.{arith}
use lib.Dec.{leb, ltb}
use lib.ListN.{length, get_or, take}
use lib.Seq.{get_or-take, length-take-le, take_all, take-take}
use borrow.Author.Tests.{le-leb, leb-true, ltb-false, ltb-true}
use Rattle.octets.proofs.Branch.{by_bool}
use Rattle.rival.specs.Alike.{Meeting, alike, longer, met_from, other, shorter}
use Rattle.rival.specs.Log.{field_at, field_of, form, lines_of, pieces_of, said_of, say_of, up_to}
use Rattle.rival.specs.Says.{Field, Longer, Parted, Says, piece, whole}
use Rattle.rival.specs.declared.Said.{Said}
use Rattle.rival.specs.declared.Said.TheVariants.{Right, Differs, Short, Long}
use Rattle.rival.proofs.Cuts.{join_lines, joined}
use Rattle.rival.proofs.Meetings.{Meets, found, meets}

low : (most n : ℕ) → n ≤ most → up_to most n ≡ n
unfolding up_to
low most n h = rw (le-leb n most h)

high : (most n : ℕ) → most ≤ n → up_to most n ≡ most
unfolding up_to
high most n h = by_bool (leb n most) (λ e. rw e (omega (arith, leb-true n most e))) (λ e. rw e)

module _ (p q : List (List ℕ)) where
  -- n of both are alike, eight or more
  alike_all : (n : ℕ) → form ≤ n → take n p ≡ take n q → Field p q form
  alike_all n h e = whole (λ k a b. sym (take-take k n p (omega arith)) ∙ (ap (take k) e ∙ take-take k n q (omega arith)))

  -- n of both are alike, and ours goes on otherwise
  at_piece : (n : ℕ) → n < length p → take n p ≡ take n q → (n < length q → get_or p n [] ≡ get_or q n [] → ⊥) → Field p q (up_to form n)
  at_piece n h e d =
      by_bool (ltb n form)
      (λ l.
      let m : n < form = ltb-true n form l in
      rw (low form n (omega arith)) (piece m h e d))
      (λ l.
      let m : form ≤ n = ltb-false n form l in
      rw (high form n m) (alike_all n m e))

  field_holds : (m : Meeting (List ℕ)) → Meets p q m → Field p q (field_at m)
  unfolding field_at
  field_holds alike m = whole (λ k a b. ap (take k) m)
  field_holds (longer n) m = whole (λ k a b. ap (take k) (sym m.begins) ∙ take-take k n q (omega (arith, m.has)))
  field_holds (shorter n) m =
      at_piece n m.goes_on (m.begins ∙ sym (take_all n q (omega (arith, m.has)))) (λ h e. absurd (omega (arith, m.has)))
  field_holds (other n a b) m = at_piece n m.0.ours m.0.before (λ h. m.0.differ)

  -- one more would be alike too
  not_short : (n : ℕ) → Longer q p n → take (suc n) p ≡ take (suc n) q → ⊥
  not_short n m e =
      let a : length (take (suc n) p) ≡ suc n = length-take-le (suc n) p (omega (arith, m.goes_on)) in
      let b : take (suc n) q ≡ q = take_all (suc n) q (omega (arith, m.has)) in
      omega (arith, a, m.has, ap length (e ∙ b))

  not_other : (n : ℕ) → Parted p q n → take (suc n) p ≡ take (suc n) q → ⊥
  not_other n m e =
      m.differ (sym (get_or-take (suc n) p n [] (omega arith)) ∙ (ap (λ (l : List (List ℕ)). get_or l n []) e ∙ get_or-take (suc n) q n [] (omega arith)))

  only_form : (m : Meeting (List ℕ)) → Meets p q m → ((k : ℕ) → k ≤ form → k ≤ length p → take k p ≡ take k q) → field_at m ≡ form
  unfolding field_at
  only_form alike m h = refl
  only_form (longer n) m h = refl
  only_form (shorter n) m h =
      by_bool (ltb n form)
      (λ l. absurd (not_short n m (h (suc n) (omega (arith, ltb-true n form l)) (omega (arith, m.goes_on)))))
      (λ l. high form n (ltb-false n form l))
  only_form (other n a b) m h =
      by_bool (ltb n form)
      (λ l. absurd (not_other n m.0 (h (suc n) (omega (arith, ltb-true n form l)) (omega (arith, m.0.ours)))))
      (λ l. high form n (ltb-false n form l))

  -- piece k, where theirs has one, and where it has none
  piece_there : (k : ℕ) → k < form → k < length p → k < length q → take k p ≡ take k q → (get_or p k [] ≡ get_or q k [] → ⊥) → field_at (met_from 0 p q) ≡ k
  unfolding field_at
  piece_there k f h g e d =
      rw (found p q (other k (get_or p k []) (get_or q k [])) (record { ours = h; theirs = g; before = e; differ = d }, refl, refl)) (low form k (omega arith))

  piece_gone : (k : ℕ) → k < form → k < length p → length q ≤ k → take k p ≡ take k q → field_at (met_from 0 p q) ≡ k
  unfolding field_at
  piece_gone k f h g e =
      let a : take k q ≡ q = take_all k q g in
      let b : length (take k p) ≡ k = length-take-le k p (omega arith) in
      let n : length q ≡ k = sym (ap length (e ∙ a)) ∙ b in
      rw (found p q (shorter k) (record { has = n; goes_on = h; begins = e ∙ a })) (low form k (omega arith))

pub field_only : (p q : List (List ℕ)) (f : ℕ) → Field p q f → field_at (met_from 0 p q) ≡ f
field_only p q f (piece {k = k} a b e d) =
    by_bool (ltb k (length q))
    (λ l. piece_there p q k a b (ltb-true k (length q) l) e (d (ltb-true k (length q) l)))
    (λ l. piece_gone p q k a b (ltb-false k (length q) l) e)
field_only p q f (whole h) = only_form p q (met_from 0 p q) (meets p q) h

module _ (ours log : List ℕ) where
  holds : (m : Meeting (List ℕ)) → Meets (lines_of ours) (lines_of log) m → Says ours log (say_of m)
  unfolding say_of field_of
  holds alike m = sym (join_lines log) ∙ (ap joined (sym m) ∙ join_lines ours)
  holds (longer n) m = record { lines = n; named = refl; longer = m }
  holds (shorter n) m = record { lines = n; named = refl; longer = m }
  holds (other n a b) m =
      let f = field_holds (pieces_of a) (pieces_of b) (met_from 0 (pieces_of a) (pieces_of b)) (meets (pieces_of a) (pieces_of b)) in
      record { lines = n; named = refl; parted = m.0; field = rw (m.1, m.2) f }

  only : (v : Said) → Says ours log v → said_of ours log ≡ v
  unfolding say_of field_of
  only Right e = rw (found (lines_of ours) (lines_of log) alike (ap lines_of (sym e)))
  only (Differs event f) m =
      let n = m.lines in
      let a = get_or (lines_of ours) n [] in
      let b = get_or (lines_of log) n [] in
      rw (found (lines_of ours) (lines_of log) (other n a b) (m.parted, refl, refl), m.named, field_only (pieces_of a) (pieces_of b) f m.field)
  only (Short event) m = rw (found (lines_of ours) (lines_of log) (shorter m.lines) m.longer, m.named)
  only (Long event) m = rw (found (lines_of ours) (lines_of log) (longer m.lines) m.longer, m.named)

  -- THE THEOREM. Each is said exactly where it holds; so for every log one of the four holds, and only that one.
  pub exactly : (v : Said) → (said_of ours log ≡ v) ↔ Says ours log v
  exactly v = (λ e. rw e at (holds (met_from 0 (lines_of ours) (lines_of log)) (meets (lines_of ours) (lines_of log))), only v)
