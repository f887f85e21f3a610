-- What is said octet by octet is what is said of whole lines and their pieces.
-- Assumes nothing.
use Prim.Native.Nat.{ℕ, suc}
use mathlib.Core.Path.{◌≡◌, refl, ap, ◌∙◌}
use mathlib.Core.Bool.{true, false}
use mathlib.Core.List.{List, [], ◌∷◌, ◌++◌}
use native.Mathlib.Omega.{arith}
use lib.Dec.{eqb}
use lib.Seq.{append_snoc}
use borrow.Author.Tests.{eq-eqb, eqb-true}
use Rattle.octets.proofs.Branch.{by_bool}
use Rattle.octets.specs.Pick.{pick}
use Rattle.rival.specs.Alike.{met_from, same}
use Rattle.rival.specs.Beside.{alone_of, beside_of, field_after, other_field, said_by, standing_at_first}
use Rattle.rival.specs.Log.{event_of, form, lines_of, one_more, said_of, say_of, up_to}
use Rattle.rival.specs.declared.Said.TheVariants.{Differs, Short, Long}
use Rattle.rival.specs.declared.Standing.{Standing}
use Rattle.rival.proofs.Cuts.{blanks_more, blanks_from, cut_at, cut_behind, cut_off, line_of, plain, plain_more, some, some_both, some_more}
use Rattle.rival.proofs.Fields.{field_by, first, held_more}
use Rattle.rival.proofs.Passing.{said_apart}
use Rattle.rival.proofs.Meetings.{met_itself, same_append, same_refl}

-- n lines of both passed, and w of the next one
abbrev standing : ℕ → List ℕ → Standing
standing n w = record { lines = event_of n; field = up_to form (blanks_from 0 w); inside = some w; apart = false }

-- Both have a line that begins with w, and behind that they differ.
parted : (n : ℕ) (w xs ys : List ℕ) → plain w ≡ true → some (w ++ xs) ≡ true → some (w ++ ys) ≡ true → same (line_of xs) (line_of ys) ≡ false →
    (eqb (first (line_of xs)) 10 ≡ false → eqb (first (line_of ys)) 10 ≡ false → eqb (first (line_of xs)) (first (line_of ys)) ≡ false) →
    Differs (one_more 18446744073709551615 (event_of n)) (other_field (up_to form (blanks_from 0 w)) (first (line_of xs)) (first (line_of ys))) ≡ say_of (met_from n (lines_of (w ++ xs)) (lines_of (w ++ ys)))
unfolding met_from say_of
parted n w xs ys p a b z d =
    rw (cut_behind w xs p a, cut_behind w ys p b, same_append w (line_of xs) (line_of ys), z, field_by w (line_of xs) (line_of ys) p d, held_more 18446744073709551615 n)

-- One of them ends there, behind w.
lines_none : lines_of [] ≡ []
unfolding lines_of
lines_none = refl

-- an end is as a line feed
no_octet : {P : Type 0} → eqb 10 10 ≡ false → P
no_octet h =
    let z : true ≡ false = h in
    let y : ◌≡◌ {A = ℕ} 0 1 = cc in
    absurd (omega arith)

ours_end : (n : ℕ) (w ys : List ℕ) (y : ℕ) → plain w ≡ true →
    pick (some w) (Differs (one_more 18446744073709551615 (event_of n)) (other_field (up_to form (blanks_from 0 w)) 10 y)) (Long (event_of n)) ≡ say_of (met_from n (lines_of (w ++ [])) (lines_of (w ++ y ∷ ys)))
unfolding met_from say_of line_of same
ours_end n [] ys y p = rw (lines_none, cut_off (y ∷ ys) refl)
ours_end n (z ∷ w) ys y p = parted n (z ∷ w) [] (y ∷ ys) p refl refl refl (λ a b. no_octet a)

theirs_end : (n : ℕ) (w xs : List ℕ) (x : ℕ) → plain w ≡ true →
    pick (some w) (Differs (one_more 18446744073709551615 (event_of n)) (other_field (up_to form (blanks_from 0 w)) x 10)) (Short (event_of n)) ≡ say_of (met_from n (lines_of (w ++ x ∷ xs)) (lines_of (w ++ [])))
unfolding met_from say_of line_of same
theirs_end n [] xs x p = rw (lines_none, cut_off (x ∷ xs) refl)
theirs_end n (z ∷ w) xs x p = parted n (z ∷ w) (x ∷ xs) [] p refl refl refl (λ a b. no_octet b)

-- An octet that both have.
field_none : up_to form (blanks_from 0 []) ≡ 0
unfolding up_to blanks_from
field_none = refl

beside_feed : (n : ℕ) (w : List ℕ) (x : ℕ) → eqb x 10 ≡ true → beside_of (standing n w) x x ≡ standing (suc n) []
unfolding beside_of
beside_feed n w x f = rw (eq-eqb x x refl, f, held_more 18446744073709551615 n, field_none)

beside_octet : (n : ℕ) (w : List ℕ) (x : ℕ) → eqb x 10 ≡ false → beside_of (standing n w) x x ≡ standing n (w ++ (x ∷ []))
unfolding beside_of field_after
beside_octet n w x f =
    rw (eq-eqb x x refl, f, blanks_more 0 w x, some_more w x)
    (by_bool (eqb x 32) (λ g. rw (g, held_more form (blanks_from 0 w))) (λ g. rw g))

-- Two that differ.
beside_other : (n : ℕ) (w xs ys : List ℕ) (x y : ℕ) → eqb x y ≡ false →
    said_by (beside_of (standing n w) x y) xs ys ≡ Differs (one_more 18446744073709551615 (event_of n)) (other_field (up_to form (blanks_from 0 w)) x y)
unfolding beside_of
beside_other n w xs ys x y e =
    rw e (said_apart (record { lines = event_of n; field = other_field (up_to form (blanks_from 0 w)) x y; inside = some w; apart = true }) xs ys refl)

octets_differ : (n : ℕ) (w xs ys : List ℕ) (x y : ℕ) → plain w ≡ true → eqb x y ≡ false →
    Differs (one_more 18446744073709551615 (event_of n)) (other_field (up_to form (blanks_from 0 w)) x y) ≡ say_of (met_from n (lines_of (w ++ x ∷ xs)) (lines_of (w ++ y ∷ ys)))
unfolding line_of same
octets_differ n w xs ys x y p e = parted n w (x ∷ xs) (y ∷ ys) p (some_both w xs x) (some_both w ys y) (rw e) (λ a b. e)

-- the line's end in both
line_ends : (n : ℕ) (w xs ys : List ℕ) (x : ℕ) → plain w ≡ true → eqb x 10 ≡ true →
    met_from (suc n) (lines_of xs) (lines_of ys) ≡ met_from n (lines_of (w ++ x ∷ xs)) (lines_of (w ++ x ∷ ys))
unfolding met_from
line_ends n w xs ys x p f = rw (cut_at w xs x p f, cut_at w ys x p f, same_refl (w ++ (x ∷ [])))

pub lines_said : (n : ℕ) (w xs ys : List ℕ) → plain w ≡ true → said_by (standing n w) xs ys ≡ say_of (met_from n (lines_of (w ++ xs)) (lines_of (w ++ ys)))
unfolding said_by alone_of say_of plain
lines_said n w [] [] p = rw (met_itself n (lines_of (w ++ [])))
lines_said n w [] (y ∷ ys) p = ours_end n w ys y p
lines_said n w (x ∷ xs) [] p = theirs_end n w xs x p
lines_said n w (x ∷ xs) (y ∷ ys) p =
    by_bool (eqb x y)
    (λ e.
    let z : x ≡ y = eqb-true x y e in
    rw (← z)
    (by_bool (eqb x 10)
    (λ f. rw (beside_feed n w x f) (lines_said (suc n) [] xs ys refl ∙ ap say_of (line_ends n w xs ys x p f)))
    (λ f. rw (beside_octet n w x f) (rw (append_snoc w x xs, append_snoc w x ys) at (lines_said n (w ++ (x ∷ [])) xs ys (plain_more w x p f))))))
    (λ e. beside_other n w xs ys x y e ∙ octets_differ n w xs ys x y p e)

-- THE THEOREM. What the code says of our octets and a log's is what is said of their lines.
pub said_lines : (ours log : List ℕ) → said_by standing_at_first ours log ≡ said_of ours log
unfolding standing_at_first up_to blanks_from plain
said_lines ours log = lines_said 0 [] ours log refl
