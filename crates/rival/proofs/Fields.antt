-- The field in which two lines differ, by the first two octets that do.
-- Assumes nothing.
use Prim.Native.Nat.{ℕ, suc, ◌+◌, ◌≤◌}
use mathlib.Core.Path.{◌≡◌, refl, sym, ◌∙◌}
use mathlib.Core.Bool.{true, false}
use mathlib.Core.List.{List, [], ◌∷◌, ◌++◌}
use native.Mathlib.Omega.{arith}
use lib.Dec.{eqb, leb}
use borrow.Author.Tests.{eq-eqb, eqb-true, le-leb, le-ltb, leb-false, leb-true, lt-ltb}
use Rattle.octets.proofs.Branch.{by_bool, pick_both}
use Rattle.rival.specs.Alike.{met_from, same}
use Rattle.rival.specs.Beside.{other_field}
use Rattle.rival.specs.Log.{field_at, field_of, form, one_more, onto, pieces_of, up_to}
use Rattle.rival.proofs.Cuts.{blanks_from, plain}

-- a number that is held to `most`, and one more
pub held_more : (most n : ℕ) → one_more most (up_to most n) ≡ up_to most (suc n)
unfolding one_more up_to
held_more most n =
    by_bool (leb (suc n) most)
    (λ e.
    let l : suc n ≤ most = leb-true (suc n) most e in
    let z : n + 1 ≡ suc n = omega arith in
    rw (e, le-leb n most (omega arith), lt-ltb n most (omega arith), z))
    (λ e.
    let l : most ≤ n = omega (arith, leb-false (suc n) most e) in
    by_bool (leb n most)
    (λ f. rw (e, f, le-ltb n most l))
    (λ f. rw (e, f, le-ltb most most (omega arith))))

-- there is a piece in every line
pub data Some : List (List ℕ) → Type 0 where
  some : {a : List ℕ} {p : List (List ℕ)} → Some (a ∷ p)

onto_some : (x : ℕ) (p : List (List ℕ)) → Some (onto x p)
onto_some x [] = some
onto_some x (a ∷ p) = some

pieces_some : (xs : List ℕ) → Some (pieces_of xs)
unfolding pieces_of
pieces_some [] = some
pieces_some (x ∷ xs) = pick_both Some (eqb x 10) some (pick_both Some (eqb x 32) some (onto_some x (pieces_of xs)))

-- the same octet before the first piece of both
field_onto : (k x : ℕ) (p q : List (List ℕ)) → Some p → Some q → field_at (met_from k (onto x p) (onto x q)) ≡ field_at (met_from k p q)
unfolding met_from field_at same
field_onto k x [] q s t = elim s [ ]
field_onto k x (a ∷ p) [] s t = elim t [ ]
field_onto k x (a ∷ p) (b ∷ q) s t = by_bool (same a b) (λ e. rw (eq-eqb x x refl, e)) (λ e. rw (eq-eqb x x refl, e))

-- the same octets before both
fields_behind : (k : ℕ) (w a b : List ℕ) → plain w ≡ true →
    field_at (met_from k (pieces_of (w ++ a)) (pieces_of (w ++ b))) ≡ field_at (met_from (blanks_from k w) (pieces_of a) (pieces_of b))
unfolding plain blanks_from pieces_of met_from same
fields_behind k [] a b h = refl
fields_behind k (x ∷ w) a b h =
    by_bool (eqb x 10)
    (λ e. let q : false ≡ true = rw e at h in cc)
    (λ e.
    by_bool (eqb x 32)
    (λ f. rw (e, f) (fields_behind (suc k) w a b (rw e at h)))
    (λ f. rw (e, f) (field_onto k x (pieces_of (w ++ a)) (pieces_of (w ++ b)) (pieces_some (w ++ a)) (pieces_some (w ++ b)) ∙ fields_behind k w a b (rw e at h))))

-- How the pieces of a line begin, by its first octet; its end is as a line feed.
data Begins : List (List ℕ) → ℕ → Type 0 where
  ends : {x : ℕ} → eqb x 10 ≡ true → Begins ([] ∷ []) x
  blank : {x : ℕ} {p : List (List ℕ)} → eqb x 10 ≡ false → eqb x 32 ≡ true → Some p → Begins ([] ∷ p) x
  octet : {x : ℕ} {a : List ℕ} {p : List (List ℕ)} → eqb x 10 ≡ false → eqb x 32 ≡ false → Begins ((x ∷ a) ∷ p) x

abbrev pub first : List ℕ → ℕ
first [] = 10
first (x ∷ xs) = x

begins_onto : (x : ℕ) (p : List (List ℕ)) → eqb x 10 ≡ false → eqb x 32 ≡ false → Begins (onto x p) x
begins_onto x [] e f = octet e f
begins_onto x (a ∷ p) e f = octet e f

begins : (xs : List ℕ) → Begins (pieces_of xs) (first xs)
unfolding pieces_of
begins [] = ends refl
begins (x ∷ xs) =
    by_bool (eqb x 10)
    (λ e. rw e (ends e))
    (λ e.
    by_bool (eqb x 32)
    (λ f. rw (e, f) (blank e f (pieces_some xs)))
    (λ f. rw (e, f) (begins_onto x (pieces_of xs) e f)))

missing : (k : ℕ) (p : List (List ℕ)) → Some p → field_at (met_from (suc k) p []) ≡ one_more form (up_to form k)
unfolding met_from field_at
missing k [] s = elim s [ ]
missing k (a ∷ p) s = sym (held_more form k)

more_behind : (k : ℕ) (p : List (List ℕ)) → Some p → field_at (met_from (suc k) [] p) ≡ form
unfolding met_from field_at
more_behind k [] s = elim s [ ]
more_behind k (a ∷ p) s = refl

-- Two octets that differ, or an end of either.
by_octets : (k : ℕ) {p q : List (List ℕ)} {x y : ℕ} → Begins p x → Begins q y → (eqb x 10 ≡ false → eqb y 10 ≡ false → eqb x y ≡ false) →
    field_at (met_from k p q) ≡ other_field (up_to form k) x y
unfolding met_from field_at same other_field
by_octets k (ends e) (ends f) d = rw (e, f)
by_octets k (ends e) (blank f g s) d = rw (e, f, g) (more_behind k _ s)
by_octets k (ends e) (octet f g) d = rw (e, f, g)
by_octets k (blank e f s) (ends g) d = rw (e, f, g) (missing k _ s)
by_octets k {x = x} {y = y} (blank e f s) (blank g h t) d =
    let z : x ≡ y = omega (arith, eqb-true x 32 f, eqb-true y 32 h) in
    let u : false ≡ true = sym (d e g) ∙ eq-eqb x y z in
    cc
by_octets k (blank e f s) (octet g h) d = rw (e, g)
by_octets k (octet e f) (ends g) d = rw (e, f, g)
by_octets k (octet e f) (blank g h t) d = rw (e, g)
by_octets k (octet e f) (octet g h) d = rw (e, g, d e g)

-- Two lines that both begin with w.
pub field_by : (w a b : List ℕ) → plain w ≡ true → (eqb (first a) 10 ≡ false → eqb (first b) 10 ≡ false → eqb (first a) (first b) ≡ false) →
    field_of (w ++ a) (w ++ b) ≡ other_field (up_to form (blanks_from 0 w)) (first a) (first b)
unfolding field_of
field_by w a b h d = fields_behind 0 w a b h ∙ by_octets (blanks_from 0 w) (begins a) (begins b) d
