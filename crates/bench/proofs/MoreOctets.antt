-- What stands at the front of the input, once it is there whole, stays what it is when more octets follow.
-- Assumes nothing.
use Prim.Native.Nat.{ℕ, ◌+◌, ◌-◌, ◌≤◌}
use mathlib.Core.Path.{◌≡◌, refl, sym, ◌∙◌, ap}
use mathlib.Core.Bool.{Bool, true, false, ◌&&◌, not}
use mathlib.Core.List.{List, ◌++◌}
use native.Mathlib.Omega.{arith}
use borrow.Author.Tests.{eqb-true, le-leb, le-ltb, leb-true, ltb-false, ltb-true}
use lib.Dec.{ltb, leb, eqb}
use lib.ListN.{length, drop, length-append, length-drop}
use lib.Seq.{take-append-le, drop-append-le}
use Rattle.octets.proofs.Branch.{and_left, and_right, by_bool, pick_both}
use Rattle.octets.specs.Field.{field}
use Rattle.octets.specs.Pick.{pick}
use Rattle.peer.proofs.Fits.{clash}
use Rattle.table.proofs.Octets.InputLaws.{Allowed, Lacks, Short, is_cut, is_long, is_there, is_unmarked, whole_is}
use Rattle.peer.specs.declared.settings.Settings.{Settings}
use Rattle.table.specs.declared.rules.event.Event.{Event}
use Rattle.table.specs.Boundary.{settings_in, settings_length}
use Rattle.table.specs.Input.{body_of, event_at, length_allowed, marked, miscounted, size_of, taken_of}
use Rattle.table.specs.declared.host.input.Taken.{Taken}
use Rattle.table.specs.declared.host.input.Taken.TheVariants.{Cut, Fault, First, Next}

module _ (xs ys : List ℕ) where
  longer : (n : ℕ) → n ≤ length xs → ltb (length (xs ++ ys)) n ≡ false
  longer n h = le-ltb (length (xs ++ ys)) n (omega (arith, length-append xs ys))

  pub field_more : (n k : ℕ) → k + n ≤ length xs → field n k (xs ++ ys) ≡ field n k xs
  field_more n k h =
      let a : k ≤ length xs = omega arith in
      let b : n ≤ length (drop k xs) = simp length-drop (omega arith) in
      rw (drop-append-le k xs ys a, take-append-le n (drop k xs) ys b)

  marked_more : 5 ≤ length xs → marked (xs ++ ys) ≡ marked xs
  unfolding marked
  marked_more h = rw (field_more 2 0 (omega arith))

  pub body_more : size_of xs ≤ length xs → body_of (xs ++ ys) ≡ body_of xs
  unfolding body_of
  body_more l =
      let s : field 2 3 (xs ++ ys) ≡ field 2 3 xs = field_more 2 3 (omega arith) in
      let b : field 2 3 xs ≤ length (drop 5 xs) = simp length-drop (omega arith) in
      let t : leb (size_of xs) (length xs) ≡ true = le-leb (size_of xs) (length xs) l in
      let u : leb (size_of xs) (length (xs ++ ys)) ≡ true = le-leb (size_of xs) (length (xs ++ ys)) (omega (arith, length-append xs ys)) in
      rw (s, t, u, drop-append-le 5 xs ys (omega arith), take-append-le (field 2 3 xs) (drop 5 xs) ys b)

  event_more : (kind size : ℕ) → length_allowed false kind size ≡ true → 5 + size ≤ length xs → event_at (xs ++ ys) kind ≡ event_at xs kind
  unfolding event_at length_allowed
  event_more kind size w l =
      by_bool (eqb kind 1)
      (λ h.
      let n : size ≡ 9 = eqb-true size 9 (rw h at w) in
      rw (h, field_more 1 5 (omega arith), field_more 6 6 (omega arith), field_more 2 12 (omega arith)))
      (λ h. by_bool (eqb kind 2)
      (λ k. rw (h, k))
      (λ k. by_bool (eqb kind 3)
      (λ m.
      let n : size ≡ 2 = eqb-true size 2 (rw m at (rw k at (rw h at w))) in
      rw (h, k, m, field_more 2 5 (omega arith)))
      (λ m. rw (h, k, m))))

  miscounted_more : length_allowed false (field 1 2 xs) (field 2 3 xs) ≡ true → size_of xs ≤ length xs → miscounted (xs ++ ys) ≡ miscounted xs
  unfolding miscounted length_allowed
  miscounted_more w l =
      let k : field 1 2 (xs ++ ys) ≡ field 1 2 xs = field_more 1 2 (omega arith) in
      let s : field 2 3 (xs ++ ys) ≡ field 2 3 xs = field_more 2 3 (omega arith) in
      by_bool (eqb (field 1 2 xs) 4)
      (λ h.
      let four : field 1 2 xs ≡ 4 = eqb-true (field 1 2 xs) 4 h in
      let n : 7 ≤ field 2 3 xs = leb-true 7 (field 2 3 xs) (and_left (leb 7 (field 2 3 xs)) (leb (field 2 3 xs) 1537) (rw four at w)) in
      rw (k, s, field_more 1 11 (omega arith)))
      (λ h. rw (k, h))

module _ (xs ys : List ℕ) (first : Bool) where
  pub later : is_cut (taken_of xs first) ≡ false → taken_of (xs ++ ys) first ≡ taken_of xs first
  later w =
      whole_is xs first w
      (λ a b.
      let l = ltb-false (length xs) 5 a in
      is_unmarked (xs ++ ys) first (longer xs ys 5 l) (marked_more xs ys l ∙ b) ∙ sym (is_unmarked xs first a b))
      (λ a b c.
      let l = ltb-false (length xs) 5 a in
      is_long (xs ++ ys) first (longer xs ys 5 l) (marked_more xs ys l ∙ b) (allowed l ∙ c) ∙ sym (is_long xs first a b c))
      (λ a b c d.
      let l = ltb-false (length xs) 5 a in
      let m = ltb-false (length xs - 5) (field 2 3 xs) d in
      let n : ltb (length (xs ++ ys) - 5) (field 2 3 xs) ≡ false = le-ltb (length (xs ++ ys) - 5) (field 2 3 xs) (omega (arith, length-append xs ys)) in
      let z : size_of xs ≤ length xs = omega arith in
      is_there (xs ++ ys) first (longer xs ys 5 l) (marked_more xs ys l ∙ b) (allowed l ∙ c) (rw (size l) n)
      ∙ by_bool first
      (λ e. rw (e, body_more xs ys z))
      (λ e.
      let v : event_at (xs ++ ys) (field 1 2 xs) ≡ event_at xs (field 1 2 xs) = event_more xs ys (field 1 2 xs) (field 2 3 xs) (rw e at c) (omega arith) in
      rw (e, kind l, v, miscounted_more xs ys (rw e at c) z))
      ∙ sym (is_there xs first a b c d))
    where
      kind : 5 ≤ length xs → field 1 2 (xs ++ ys) ≡ field 1 2 xs
      kind l = field_more xs ys 1 2 (omega arith)

      size : 5 ≤ length xs → field 2 3 (xs ++ ys) ≡ field 2 3 xs
      size l = field_more xs ys 2 3 (omega arith)

      allowed : 5 ≤ length xs → Allowed (xs ++ ys) first ≡ Allowed xs first
      allowed l = rw (kind l, size l)

-- ---- settings stand first, and only there

abbrev is_first : Taken → Bool
is_first Cut = false
is_first Fault = false
is_first (First s) = true
is_first (Next e) = false

abbrev is_next : Taken → Bool
is_next Cut = false
is_next Fault = false
is_next (First s) = false
is_next (Next e) = true

abbrev NotFirst : Taken → Type 0
NotFirst t = is_first t ≡ false

abbrev NotNext : Taken → Type 0
NotNext t = is_next t ≡ false

not_first : (xs : List ℕ) → is_first (taken_of xs false) ≡ false
unfolding taken_of
not_first xs =
    pick_both NotFirst (ltb (length xs) 5) refl
    (pick_both NotFirst (not (marked xs)) refl
    (pick_both NotFirst (not (length_allowed false (field 1 2 xs) (field 2 3 xs))) refl
    (pick_both NotFirst (ltb (length xs - 5) (field 2 3 xs)) refl (pick_both NotFirst (miscounted xs) refl refl))))

not_next : (xs : List ℕ) → is_next (taken_of xs true) ≡ false
unfolding taken_of
not_next xs =
    pick_both NotNext (ltb (length xs) 5) refl
    (pick_both NotNext (not (marked xs)) refl
    (pick_both NotNext (not (length_allowed true (field 1 2 xs) (field 2 3 xs))) refl
    (pick_both NotNext (ltb (length xs - 5) (field 2 3 xs)) refl refl)))

pub taken_first : (xs : List ℕ) (first : Bool) (s : Settings) → taken_of xs first ≡ First s → first ≡ true
taken_first xs true s h = refl
taken_first xs false s h = clash (ap is_first h) (not_first xs)

pub taken_next : (xs : List ℕ) (first : Bool) (e : Event) → taken_of xs first ≡ Next e → first ≡ false
taken_next xs false e h = refl
taken_next xs true e h = clash (ap is_next h) (not_next xs)

-- ---- what is not there whole is short

settings_size : (n : ℕ) → settings_length n ≡ true → n ≤ 4096
unfolding settings_length
settings_size n w =
    by_bool (eqb n 12) (λ a. omega (arith, eqb-true n 12 a))
    (λ a. by_bool (eqb n 14) (λ b. omega (arith, eqb-true n 14 b))
    (λ b. by_bool (eqb n 18) (λ c. omega (arith, eqb-true n 18 c))
    (λ c. omega (arith, eqb-true n 24 (rw c at (rw b at (rw a at w)))))))

allowed_size : (first : Bool) (kind size : ℕ) → length_allowed first kind size ≡ true → size ≤ 4096
unfolding length_allowed
allowed_size true kind size w = settings_size size (and_right (eqb kind 0) (settings_length size) w)
allowed_size false kind size w =
    by_bool (eqb kind 1) (λ a. omega (arith, eqb-true size 9 (rw a at w)))
    (λ a. by_bool (eqb kind 2) (λ b. leb-true size 4096 (rw b at (rw a at w)))
    (λ b. by_bool (eqb kind 3) (λ c. omega (arith, eqb-true size 2 (rw c at (rw b at (rw a at w)))))
    (λ c. omega (arith, leb-true size 1537 (and_right (leb 7 size) (leb size 1537) (and_right (eqb kind 4) (leb 7 size && leb size 1537) (rw c at (rw b at (rw a at w)))))))))

there_whole : (first : Bool) (xs : List ℕ) → is_cut (pick first (First (settings_in (body_of xs))) (pick (miscounted xs) Fault (Next (event_at xs (field 1 2 xs))))) ≡ false
there_whole true xs = refl
there_whole false xs = by_bool (miscounted xs) (λ e. rw e) (λ e. rw e)

-- A record that lacks octets has 4,100 of them at most.
pub cut_short : (xs : List ℕ) (first : Bool) → taken_of xs first ≡ Cut → length xs ≤ 4100
cut_short xs first t =
    let w : is_cut (taken_of xs first) ≡ true = rw t in
    by_bool (Short xs first) (λ a. omega (arith, ltb-true (length xs) 5 a))
    (λ a. by_bool (marked xs)
    (λ b. by_bool (Allowed xs first)
    (λ c. by_bool (Lacks xs first)
    (λ d. omega (arith, ltb-true (length xs - 5) (field 2 3 xs) d, allowed_size first (field 1 2 xs) (field 2 3 xs) c))
    (λ d. clash w (rw (is_there xs first a b c d) (there_whole first xs))))
    (λ c. clash w (rw (is_long xs first a b c))))
    (λ b. clash w (rw (is_unmarked xs first a b))))
