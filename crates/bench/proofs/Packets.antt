-- The walk over a capture's octets: what is read of a packet stays what it is when more octets follow, and each packet is passed once.
-- Assumes nothing.
use Prim.Native.Nat.{ℕ, zero, suc, ◌+◌, ◌≤◌, ◌<◌}
use mathlib.Core.Path.{◌≡◌, refl}
use mathlib.Core.Bool.{Bool, true, false}
use mathlib.Core.List.{List, [], ◌∷◌, ◌++◌}
use native.Mathlib.Nat.{le_of_suc-le-suc, not-suc-le-zero}
use native.Mathlib.Omega.{arith}
use lib.ListN.{length, take, drop, length-drop}
use lib.Seq.{take-append-le, drop-append-le, length-take-le}
use borrow.Author.Tests.{leb-true, leb-false, le-leb, lt-leb}
use Rattle.octets.specs.Field.{field}
use Rattle.bench.specs.Capture.{behind, big_field, big_of, captured_at, ended, linked, number_in, numbered, original_at, packet_at, time_at, walk_from, whole_at}

pub field_more : (n k : ℕ) (xs ys : List ℕ) → k + n ≤ length xs → field n k (xs ++ ys) ≡ field n k xs
field_more n k xs ys h = rw (drop-append-le k xs ys (omega arith), take-append-le n (drop k xs) ys (omega (arith, length-drop k xs)))

pub number_more : (big : Bool) (k : ℕ) (xs ys : List ℕ) → k + 4 ≤ length xs → number_in big k (xs ++ ys) ≡ number_in big k xs
unfolding number_in big_field
number_more true k xs ys h =
    rw (field_more 1 k xs ys (omega arith), field_more 1 (k + 1) xs ys (omega arith), field_more 1 (k + 2) xs ys (omega arith), field_more 1 (k + 3) xs ys (omega arith))
number_more false k xs ys h = field_more 4 k xs ys h

-- the file's header
module _ (xs ys : List ℕ) (h : 24 ≤ length xs) where
  pub big_more : big_of (xs ++ ys) ≡ big_of xs
  unfolding big_of
  big_more = rw (number_more true 0 xs ys (omega arith))

  pub numbered_more : numbered (xs ++ ys) ≡ numbered xs
  unfolding numbered
  numbered_more = rw (big_more, number_more false 0 xs ys (omega arith))

  pub linked_more : linked (xs ++ ys) ≡ linked xs
  unfolding linked
  linked_more = rw big_more (rw (number_more (big_of xs) 20 xs ys (omega arith)))

-- a packet's header
module _ (big : Bool) (xs ys : List ℕ) (h : 16 ≤ length xs) where
  pub time_more : time_at big (xs ++ ys) ≡ time_at big xs
  unfolding time_at
  time_more = rw (number_more big 0 xs ys (omega arith), number_more big 4 xs ys (omega arith))

  pub captured_more : captured_at big (xs ++ ys) ≡ captured_at big xs
  captured_more = number_more big 8 xs ys (omega arith)

  pub original_more : original_at big (xs ++ ys) ≡ original_at big xs
  original_more = number_more big 12 xs ys (omega arith)

-- a packet that is there whole
pub whole_fits : (big : Bool) (xs : List ℕ) → whole_at big xs ≡ true → captured_at big xs + 16 ≤ length xs
unfolding whole_at
whole_fits big xs h = leb-true (captured_at big xs + 16) (length xs) h

pub fits_whole : (big : Bool) (xs : List ℕ) → captured_at big xs + 16 ≤ length xs → whole_at big xs ≡ true
unfolding whole_at
fits_whole big xs h = le-leb (captured_at big xs + 16) (length xs) h

pub short_cut : (big : Bool) (xs : List ℕ) → length xs < captured_at big xs + 16 → whole_at big xs ≡ false
unfolding whole_at
short_cut big xs h = lt-leb (captured_at big xs + 16) (length xs) h

pub not_whole : (big : Bool) (xs : List ℕ) → whole_at big xs ≡ false → length xs < captured_at big xs + 16
unfolding whole_at
not_whole big xs h = leb-false (captured_at big xs + 16) (length xs) h

pub octets_length : (big : Bool) (xs : List ℕ) → captured_at big xs + 16 ≤ length xs → length (take (captured_at big xs) (drop 16 xs)) ≡ captured_at big xs
octets_length big xs h = length-take-le (captured_at big xs) (drop 16 xs) (omega (arith, length-drop 16 xs))

pub packet_more : (big : Bool) (xs ys : List ℕ) → captured_at big xs + 16 ≤ length xs → packet_at big (xs ++ ys) ≡ packet_at big xs
packet_more big xs ys h =
    let l : 16 ≤ length xs = omega arith in
    let d : drop 16 (xs ++ ys) ≡ drop 16 xs ++ ys = drop-append-le 16 xs ys l in
    let t : take (captured_at big xs) (drop 16 xs ++ ys) ≡ take (captured_at big xs) (drop 16 xs) = take-append-le (captured_at big xs) (drop 16 xs) ys (omega (arith, length-drop 16 xs)) in
    rw (time_more big xs ys l, original_more big xs ys l, captured_more big xs ys l, d, t)

-- Octets are passed one by one, or in one go.
pub skip : (big : Bool) (xs : List ℕ) (k : ℕ) → k ≤ length xs → walk_from big k xs ≡ walk_from big 0 (drop k xs)
unfolding walk_from
skip big [] zero h = refl
skip big [] (suc k) h = absurd (not-suc-le-zero h)
skip big (x ∷ xs) zero h = refl
skip big (x ∷ xs) (suc k) h = skip big xs k (le_of_suc-le-suc h)

pub walk_whole : (big : Bool) (xs : List ℕ) → whole_at big xs ≡ true → walk_from big 0 xs ≡ behind (packet_at big xs) (walk_from big 0 (drop (captured_at big xs + 16) xs))
unfolding walk_from
walk_whole big [] h = absurd (omega (arith, whole_fits big [] h))
walk_whole big (x ∷ xs) h =
    let e : captured_at big (x ∷ xs) + 16 ≡ suc (captured_at big (x ∷ xs) + 15) = omega arith in
    rw (h, e, skip big xs (captured_at big (x ∷ xs) + 15) (omega (arith, whole_fits big (x ∷ xs) h)))

pub walk_cut : (big : Bool) (xs : List ℕ) → 0 < length xs → whole_at big xs ≡ false → walk_from big 0 xs ≡ ended true
unfolding walk_from
walk_cut big [] l h = absurd (not-suc-le-zero l)
walk_cut big (x ∷ xs) l h = rw h
