-- What stands at the front of records: each test of `taken_of`, and that a record that is taken is there whole.
-- Assumes nothing.
use Prim.Native.Nat.{ℕ, ◌-◌, ◌≤◌}
use mathlib.Core.Path.{◌≡◌}
use mathlib.Core.Bool.{Bool, true, false}
use mathlib.Core.List.{List}
use native.Mathlib.Omega.{arith}
use borrow.Author.Tests.{ltb-false}
use lib.Dec.{ltb}
use lib.ListN.{length}
use Rattle.octets.proofs.Branch.{by_bool}
use Rattle.octets.specs.Field.{field}
use Rattle.octets.specs.Pick.{pick}
use Rattle.peer.proofs.Fits.{clash}
use Rattle.table.specs.Boundary.{settings_in}
use Rattle.table.specs.Input.{body_of, event_at, length_allowed, marked, miscounted, size_of, taken_of}
use Rattle.table.specs.declared.host.input.Taken.{Taken}
use Rattle.table.specs.declared.host.input.Taken.TheVariants.{Cut, Fault, First, Next}

-- whether it is not there whole; whether it is a record that is
abbrev pub is_cut : Taken → Bool
is_cut Cut = true
is_cut Fault = false
is_cut (First s) = false
is_cut (Next e) = false

abbrev pub is_record : Taken → Bool
is_record Cut = false
is_record Fault = false
is_record (First s) = true
is_record (Next e) = true

-- the four tests and the ends of `taken_of`
module _ (xs : List ℕ) (first : Bool) where
  abbrev pub Short : Bool
  Short = ltb (length xs) 5

  abbrev pub Allowed : Bool
  Allowed = length_allowed first (field 1 2 xs) (field 2 3 xs)

  abbrev pub Lacks : Bool
  Lacks = ltb (length xs - 5) (field 2 3 xs)

  pub is_short : Short ≡ true → taken_of xs first ≡ Cut
  unfolding taken_of
  is_short a = rw a

  pub is_unmarked : Short ≡ false → marked xs ≡ false → taken_of xs first ≡ Fault
  unfolding taken_of
  is_unmarked a b = rw (a, b)

  pub is_long : Short ≡ false → marked xs ≡ true → Allowed ≡ false → taken_of xs first ≡ Fault
  unfolding taken_of
  is_long a b c = rw (a, b, c)

  pub is_lacking : Short ≡ false → marked xs ≡ true → Allowed ≡ true → Lacks ≡ true → taken_of xs first ≡ Cut
  unfolding taken_of
  is_lacking a b c d = rw (a, b, c, d)

  pub is_there : Short ≡ false → marked xs ≡ true → Allowed ≡ true → Lacks ≡ false →
      taken_of xs first ≡ pick first (First (settings_in (body_of xs))) (pick (miscounted xs) Fault (Next (event_at xs (field 1 2 xs))))
  unfolding taken_of
  is_there a b c d = rw (a, b, c, d)

  -- What is whole has a wrong mark, or a wrong kind or length, or is there.
  pub whole_is : {P : Type 0} → is_cut (taken_of xs first) ≡ false →
      (Short ≡ false → marked xs ≡ false → P) →
      (Short ≡ false → marked xs ≡ true → Allowed ≡ false → P) →
      (Short ≡ false → marked xs ≡ true → Allowed ≡ true → Lacks ≡ false → P) → P
  whole_is w f g k =
      by_bool Short (λ a. clash (rw (is_short a)) w)
      (λ a. by_bool (marked xs)
      (λ b. by_bool Allowed
      (λ c. by_bool Lacks (λ d. clash (rw (is_lacking a b c d)) w) (λ d. k a b c d))
      (λ c. g a b c))
      (λ b. f a b))

  -- a record that is taken is there whole
  pub record_whole : is_record (taken_of xs first) ≡ true → size_of xs ≤ length xs
  record_whole w =
      by_bool Short (λ a. clash w (rw (is_short a)))
      (λ a. by_bool (marked xs)
      (λ b. by_bool Allowed
      (λ c. by_bool Lacks (λ d. clash w (rw (is_lacking a b c d))) (λ d. omega (arith, ltb-false (length xs) 5 a, ltb-false (length xs - 5) (field 2 3 xs) d)))
      (λ c. clash w (rw (is_long a b c))))
      (λ b. clash w (rw (is_unmarked a b))))
