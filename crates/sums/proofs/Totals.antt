-- Laws of the numbers of 64 bits: what is held of two numbers, brought together, is what is held of both; in any order, in any bracketing.
-- Assumes nothing.
use Prim.Native.Nat.{ℕ, ◌+◌, ◌^◌, ◌≤◌, ◌<◌, max}
use native.Mathlib.Omega.{arith}
use mathlib.Core.Path.{◌≡◌, refl, sym, ap, ◌∙◌}
use mathlib.Core.Bool.{Bool, true, false}
use lib.Dec.{ltb}
use borrow.Author.Tests.{ltb-true, ltb-false, lt-ltb, le-ltb}
use Rattle.sums.specs.Sums.{held, add_of, longer_of}
use Rattle.sums.specs.Sums.{Total}
use Rattle.std.specs.Prelude.{Some, None, SomeIff}

pub held_fits : (n : ℕ) → n < 2 ^ 64 → held n ≡ Some n
unfolding held
held_fits n h = rw (lt-ltb n (2 ^ 64) h)

pub held_over : (n : ℕ) → 2 ^ 64 ≤ n → held n ≡ None
unfolding held
held_over n h = rw (le-ltb n (2 ^ 64) h)

-- By whether a number is held.
by_held : {P : Type 0} (n : ℕ) → (n < 2 ^ 64 → P) → (2 ^ 64 ≤ n → P) → P
by_held {P} n fits over = go (ltb n (2 ^ 64)) refl
  where
    go : (b : Bool) → ltb n (2 ^ 64) ≡ b → P
    go true p = fits (ltb-true n (2 ^ 64) p)
    go false p = over (ltb-false n (2 ^ 64) p)

-- A number more.
pub held_one : (m n : ℕ) → add_of (held m) (Some n) ≡ held (m + n)
held_one m n =
    by_held m
    (λ p. rw (held_fits m p))
    (λ p. rw (held_over m p, held_over (m + n) (omega (arith, p))))

pub add_comm : (a b : Total) → add_of a b ≡ add_of b a
add_comm None None = refl
add_comm None (Some n) = refl
add_comm (Some m) None = refl
add_comm (Some m) (Some n) = ap held (omega arith)

pub held_add : (m n : ℕ) → held (m + n) ≡ add_of (held m) (held n)
held_add m n =
    by_held n
    (λ q. sym (rw (held_fits n q) (held_one m n)))
    (λ q. rw (held_over n q, add_comm (held m) None, held_over (m + n) (omega (arith, q))))

pub add_assoc : (a b c : Total) → add_of (add_of a b) c ≡ add_of a (add_of b c)
add_assoc None b c = refl
add_assoc (Some m) None c = refl
add_assoc (Some m) (Some n) None = add_comm (held (m + n)) None
add_assoc (Some m) (Some n) (Some k) =
    held_one (m + n) k ∙ ap held (omega arith) ∙ sym (held_one (n + k) m) ∙ add_comm (held (n + k)) (Some m)

pub longer_comm : (a b : Total) → longer_of a b ≡ longer_of b a
longer_comm None None = refl
longer_comm None (Some n) = refl
longer_comm (Some m) None = refl
longer_comm (Some m) (Some n) = ap Some (omega arith)

pub longer_assoc : (a b c : Total) → longer_of (longer_of a b) c ≡ longer_of a (longer_of b c)
longer_assoc None b c = refl
longer_assoc (Some m) None c = refl
longer_assoc (Some m) (Some n) None = refl
longer_assoc (Some m) (Some n) (Some k) = ap Some (omega arith)

pub held_longer : (m n : ℕ) → held (max m n) ≡ longer_of (held m) (held n)
held_longer m n =
    by_held n
    (λ q. by_held m
    (λ p. rw (held_fits n q, held_fits m p) (held_fits (max m n) (omega (arith, p, q))))
    (λ p. rw (held_over m p) (held_over (max m n) (omega (arith, p)))))
    (λ q. rw (held_over n q, longer_comm (held m) None) (held_over (max m n) (omega (arith, q))))

-- What `checked_add` says of a sum is what is held of it.
pub held_sum : (n : ℕ) (r : Total) → SomeIff r (n < 2 ^ 64) n → r ≡ held n
held_sum n None h = sym (held_over n (omega (arith, h)))
held_sum n (Some x) h = sym (held_fits n h.0 ∙ ap Some (sym h.1))
