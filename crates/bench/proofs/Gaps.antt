-- Clock steps before a frame: a gap of any length, a step at a time.
-- Assumes nothing.
use Prim.Native.Nat.{ℕ, zero, suc, ◌+◌, ◌-◌, ◌*◌, ◌/◌, ◌%◌, ◌≤◌, ◌<◌}
use mathlib.Core.Path.{◌≡◌, refl, ap, ◌∙◌}
use mathlib.Core.List.{List, ◌∷◌, ◌++◌}
use native.Mathlib.Omega.{arith}
use lib.Dec.{ltb, eqb}
use borrow.Author.Tests.{le-ltb, eqb-true, eqb-false}
use Rattle.octets.proofs.Branch.{by_bool}
use Rattle.bench.specs.Import.{Item, step, full_steps, rest_of, steps_then, moved_of, due_of, paid_of}
use Rattle.bench.specs.declared.passed.Clock.{Clock}

full_append : (k : ℕ) (is js : List Item) → full_steps k (is ++ js) ≡ full_steps k is ++ js
unfolding full_steps
full_append zero is js = refl
full_append (suc k) is js = ap (λ (l : List Item). step 65535 ∷ l) (full_append k is js)

rest_append : (n : ℕ) (is js : List Item) → rest_of n (is ++ js) ≡ rest_of n is ++ js
unfolding rest_of
rest_append n is js = by_bool (eqb n 0) (λ e. rw e) (λ e. rw e)

pub steps_append : (n : ℕ) (is js : List Item) → steps_then n (is ++ js) ≡ steps_then n is ++ js
unfolding steps_then
steps_append n is js = ap (full_steps (n / 65535)) (rest_append (n % 65535) is js) ∙ full_append (n / 65535) (rest_of (n % 65535) is) js

-- at most 65,535: one step, or none
pub steps_few : (n : ℕ) (is : List Item) → n ≤ 65535 → steps_then n is ≡ rest_of n is
unfolding steps_then full_steps rest_of
steps_few n is h =
    by_bool (eqb n 65535)
    (λ e. rw (eqb-true n 65535 e))
    (λ e.
    let ne = eqb-false n 65535 e in
    let q : n / 65535 ≡ 0 = omega (arith, ne) in
    let m : n % 65535 ≡ n = omega (arith, ne) in
    rw (q, m))

-- more: one of 65,535 first
pub steps_many : (n : ℕ) (is : List Item) → 65535 < n → steps_then n is ≡ step 65535 ∷ steps_then (n - 65535) is
unfolding steps_then full_steps
steps_many n is h =
    let q : n / 65535 ≡ suc ((n - 65535) / 65535) = omega arith in
    let m : n % 65535 ≡ (n - 65535) % 65535 = omega arith in
    rw (q, m)

-- a time seen twice
pub moved_again : (c : Clock) (t n : ℕ) → moved_of (paid_of (moved_of c t) n) t ≡ paid_of (moved_of c t) n
unfolding moved_of paid_of
moved_again c t n =
    by_bool c.started
    (λ s.
    by_bool (ltb c.latest t)
    (λ l. rw s (rw l (rw (le-ltb t t (omega arith)))))
    (λ l. rw s (rw l (rw l))))
    (λ s. rw s (rw (le-ltb t t (omega arith))))

-- what is still due after a step, and what was put out all in all
pub due_less : (c : Clock) → due_of (paid_of c 65535) ≡ due_of c - 65535
unfolding due_of paid_of
due_less c = omega arith

pub paid_twice : (c : Clock) (n : ℕ) → 65535 < n → paid_of (paid_of c 65535) (n - 65535) ≡ paid_of c n
unfolding paid_of
paid_twice c n h =
    let e : c.since + 1024 * 65535 + 1024 * (n - 65535) ≡ c.since + 1024 * n = omega arith in
    rw e
