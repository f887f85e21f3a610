-- Laws of input read behind what is left.
-- Assumes nothing.
use Prim.Native.Nat.{ℕ, ◌≤◌}
use mathlib.Core.Path.{◌≡◌}
use mathlib.Core.List.{List, ◌++◌}
use native.Mathlib.Omega.{arith}
use lib.Dec.{leb, eqb}
use lib.ListN.{length, take}
use lib.Seq.{length-take-le, take_at}
use borrow.Author.Tests.{leb-true}
use Rattle.octets.proofs.Branch.{and_right, pick_by}
use Rattle.bench.specs.Run.{behind_of, left_of, within}
use Rattle.bench.specs.Turn.{refilled_of}
use Rattle.bench.specs.declared.run.Run.{Run}

pub left_le : (at have n : ℕ) → left_of at have n ≤ n
unfolding left_of
left_le at have n =
    pick_by (λ (m : ℕ). m ≤ n) (within at have n) (λ e. omega (arith, leb-true have n (and_right (leb at have) (leb have n) e))) (λ e. omega arith)

-- what is left stays at the front
pub front_kept : (l q s : List ℕ) (n m : ℕ) → n ≤ length l → n ≡ m → l ≡ s → take m (take n l ++ q) ≡ take m s
front_kept l q s n m h e f = rw (← e, ← f) (take_at (take n l) q n (length-take-le n l h))

pub refilled : (r : Run) (n left len m b : ℕ) → b ≡ behind_of left n len → len ≡ m → left ≡ left_of r.at r.have m →
    ◌≡◌ {A = Run} (record { settings = r.settings; fit = r.fit; number = r.number; at = 0; have = b; out = r.out; first = r.first; over = eqb n 0; done = r.done; prints = r.prints }) (refilled_of r m n)
unfolding refilled_of
refilled r n left len m b e f g = rw (e, f, g)
