-- The octets of an answer give its numbers back, each where it fits (`answer_back`).
-- Assumes nothing.
use mathlib.Core.Path.{◌≡◌, refl}
use mathlib.Core.List.{List, ◌++◌}
use Prim.Native.Nat.{ℕ, ◌^◌, ◌<◌, ◌≤◌}
use native.Mathlib.Omega.{arith}
use borrow.Author.Tests.{le-ltb}
use lib.ListN.{length, drop}
use lib.Seq.{sets}
use Rattle.octets.specs.Answer.{answer_bytes, answer_written}
use Rattle.octets.specs.Field.{field, octets}
use Rattle.octets.proofs.Le.{le_octets}
use Rattle.octets.proofs.Stores.{front}

module _ (a c w r v n d s : ℕ) where
  -- Octets at whose front an answer stands.
  pub record Answered (xs : List ℕ) : Type 0 where
    pub current : a < 2 ^ 64 → field 8 0 xs ≡ a
    pub code : c < 2 ^ 16 → field 2 8 xs ≡ c
    pub written : w < 2 ^ 16 → field 2 10 xs ≡ w
    pub refusal : field 1 12 xs ≡ r
    pub verdict : field 1 13 xs ≡ v
    pub notice : field 1 14 xs ≡ n
    pub ds : field 1 15 xs ≡ d
    pub state : s < 2 ^ 64 → field 8 16 xs ≡ s

  at_front : (rest : List ℕ) → Answered (answer_bytes a c w r v n d s ++ rest)
  unfolding answer_bytes octets
  at_front rest =
      record {
        current = le_octets 8 a;
        code = le_octets 2 c;
        written = le_octets 2 w;
        refusal = omega arith;
        verdict = omega arith;
        notice = omega arith;
        ds = omega arith;
        state = le_octets 8 s;
      }

  pub answer_back : (l : List ℕ) → 24 ≤ length l → Answered (answer_written l a c w r v n d s)
  unfolding answer_written answer_bytes octets
  answer_back l h =
      let whole : sets l 0 (answer_bytes a c w r v n d s) ≡ answer_bytes a c w r v n d s ++ drop 24 l = front {l = l} {vs = answer_bytes a c w r v n d s} (record { is = refl }) h in
      rw (le-ltb (length l) 24 h, whole) (at_front (drop 24 l))
