-- The number of a class and the class of a number are each the other's way back.
-- Assumes nothing.
use Prim.Native.Nat.{ℕ, zero, suc, ◌≤◌}
use mathlib.Core.Path.{◌≡◌, refl}
use native.Mathlib.Omega.{arith}
use Rattle.octets.specs.Class.{named, number_of}
use Rattle.octets.specs.declared.class.FrameClass.{FrameClass}
use Rattle.octets.specs.declared.class.FrameClass.TheVariants.{None, One, Two, Three}

pub named_number : (k : FrameClass) → named (number_of k) ≡ k
named_number None = refl
named_number One = refl
named_number Two = refl
named_number Three = refl

pub number_named : (n : ℕ) → n ≤ 3 → number_of (named n) ≡ n
number_named zero h = refl
number_named (suc zero) h = refl
number_named (suc (suc zero)) h = refl
number_named (suc (suc (suc n))) h = omega arith
