-- Where no octets of a buffer are meant.
-- Assumes nothing.
use Prim.Native.Nat.{ℕ, ◌<◌}
use mathlib.Core.Path.{◌≡◌, refl}
use mathlib.Core.Bool.{Bool, true, false, ◌&&◌}
use lib.Dec.{leb}
use borrow.Author.Tests.{lt-leb}
use Rattle.bench.specs.Run.{within}

and_false : (a b : Bool) → b ≡ false → (a && b) ≡ false
and_false true b h = h
and_false false b h = refl

-- a place past the buffer's end
pub not_within : (at have n : ℕ) → n < have → within at have n ≡ false
not_within at have n h = and_false (leb at have) (leb have n) (lt-leb have n h)
