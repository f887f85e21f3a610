-- Numbers of 64 bits. 02, K12: "A total that would pass 64 bits prints `over` in its own place".
-- Assumes nothing.
use Rattle.std.specs.Prelude.{ℕ, ◌+◌, ◌^◌, max, ltb, Option, Some, None}
use Rattle.octets.specs.Pick.{pick}

-- A number that 64 bits hold, or None, which is `over`.
abbrev pub Total : Type 0
Total = Option ℕ

-- A number, as 64 bits hold it.
unfoldable pub held : ℕ → Total
held n = pick (ltb n (2 ^ 64)) (Some n) None

abbrev pub zero : Total
zero = Some 0

-- The sum of two; of `over` and anything, `over`.
abbrev pub add_of : Total → Total → Total
add_of None b = None
add_of (Some m) None = None
add_of (Some m) (Some n) = held (m + n)

-- The longer of two; of `over` and anything, `over`.
abbrev pub longer_of : Total → Total → Total
longer_of None b = None
longer_of (Some m) None = None
longer_of (Some m) (Some n) = Some (max m n)
