-- The frames that come most: a beacon (management, 8), and data with a class (any but 13), of version 0, by Frame Control's first octet. No rule goes
-- by it: it says where a shorter way leads to what the rules give.
-- Assumes nothing.
use Rattle.std.specs.Prelude.{ℕ, ◌%◌, Bool, ◌&&◌, ◌||◌, not, eqb}

unfoldable pub common_of : ℕ → Bool
common_of first = eqb first 128 || (eqb (first % 16) 8 && not (eqb first 216))
