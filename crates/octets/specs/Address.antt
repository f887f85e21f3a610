-- Addresses as numbers: six octets, the first octet lowest, so that the lowest bit of the first octet is the number's.
-- Assumes nothing.
use Rattle.std.specs.Prelude.{ℕ, ◌%◌, Bool, not, ◌&&◌, leb, eqb}

-- 01, Settings, table, clock: a valid address is individual (lowest bit of its first octet 0) and not all zero.
-- A number of 2 ^ 48 and above is no address of six octets, and is not valid.
unfoldable pub valid_of : ℕ → Bool
valid_of a = not (eqb a 0) && (leb a 281474976710655 && eqb (a % 2) 0)

-- A group address: lowest bit of its first octet 1.
unfoldable pub group_of : ℕ → Bool
group_of a = eqb (a % 2) 1
