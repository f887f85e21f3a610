-- 01, "The bench program": "the output scratch is 256 zero bytes for each event".
-- Assumes nothing.
use Rattle.std.specs.Prelude.{ℕ, ◌+◌, List, eqb, replicate}
use Rattle.octets.specs.Pick.{pick}

abbrev pub zeros : List ℕ
zeros = replicate 256 0

-- "event number from 1". (The highest number of 64 bits stays.)
unfoldable pub number_after : ℕ → ℕ
number_after n = pick (eqb n 18446744073709551615) n (n + 1)
