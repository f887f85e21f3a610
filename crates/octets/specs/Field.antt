-- 01, A received frame: multi-octet fixed fields are little-endian. The number that octets give, and the octets of a number.
-- Assumes nothing.
use Rattle.std.specs.Prelude.{ℕ, zero, suc, ◌+◌, ◌*◌, ◌/◌, ◌%◌, Bool, true, ◌&&◌, List, [], ◌∷◌, ltb, take, drop}

-- Whether each number of a list is an octet: what a frame is made of.
abbrev pub all_octets : List ℕ → Bool
all_octets [] = true
all_octets (x ∷ xs) = ltb x 256 && all_octets xs

-- The number that octets give, the lowest first.
abbrev pub le : List ℕ → ℕ
le [] = 0
le (x ∷ xs) = x + 256 * le xs

-- The n lowest octets of a number, the lowest first.
unfoldable pub octets : ℕ → ℕ → List ℕ
octets zero v = []
octets (suc n) v = v % 256 ∷ octets n (v / 256)

-- The field of n octets at place k. Octets that are not there are absent: 0 where nothing is left.
abbrev pub field : ℕ → ℕ → List ℕ → ℕ
field n k xs = le (take n (drop k xs))

-- 01, A received frame: Frame Control has the version in bits 0-1, the type in bits 2-3, the subtype in bits 4-7.
abbrev pub version_of : ℕ → ℕ
version_of first = first % 4

abbrev pub type_of : ℕ → ℕ
type_of first = first / 4 % 4

abbrev pub subtype_of : ℕ → ℕ
subtype_of first = first / 16

-- 02, K1: "unprotected frame (bit 14 of Frame Control 0)": bit 6 of the second octet.
abbrev pub protected_of : ℕ → ℕ
protected_of second = second / 64 % 2

-- To DS 8, From DS 9: the two lowest bits of the second octet. Both 0 is 0.
abbrev pub ds_bits : ℕ → ℕ
ds_bits second = second % 4
