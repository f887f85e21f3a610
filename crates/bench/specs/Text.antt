-- Text: numbers in decimal and in hexadecimal, in ASCII.
-- Assumes nothing.
use Rattle.std.specs.Prelude.{ℕ, zero, suc, ◌+◌, ◌/◌, ◌%◌, List, [], ◌∷◌, ◌++◌, ltb}
use Rattle.octets.specs.Pick.{pick}

-- A number in decimal, of at most k digits, the highest first and none of them a leading 0.
unfoldable pub tens : ℕ → ℕ → List ℕ
tens zero n = []
tens (suc k) n = pick (ltb n 10) ((48 + n) ∷ []) (tens k (n / 10) ++ ((48 + n % 10) ∷ []))

-- A number of at most k digits and a blank.
unfoldable pub field_of : ℕ → ℕ → List ℕ
field_of k n = tens k n ++ (32 ∷ [])

-- A letter and a blank.
abbrev pub letter_of : ℕ → List ℕ
letter_of c = c ∷ 32 ∷ []

-- A hexadecimal digit, in lower case.
unfoldable pub glyph_of : ℕ → ℕ
glyph_of d = pick (ltb d 10) (48 + d) (87 + d)

-- An octet as two digits; octets, one behind the other.
unfoldable pub hex_octet : ℕ → List ℕ
hex_octet v = glyph_of (v / 16) ∷ glyph_of (v % 16) ∷ []

unfoldable pub hex_of : List ℕ → List ℕ
hex_of [] = []
hex_of (v ∷ vs) = hex_octet v ++ hex_of vs
