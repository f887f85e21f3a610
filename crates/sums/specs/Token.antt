-- What stands between two blanks: as a word, and as a number. The printed form of a block is that of the bench: words, numbers in decimal, `over`.
-- Assumes nothing.
use Rattle.std.specs.Prelude.{ℕ, ◌+◌, ◌*◌, ◌-◌, ◌^◌, Bool, true, ◌&&◌, List, [], ◌∷◌, eqb, leb, ltb, length, Option, Some, None}
use Rattle.octets.specs.Pick.{pick}
use Rattle.sums.specs.Sums.{Total}
use Rattle.sums.specs.declared.token.Token.{Token}

abbrev pub no_token : Token
no_token = record { word = 0; seen = 0; value = 0; fits = true }

-- An octet more of a word: eight of them fill 64 bits.
unfoldable pub word_with : ℕ → ℕ → ℕ
word_with word x = pick (ltb word (2 ^ 56)) (word * 256 + x) word

unfoldable pub seen_with : ℕ → ℕ
seen_with seen = pick (ltb seen 9) (seen + 1) seen

-- A digit, '0' to '9', with which 64 bits still hold the value.
unfoldable pub digit_fits : ℕ → ℕ → Bool
digit_fits value x = leb 48 x && (leb x 57 && ltb (value * 10 + (x - 48)) (2 ^ 64))

unfoldable pub value_with : ℕ → ℕ → ℕ
value_with value x = pick (digit_fits value x) (value * 10 + (x - 48)) value

unfoldable pub token_with : Token → ℕ → Token
token_with t x =
    record {
      word = word_with t.word x;
      seen = seen_with t.seen;
      value = value_with t.value x;
      fits = t.fits && digit_fits t.value x;
    }

-- The octets, one behind the other.
abbrev pub token_of : Token → List ℕ → Token
token_of t [] = t
token_of t (x ∷ xs) = token_of (token_with t x) xs

-- A word's octets as one number, the first one highest.
abbrev pub packed : ℕ → List ℕ → ℕ
packed n [] = n
packed n (x ∷ xs) = packed (n * 256 + x) xs

unfoldable pub is_packed : Token → ℕ → ℕ → Bool
is_packed t seen word = eqb t.seen seen && eqb t.word word

abbrev pub is_word : Token → List ℕ → Bool
is_word t w = is_packed t (length w) (packed 0 w)

abbrev pub over_word : List ℕ
over_word = 111 ∷ 118 ∷ 101 ∷ 114 ∷ []

-- A number in decimal that 64 bits hold; or `over`; or neither.
unfoldable pub number_of : Token → Option Total
number_of t = pick (eqb t.seen 0) None (pick t.fits (Some (Some t.value)) (pick (is_word t over_word) (Some None) None))
