-- The lines of a block in their printed form, by the place of each one's first number: `events`, `refusals` with nine numbers, `discards` with three,
-- `joins`, `leaves`, `timeouts` with five, `holds`, `longest`, `total`, and `mean`.
-- Assumes nothing.
use Rattle.std.specs.Prelude.{ℕ, ◌+◌, Bool, true, false, List, [], ◌∷◌, eqb, ltb}
use Rattle.octets.specs.Pick.{pick}
use Rattle.sums.specs.Token.{is_word}
use Rattle.sums.specs.declared.token.Token.{Token}

abbrev pub events_word : List ℕ
events_word = 101 ∷ 118 ∷ 101 ∷ 110 ∷ 116 ∷ 115 ∷ []

abbrev pub refusals_word : List ℕ
refusals_word = 114 ∷ 101 ∷ 102 ∷ 117 ∷ 115 ∷ 97 ∷ 108 ∷ 115 ∷ []

abbrev pub discards_word : List ℕ
discards_word = 100 ∷ 105 ∷ 115 ∷ 99 ∷ 97 ∷ 114 ∷ 100 ∷ 115 ∷ []

abbrev pub joins_word : List ℕ
joins_word = 106 ∷ 111 ∷ 105 ∷ 110 ∷ 115 ∷ []

abbrev pub leaves_word : List ℕ
leaves_word = 108 ∷ 101 ∷ 97 ∷ 118 ∷ 101 ∷ 115 ∷ []

abbrev pub timeouts_word : List ℕ
timeouts_word = 116 ∷ 105 ∷ 109 ∷ 101 ∷ 111 ∷ 117 ∷ 116 ∷ 115 ∷ []

abbrev pub holds_word : List ℕ
holds_word = 104 ∷ 111 ∷ 108 ∷ 100 ∷ 115 ∷ []

abbrev pub longest_word : List ℕ
longest_word = 108 ∷ 111 ∷ 110 ∷ 103 ∷ 101 ∷ 115 ∷ 116 ∷ []

abbrev pub total_word : List ℕ
total_word = 116 ∷ 111 ∷ 116 ∷ 97 ∷ 108 ∷ []

abbrev pub mean_word : List ℕ
mean_word = 109 ∷ 101 ∷ 97 ∷ 110 ∷ []

-- The word of the line whose first number is that of a place; that of the mean behind the last.
unfoldable pub opens : ℕ → Token → Bool
opens place t =
    (pick (eqb place 0) (is_word t events_word)
    (pick (eqb place 1) (is_word t refusals_word)
    (pick (eqb place 10) (is_word t discards_word)
    (pick (eqb place 13) (is_word t joins_word)
    (pick (eqb place 14) (is_word t leaves_word)
    (pick (eqb place 15) (is_word t timeouts_word)
    (pick (eqb place 20) (is_word t holds_word)
    (pick (eqb place 21) (is_word t longest_word)
    (pick (eqb place 22) (is_word t total_word)
    (pick (eqb place 23) (is_word t mean_word)
    false))))))))))

-- A line ends behind the numbers of these places.
unfoldable pub last_of_line : ℕ → Bool
last_of_line place =
    pick (eqb place 0) true (
    pick (eqb place 9) true (
    pick (eqb place 12) true (
    pick (eqb place 13) true (
    pick (eqb place 14) true (
    pick (eqb place 19) true (
    pick (eqb place 20) true (
    pick (eqb place 21) true (
    eqb place 22))))))))

unfoldable pub place_after : ℕ → ℕ
place_after place = pick (ltb place 23) (place + 1) place

-- Lines are counted to the end of 64 bits.
unfoldable pub line_after : ℕ → ℕ
line_after line = pick (eqb line 18446744073709551615) line (line + 1)
