-- Blocks read back from their printed form: lines `file ..` and `all` are passed over where a block may begin, and then the ten lines of a block come in
-- their order, each with its word, a blank before each number and one LF at its end. The mean is passed over: it is worked out anew.
-- Assumes nothing.
use Rattle.std.specs.Prelude.{ℕ, Bool, not, ◌&&◌, List, [], ◌∷◌, eqb, length, is_some}
use Rattle.octets.specs.Pick.{pick}
use Rattle.sums.specs.Place.{opens, last_of_line, place_after, line_after}
use Rattle.sums.specs.Token.{no_token, token_with, packed, is_packed, number_of}
use Rattle.sums.specs.declared.reader.Reader.{Reader}
use Rattle.sums.specs.declared.reader.Stage.{Stage}
use Rattle.sums.specs.declared.reader.Stage.TheVariants as stage
use Rattle.sums.specs.declared.token.Token.{Token}

abbrev pub file_word : List ℕ
file_word = 102 ∷ 105 ∷ 108 ∷ 101 ∷ []

abbrev pub all_word : List ℕ
all_word = 97 ∷ 108 ∷ 108 ∷ []

-- Where a line begins; where a number does; in a line that is passed over; behind a fault.
abbrev pub line_from : ℕ → ℕ → Reader
line_from place line = record { stage = stage.Word; place = place; token = no_token; line = line }

abbrev pub start_of : Reader
start_of = line_from 0 1

abbrev pub staged : Stage → ℕ → Reader → Reader
staged s place r = record { stage = s; place = place; token = no_token; line = r.line }

abbrev pub with_octet : Reader → ℕ → Reader
with_octet r x = record { stage = r.stage; place = r.place; token = token_with r.token x; line = r.line }

abbrev pub fault_of : Reader → Reader
fault_of r = staged stage.Fault r.place r

-- A heading stands before a block only.
unfoldable pub heading_of : ℕ → Token → ℕ → ℕ → Bool
heading_of place t seen word = eqb place 0 && is_packed t seen word

abbrev pub is_heading : Reader → List ℕ → Bool
is_heading r w = heading_of r.place r.token (length w) (packed 0 w)

-- A line's word, and a blank: `file ..` and the mean are passed over, a line of the block goes on to its first number.
unfoldable pub word_blank : Reader → Reader
word_blank r =
    pick (is_heading r file_word) (staged stage.Rest 0 r)
    (pick (opens r.place r.token) (staged (pick (eqb r.place 23) stage.Rest stage.Number) r.place r) (fault_of r))

-- A line's word, and its end: `all`.
unfoldable pub word_line : Reader → Reader
word_line r = pick (is_heading r all_word) (line_from 0 (line_after r.line)) (fault_of r)

-- A number, and a blank: another comes. A number, and the line's end: it was the last.
unfoldable pub number_blank : Reader → Reader
number_blank r =
    pick (is_some (number_of r.token) && not (last_of_line r.place)) (staged stage.Number (place_after r.place) r) (fault_of r)

unfoldable pub number_line : Reader → Reader
number_line r =
    pick (is_some (number_of r.token) && last_of_line r.place) (line_from (place_after r.place) (line_after r.line)) (fault_of r)

-- One octet more; 10 ends a line, 32 is a blank. Behind a line that is passed over a block may begin.
abbrev pub next_by : Stage → Reader → ℕ → Reader
next_by stage.Word r x = pick (eqb x 10) (word_line r) (pick (eqb x 32) (word_blank r) (with_octet r x))
next_by stage.Number r x = pick (eqb x 10) (number_line r) (pick (eqb x 32) (number_blank r) (with_octet r x))
next_by stage.Rest r x = pick (eqb x 10) (line_from 0 (line_after r.line)) r
next_by stage.Fault r x = r

unfoldable pub next_of : Reader → ℕ → Reader
next_of r x = next_by r.stage r x
