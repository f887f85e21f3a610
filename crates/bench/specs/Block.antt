-- 02, K12: a block of the month as it is printed, one line each: `events N`, `refusals` with nine numbers (1 to 9), `discards` with three (no class, class
-- filter, group rule), `joins N`, `leaves N`, `timeouts` with five (kinds 1 to 5), `holds N`, `longest N`, `total N`, `mean A/B`.
-- Assumes nothing.
use Rattle.std.specs.Prelude.{ℕ, zero, suc, ◌+◌, List, [], ◌∷◌, ◌++◌, get_or, Option, Some, None}
use Rattle.sums.specs.Block.{mean_of}
use Rattle.sums.specs.Place.{events_word, refusals_word, discards_word, joins_word, leaves_word, timeouts_word, holds_word, longest_word, total_word, mean_word}
use Rattle.sums.specs.Sums as sums
use Rattle.sums.specs.Token.{over_word}
use Rattle.sums.specs.declared.fraction.Fraction.{Fraction}
use Rattle.sums.specs.Sums.{Total}
use Rattle.bench.specs.Output.{Line, said}
use Rattle.bench.specs.Text.{tens}

-- A blank, and a number in decimal; "A total that would pass 64 bits prints `over` in its own place".
abbrev pub number_text : Total → List ℕ
number_text (Some n) = 32 ∷ tens 20 n
number_text None = 32 ∷ over_word

-- So many numbers of a block, from a place on.
unfoldable pub numbers_from : List Total → ℕ → ℕ → List ℕ
numbers_from b first zero = []
numbers_from b first (suc count) = number_text (get_or b first sums.zero) ++ numbers_from b (first + 1) count

-- A line: its word, its numbers, LF.
unfoldable pub row_text : List ℕ → List Total → ℕ → ℕ → List ℕ
row_text word b first count = word ++ numbers_from b first count ++ (10 ∷ [])

abbrev pub row_line : List ℕ → List Total → ℕ → ℕ → Line
row_line word b first count = record { room = 256; text = row_text word b first count }

-- "the mean hold as a reduced fraction"; "the mean follows the total hold"
unfoldable pub fraction_text : Fraction → List ℕ
fraction_text f = tens 20 f.top ++ (47 ∷ []) ++ tens 20 f.bottom

abbrev pub mean_number : Option Fraction → List ℕ
mean_number (Some f) = fraction_text f
mean_number None = over_word

unfoldable pub mean_text : Option Fraction → List ℕ
mean_text m = mean_word ++ (32 ∷ []) ++ mean_number m ++ (10 ∷ [])

abbrev pub mean_line : Option Fraction → Line
mean_line m = record { room = 256; text = mean_text m }

-- The ten lines.
abbrev pub event_lines : List Total → List Line
event_lines b = row_line events_word b 0 1 ∷ row_line refusals_word b 1 9 ∷ row_line discards_word b 10 3 ∷ []

abbrev pub peer_lines : List Total → List Line
peer_lines b = row_line joins_word b 13 1 ∷ row_line leaves_word b 14 1 ∷ row_line timeouts_word b 15 5 ∷ []

abbrev pub hold_lines : List Total → List Line
hold_lines b =
    row_line holds_word b 20 1 ∷ row_line longest_word b 21 1 ∷ row_line total_word b 22 1 ∷ mean_line (mean_of b) ∷ []

unfoldable pub block_lines : List Total → List Line
block_lines b = event_lines b ++ peer_lines b ++ hold_lines b

abbrev pub block_text : List Total → List ℕ
block_text b = said (block_lines b)
