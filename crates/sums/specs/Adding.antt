-- The numbers of printed blocks added up, octet by octet.
-- Assumes nothing.
use Rattle.std.specs.Prelude.{ℕ, Bool, true, false, ◌&&◌, ◌||◌, List, [], ◌∷◌, eqb, Option, Some, None}
use Rattle.octets.specs.Pick.{pick}
use Rattle.sums.specs.Block.{plus_of}
use Rattle.sums.specs.Reader.{next_of}
use Rattle.sums.specs.Sums.{Total}
use Rattle.sums.specs.Token.{number_of}
use Rattle.sums.specs.declared.adding.Adding.{Adding}
use Rattle.sums.specs.declared.reader.Reader.{Reader}
use Rattle.sums.specs.declared.reader.Stage.{Stage}
use Rattle.sums.specs.declared.reader.Stage.TheVariants as stage

-- A number that ends with an octet is added at its place.
abbrev pub in_number : Stage → Bool
in_number stage.Word = false
in_number stage.Number = true
in_number stage.Rest = false
in_number stage.Fault = false

unfoldable pub ends_number : Reader → ℕ → Bool
ends_number r x = in_number r.stage && (eqb x 10 || eqb x 32)

abbrev pub added_number : List Total → ℕ → Option Total → List Total
added_number b place None = b
added_number b place (Some t) = plus_of b place t

unfoldable pub added_with : List Total → Reader → ℕ → List Total
added_with b r x = pick (ends_number r x) (added_number b r.place (number_of r.token)) b

-- Octets, one behind the other: where the reader is behind them, and the block with their numbers.
unfoldable pub read_from : Reader → List ℕ → Reader
read_from r [] = r
read_from r (x ∷ xs) = read_from (next_of r x) xs

unfoldable pub added_from : List Total → Reader → List ℕ → List Total
added_from b r [] = b
added_from b r (x ∷ xs) = added_from (added_with b r x) (next_of r x) xs

-- Both at once, and an octet more of both.
unfoldable pub adding_with : Adding → ℕ → Adding
adding_with a x = record { block = added_with a.block a.reader x; reader = next_of a.reader x }

abbrev pub adding_from : Adding → List ℕ → Adding
adding_from a xs = record { block = added_from a.block a.reader xs; reader = read_from a.reader xs }

-- Behind a line that is of no block.
abbrev pub in_fault : Stage → Bool
in_fault stage.Word = false
in_fault stage.Number = false
in_fault stage.Rest = false
in_fault stage.Fault = true

unfoldable pub failed_of : Reader → Bool
failed_of r = in_fault r.stage

-- Where an input may end: where a block may begin.
abbrev pub in_word : Stage → Bool
in_word stage.Word = true
in_word stage.Number = false
in_word stage.Rest = false
in_word stage.Fault = false

unfoldable pub finished_of : Reader → Bool
finished_of r = in_word r.stage && (eqb r.place 0 && eqb r.token.seen 0)
