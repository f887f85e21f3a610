-- What is said of small logs, computed: of two lines, "1 0 7" and "2 5", and a log beside them. And calls in pieces.
-- Assumes nothing.
use Prim.Native.Nat.{ℕ}
use mathlib.Core.Path.{◌≡◌, refl}
use mathlib.Core.Bool.{true, false}
use mathlib.Core.List.{List, [], ◌∷◌}
use Rattle.rival.specs.Alike.{met_from, same}
use Rattle.rival.specs.Beside.{beside_of, compared_of, field_after, other_field, standing_at_first}
use Rattle.rival.specs.Log.{field_at, field_of, lines_of, one_more, pieces_of, said_of, say_of, up_to}
use Rattle.rival.specs.Pieces.{Went, begun, compared, log_came, ours_came}
use Rattle.rival.specs.Says.{Differing}
use Rattle.rival.specs.declared.Said.TheVariants.{Right, Differs, Short, Long}
use Rattle.rival.proofs.Exact.{exactly}

abbrev two : List ℕ
two = 49 ∷ 32 ∷ 48 ∷ 32 ∷ 55 ∷ 10 ∷ 50 ∷ 32 ∷ 53 ∷ 10 ∷ []

-- the log is ours
pub all_right : said_of two (49 ∷ 32 ∷ 48 ∷ 32 ∷ 55 ∷ 10 ∷ 50 ∷ 32 ∷ 53 ∷ 10 ∷ []) ≡ Right
unfolding say_of met_from same lines_of field_of field_at pieces_of up_to
all_right = refl

-- "1 0 8" for "1 0 7": the third field of the first line
pub other_piece : said_of two (49 ∷ 32 ∷ 48 ∷ 32 ∷ 56 ∷ 10 ∷ 50 ∷ 32 ∷ 53 ∷ 10 ∷ []) ≡ Differs 1 2
unfolding say_of met_from same lines_of field_of field_at pieces_of up_to
other_piece = refl

-- "2" for "2 5": the second field of the second line is missing
pub missing_piece : said_of two (49 ∷ 32 ∷ 48 ∷ 32 ∷ 55 ∷ 10 ∷ 50 ∷ 10 ∷ []) ≡ Differs 2 1
unfolding say_of met_from same lines_of field_of field_at pieces_of up_to
missing_piece = refl

-- the last line feed is missing: the form
pub no_feed : said_of two (49 ∷ 32 ∷ 48 ∷ 32 ∷ 55 ∷ 10 ∷ 50 ∷ 32 ∷ 53 ∷ []) ≡ Differs 2 8
unfolding say_of met_from same lines_of field_of field_at pieces_of up_to
no_feed = refl

-- more behind the last piece: the form
pub one_behind : said_of two (49 ∷ 32 ∷ 48 ∷ 32 ∷ 55 ∷ 10 ∷ 50 ∷ 32 ∷ 53 ∷ 32 ∷ 57 ∷ 10 ∷ []) ≡ Differs 2 8
unfolding say_of met_from same lines_of field_of field_at pieces_of up_to
one_behind = refl

-- the piece "7" with a carriage return behind it is another piece
pub carriage : said_of two (49 ∷ 32 ∷ 48 ∷ 32 ∷ 55 ∷ 13 ∷ 10 ∷ []) ≡ Differs 1 2
unfolding say_of met_from same lines_of field_of field_at pieces_of up_to
carriage = refl

-- the log ends behind the first line
pub ends_early : said_of two (49 ∷ 32 ∷ 48 ∷ 32 ∷ 55 ∷ 10 ∷ []) ≡ Short 1
unfolding say_of met_from same lines_of field_of field_at pieces_of up_to
ends_early = refl

-- an empty log
pub no_log : said_of two ([]) ≡ Short 0
unfolding say_of met_from same lines_of field_of field_at pieces_of up_to
no_log = refl

-- a line more
pub goes_on : said_of two (49 ∷ 32 ∷ 48 ∷ 32 ∷ 55 ∷ 10 ∷ 50 ∷ 32 ∷ 53 ∷ 10 ∷ 10 ∷ []) ≡ Long 2
unfolding say_of met_from same lines_of field_of field_at pieces_of up_to
goes_on = refl

-- So the first line of "1 0 8" and its third field are where the two part.
pub other_means : Differing two (49 ∷ 32 ∷ 48 ∷ 32 ∷ 56 ∷ 10 ∷ 50 ∷ 32 ∷ 53 ∷ 10 ∷ []) 1 2
other_means = (exactly two (49 ∷ 32 ∷ 48 ∷ 32 ∷ 56 ∷ 10 ∷ 50 ∷ 32 ∷ 53 ∷ 10 ∷ []) (Differs 1 2)).0 other_piece

-- Ours in two pieces, the log in one, compared twice: three octets, "1 0", and then the log's end is reached, "1 0 7".
pub in_pieces : Went (record { lines = 0; field = 2; inside = true; apart = false }) (10 ∷ 50 ∷ 32 ∷ 53 ∷ 10 ∷ []) [] (49 ∷ 32 ∷ 48 ∷ 32 ∷ 55 ∷ 10 ∷ 50 ∷ 32 ∷ 53 ∷ 10 ∷ []) (49 ∷ 32 ∷ 48 ∷ 32 ∷ 55 ∷ [])
unfolding standing_at_first compared_of beside_of field_after other_field one_more
in_pieces =
    compared {r = record { standing = record { lines = 0; field = 2; inside = true; apart = false }; taken = 2 }}
    (ours_came (32 ∷ 55 ∷ 10 ∷ 50 ∷ 32 ∷ 53 ∷ 10 ∷ [])
    (compared {r = record { standing = record { lines = 0; field = 1; inside = true; apart = false }; taken = 3 }}
    (log_came (49 ∷ 32 ∷ 48 ∷ 32 ∷ 55 ∷ []) (ours_came (49 ∷ 32 ∷ 48 ∷ []) begun))
    refl))
    refl
