-- What is said of small logs beside the input of WholeExample.antt, whose output is "1 3 - 0 0 0 - 0" and `stop`: computed.
-- Assumes nothing.
use mathlib.Core.Path.{◌≡◌}
use mathlib.Core.List.{[], ◌∷◌}
use Rattle.rival.specs.Alike.{met_from, same}
use Rattle.rival.specs.Log.{field_at, field_of, lines_of, pieces_of, said_of, say_of, up_to}
use Rattle.rival.specs.declared.Said.TheVariants.{Right, Differs, Short, Long}
use Rattle.bench.specs.Line.{stop_line}
use Rattle.bench.specs.Printed.{bench_output}
use Rattle.bench.proofs.WholeExample.{told, told_output}

-- the output itself
pub told_right : said_of (bench_output told) (49 ∷ 32 ∷ 51 ∷ 32 ∷ 45 ∷ 32 ∷ 48 ∷ 32 ∷ 48 ∷ 32 ∷ 48 ∷ 32 ∷ 45 ∷ 32 ∷ 48 ∷ 10 ∷ stop_line) ≡ Right
unfolding say_of met_from same lines_of field_of field_at pieces_of up_to
told_right = rw told_output

-- a verdict where there is none: the third field
pub told_verdict : said_of (bench_output told) (49 ∷ 32 ∷ 51 ∷ 32 ∷ 68 ∷ 32 ∷ 48 ∷ 32 ∷ 48 ∷ 32 ∷ 48 ∷ 32 ∷ 45 ∷ 32 ∷ 48 ∷ 10 ∷ stop_line) ≡ Differs 1 2
unfolding say_of met_from same lines_of field_of field_at pieces_of up_to
told_verdict = rw told_output

-- `stop` is expected like any other line
pub told_stop : said_of (bench_output told) (49 ∷ 32 ∷ 51 ∷ 32 ∷ 45 ∷ 32 ∷ 48 ∷ 32 ∷ 48 ∷ 32 ∷ 48 ∷ 32 ∷ 45 ∷ 32 ∷ 48 ∷ 10 ∷ []) ≡ Short 1
unfolding say_of met_from same lines_of field_of field_at pieces_of up_to
told_stop = rw told_output

-- an octet behind it
pub told_more : said_of (bench_output told) (49 ∷ 32 ∷ 51 ∷ 32 ∷ 45 ∷ 32 ∷ 48 ∷ 32 ∷ 48 ∷ 32 ∷ 48 ∷ 32 ∷ 45 ∷ 32 ∷ 48 ∷ 10 ∷ 115 ∷ 116 ∷ 111 ∷ 112 ∷ 10 ∷ 50 ∷ []) ≡ Long 2
unfolding say_of met_from same lines_of field_of field_at pieces_of up_to
told_more = rw told_output
