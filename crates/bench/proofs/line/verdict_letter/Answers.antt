-- `bench::line::verdict_letter` meets its contract: by its cases.
-- Assumes nothing.
use Rattle.std.proofs.lemmas.Bool.Decides.{nat_tests}
use native.Mathlib.Omega.{arith}
use Rattle.bench.specs.Line.{verdict_letter}
use Rattle.bench.proofs.line.verdict_letter.Goals as goal

pub returns-in-1 : goal.returns-in-1
unfolding verdict_letter
returns-in-1 c = grind (arith, nat_tests)

pub returns-in-2 : goal.returns-in-2
unfolding verdict_letter
returns-in-2 c = grind (arith, nat_tests)

pub returns-in_default : goal.returns-in_default
unfolding verdict_letter
returns-in_default c = grind (arith, nat_tests)
