-- `bench::line::ds_letter` meets its contract: by its cases.
-- Assumes nothing.
use Rattle.std.proofs.lemmas.Bool.Decides.{nat_tests}
use native.Mathlib.Omega.{arith}
use Rattle.bench.specs.Line.{ds_letter}
use Rattle.bench.proofs.line.ds_letter.Goals as goal

pub returns-in-1 : goal.returns-in-1
unfolding ds_letter
returns-in-1 c = grind (arith, nat_tests)

pub returns-in-2 : goal.returns-in-2
unfolding ds_letter
returns-in-2 c = grind (arith, nat_tests)

pub returns-in_default : goal.returns-in_default
unfolding ds_letter
returns-in_default c = grind (arith, nat_tests)
