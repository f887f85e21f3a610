-- `bench::import::is_settings` meets its contract: by what `take` finds.
-- Assumes nothing.
use Rattle.std.proofs.lemmas.Bool.Decides.{nat_tests}
use native.Mathlib.Omega.{arith}
use Rattle.bench.specs.Import.{one_settings}
use Rattle.bench.proofs.import.is_settings.Goals as goal

pub returns-in-First : goal.returns-in-First
unfolding one_settings
returns-in-First c = grind (arith, nat_tests)

pub returns-in_default : goal.returns-in_default
unfolding one_settings
returns-in_default c = grind (arith, nat_tests)
