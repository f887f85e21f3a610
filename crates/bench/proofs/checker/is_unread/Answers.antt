-- `bench::checker::is_unread` meets its contract: the definition's cases are the code's.
-- Assumes nothing.
use Rattle.std.proofs.lemmas.Bool.{not-false, not-true}
use Rattle.std.proofs.lemmas.Bool.Decides.{nat_tests}
use native.Mathlib.Omega.{arith}
use Rattle.bench.specs.Check.{is_unread}
use Rattle.bench.proofs.checker.is_unread.Goals as goal

pub returns-then-not-r : goal.returns-then-not-r
unfolding is_unread
returns-then-not-r c = grind (arith, nat_tests, not-true, not-false)

pub returns-else-not-r : goal.returns-else-not-r
unfolding is_unread
returns-else-not-r c = grind (arith, nat_tests, not-true, not-false)
