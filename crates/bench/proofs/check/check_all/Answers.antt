-- `bench::check::check_all` meets its contract: its rounds keep to the run and to the comparison (specs/Check.antt).
-- Assumes nothing.
use borrow.Author.Rules.{rules}
use mathlib.Core.Path.{refl}
use Rattle.bench.proofs.Checks.{at_first, round_on, unbroken_first}
use Rattle.bench.proofs.check.check_all.Goals as goal

pub loop-init : goal.loop-init
loop-init c = (search rules, search rules, search rules, search rules, unbroken_first _ c.at_first-c.ensures, at_first _ _ _ _ _ refl refl refl c.at_first-c.ensures)

pub loop-preserved : goal.loop-preserved
loop-preserved c = (search rules, search rules, search rules, search rules, c.if-c.false, round_on _ _ _ _ _ c.loop.invariant.5 c.loop.invariant.4 (search rules) (search rules) c.loop.invariant.2 (search rules) c.check_round-c.ensures)
