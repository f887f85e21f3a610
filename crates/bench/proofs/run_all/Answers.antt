-- `bench::run_all` meets its contract: its rounds go one behind the other (specs/Rounds.antt).
-- Assumes nothing.
use borrow.Author.Rules.{rules}
use mathlib.Core.Path.{refl}
use Rattle.bench.proofs.Reached.{at_start, round_on}
use Rattle.bench.proofs.run_all.Goals as goal

pub loop-init : goal.loop-init
loop-init c = (search rules, search rules, search rules, at_start _ _ _ _ _ refl refl refl c.new-r.ensures)

pub loop-preserved : goal.loop-preserved
loop-preserved c = (search rules, search rules, search rules, round_on _ _ _ _ c.loop.invariant.3 c.if-r.false (search rules) (search rules) c.loop.invariant.2 c.round-r.ensures)
