-- `bench::month::count_file` meets its contract: its turns go one behind the other, and what each left is counted.
-- Assumes nothing.
use Rattle.bench.proofs.MonthCounts.{count_again, count_start}
use Rattle.bench.specs.Month.{so}
use borrow.Author.Rules.{rules}
use mathlib.Core.Path.{refl}
use Rattle.bench.proofs.month.count_file.Goals as goal

pub loop-gone-init : goal.loop-gone-init
loop-gone-init c = (search rules, search rules, search rules, count_start _ _ _ _ _ refl refl refl c.new-r.ensures c.empty-block.ensures)

pub returns-then-r : goal.returns-then-r
returns-then-r c = so c.loop-gone.invariant.3 refl

pub loop-gone-preserved : goal.loop-gone-preserved
loop-gone-preserved c = (search rules, search rules, search rules, count_again _ _ _ _ _ _ _ _ _ _ c.loop-gone.invariant.3 c.if-r.false c.loop-gone.invariant.1 c.loop-gone.invariant.2 (search rules) (search rules) c.turn-next.ensures c.added-more.ensures refl c.emptied-r.ensures)

pub returns : goal.returns
returns c = so c.loop-gone.invariant.3 refl
