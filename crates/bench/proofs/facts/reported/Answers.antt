-- `bench::facts::reported` meets its contract: what is counted and what is still to be counted are the reports of the kind.
-- Assumes nothing.
use Rattle.bench.proofs.Counting.{reports_end, reports_start, reports_step}
use native.Mathlib.Omega.{arith}
use Rattle.bench.proofs.facts.reported.Goals as goal

pub loop-i-init : goal.loop-i-init
loop-i-init c = (reports_start _ _, omega arith, omega arith)

pub loop-i-preserved : goal.loop-i-preserved
loop-i-preserved c = (reports_step _ _ _ _ _ c.loop-i-test.true c.one-count.ensures.0 c.loop-i.invariant.0, omega arith, c.loop-i.invariant.2)

pub returns : goal.returns
returns c = reports_end _ _ _ _ c.loop-i-test.false c.loop-i.invariant.0
