-- `table::host::run::run` meets its contract: a turn of the loop is one event, and what is still to come is what the definition still gives.
-- Assumes nothing.
use Rattle.table.proofs.Octets.RunLaws.{place_inside, run_bounds, run_end, run_more, run_start, run_stop}
use mathlib.Core.Path.{◌≡◌}
use native.Mathlib.Omega.{arith}
use Rattle.table.proofs.host.run.run.Goals as goal

pub loop-n-init : goal.loop-n-init
loop-n-init c = run_start _ _ _ _ _ _ _ _ c.answers_in-most.ensures c.checked-k.ensures

pub overflow_mul-n : goal.overflow_mul-n
overflow_mul-n c = omega (arith, place_inside _ _ _ _ _ _ _ _ _ _ _ _ _ _ c.loop-n.invariant c.loop-n-test.true, c.loop-n.invariant.answers)

pub turn_at-p-requires : goal.turn_at-p-requires
turn_at-p-requires c = (c.loop-n.invariant.knows, c.loop-n.invariant.inside, c.loop-n.invariant.room, omega (arith, place_inside _ _ _ _ _ _ _ _ _ _ _ _ _ _ c.loop-n.invariant c.loop-n-test.true))

pub returns-then-p-eq0 : goal.returns-then-p-eq0
returns-then-p-eq0 c = run_stop _ _ _ _ _ _ _ _ _ _ _ _ _ _ c.loop-n.invariant c.loop-n-test.true _ _ _ _ _ c.turn_at-p.ensures.0 c.if-p-eq0.true

pub overflow_add-from : goal.overflow_add-from
overflow_add-from c = omega (arith, (run_bounds _ _ _ _ _ _ _ _ _ _ _ _ _ _ c.loop-n.invariant c.loop-n-test.true _ _ _ _ _ c.turn_at-p.ensures.0 c.if-p-eq0.false).0, c.well_formed)

pub overflow_add-at : goal.overflow_add-at
overflow_add-at c = omega (arith, (run_bounds _ _ _ _ _ _ _ _ _ _ _ _ _ _ c.loop-n.invariant c.loop-n-test.true _ _ _ _ _ c.turn_at-p.ensures.0 c.if-p-eq0.false).1, c.loop-n.invariant.out, c.well_formed)

pub loop-n-smaller : goal.loop-n-smaller
loop-n-smaller c = omega (arith, c.loop-n-test.true)

pub loop-n-preserved : goal.loop-n-preserved
loop-n-preserved c = run_more _ _ _ _ _ _ _ _ _ _ _ _ _ _ c.loop-n.invariant c.loop-n-test.true _ _ _ _ _ c.turn_at-p.ensures.0 c.if-p-eq0.false _ _ c.turn_at-p.auto.table c.turn_at-p.auto.out c.turn_at-p.auto.answers c.turn_at-p.ensures.1

pub returns : goal.returns
returns c =
    let all : c.loop-n.n ≡ c.answers_in-most.result = omega arith in
    rw all at (run_end _ _ _ _ _ _ _ _ _ _ _ _ _ _ c.loop-n.invariant c.loop-n-test.false)
