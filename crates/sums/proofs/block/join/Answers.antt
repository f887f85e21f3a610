-- `sums::block::join` meets its contract: one place more by `placewise_step`, the whole by `placewise_end`.
-- Assumes nothing.
use native.Mathlib.Omega.{arith}
use lib.ListN.{length-set}
use mathlib.Core.Path.{refl, ◌∙◌}
use Rattle.std.proofs.Common.{rules}
use Rattle.sums.specs.Block.{join_at}
use Rattle.std.specs.Prelude.{None}
use Rattle.sums.proofs.Placewise.{placewise_step, placewise_end}
use Rattle.sums.proofs.block.join.Goals as goal

pub loop-i-init : goal.loop-i-init
loop-i-init c = (search rules, refl)

pub loop-i-preserved : goal.loop-i-preserved
loop-i-preserved c =
    let p = c.loop-i in
    (simp length-set p.invariant.0, placewise_step join_at p.sums _ p.i None _ (omega arith) (omega arith) c.join_at.ensures ∙ p.invariant.1)

pub returns : goal.returns
returns c = placewise_end join_at c.loop-i.sums _ _ c.loop-i.i (omega arith) (omega arith) c.loop-i.invariant.1
