-- `bench::month::block_in` meets its contract: one number more, and all of them.
-- Assumes nothing.
use native.Mathlib.Numerals.{add-one}
use native.Mathlib.Omega.{arith}
use mathlib.Core.Path.{◌≡◌, refl, ◌∙◌}
use Rattle.bench.specs.Facts.{numbers_in}
use Rattle.bench.proofs.month.block_in.Goals as goal

pub loop-i-init : goal.loop-i-init
loop-i-init c = rw c.hold-block.ensures refl

pub loop-i-preserved : goal.loop-i-preserved
loop-i-preserved c = rw (add-one, c.number.ensures, c.loop-i.invariant) refl

pub returns : goal.returns
unfolding numbers_in
returns c = let e : c.loop-i.i ≡ 21 = omega arith in c.loop-i.invariant ∙ rw e refl
