-- `table::records::play::addresses_of` meets its contract: the addresses of the places passed are written down.
-- Assumes nothing.
use Rattle.table.proofs.Passes.Views.{named_more, named_none}
use borrow.Author.Rules.{rules}
use mathlib.Core.Path.{◌≡◌, refl}
use native.Mathlib.Omega.{arith}
use Rattle.table.proofs.records.play.addresses_of.Goals as goal

pub loop-i-init : goal.loop-i-init
loop-i-init c = (search rules, omega arith, named_none _ _ (search rules) (search rules))

pub loop-i-preserved : goal.loop-i-preserved
loop-i-preserved c = (c.loop-i.invariant.0, omega arith, named_more _ _ _ c.loop-i.invariant.0 c.loop-i.invariant.1 c.loop-i.invariant.2 c.loop-i-test.true _ refl)
