-- `table::records::lent::load` meets its contract: each turn copies one record, and at the end all are copied.
-- Assumes nothing.
use Rattle.std.proofs.Common.{arith, ◌≡◌, length, length-set, add-one}
use Rattle.table.proofs.Walks.Copied.{copied_all, copied_more}
use Rattle.table.proofs.records.lent.load.Goals as goal

pub loop-i-preserved : goal.loop-i-preserved
loop-i-preserved c =
    let long : length c.loop-i.a ≡ 32 = c.loop-i.invariant.long in
    record { small = omega arith; long = rw length-set long; same = rw add-one (copied_more _ c.loop-i.i _ _ c.loop-i.invariant.same (omega arith) (omega arith)) }

pub returns : goal.returns
returns c =
    let at_end : c.loop-i.i ≡ 32 = omega arith in
    copied_all 32 _ _ c.loop-i.invariant.long c.requires (rw at_end at c.loop-i.invariant.same)
