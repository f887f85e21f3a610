-- `table::records::lent::store` meets its contract: each turn puts one record back, and at the end all are back.
-- Assumes nothing.
use Rattle.std.proofs.Common.{rules, arith, ◌≡◌, length, add-one}
use Rattle.table.proofs.Walks.Copied.{copied_all, copied_more}
use Rattle.table.proofs.records.lent.store.Goals as goal

pub loop-i-preserved : goal.loop-i-preserved
loop-i-preserved c =
    let long : length c.args.a ≡ 32 = search rules in
    let lent : length c.loop-i.t ≡ 32 = search rules in
    record { small = omega arith; same = rw add-one (copied_more _ c.loop-i.i _ _ c.loop-i.invariant.same (omega arith) (omega arith)) }

pub returns : goal.returns
returns c =
    let long : length c.args.a ≡ 32 = search rules in
    let lent : length c.loop-i.t ≡ 32 = search rules in
    let at_end : c.loop-i.i ≡ 32 = omega arith in
    copied_all 32 _ _ lent long (rw at_end at c.loop-i.invariant.same)
