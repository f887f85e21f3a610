-- `table::records::lent::store` meets its contract: the records before the place reached are copied.
-- Assumes nothing.
use Rattle.std.proofs.Common.{◌≡◌, ◌≤◌, ◌-◌, take}
use Rattle.table.proofs.records.lent.store.Given as goal

abbrev pub invariant-loop-i : goal.invariant-loop-i
invariant-loop-i l = record { small : l.i ≤ 32; same : take l.i l.t ≡ take l.i l.a }

abbrev pub decreases-loop-i : goal.decreases-loop-i
decreases-loop-i l = 32 - l.i
