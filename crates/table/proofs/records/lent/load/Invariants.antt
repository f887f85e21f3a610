-- `table::records::lent::load` meets its contract: the records before the place reached are copied.
-- Assumes nothing.
use Rattle.std.proofs.Common.{◌≡◌, ◌≤◌, ◌-◌, take, length}
use Rattle.table.proofs.records.lent.load.Given as goal

abbrev pub invariant-loop-i : goal.invariant-loop-i
invariant-loop-i l = record { small : l.i ≤ 32; long : length l.a ≡ 32; same : take l.i l.a ≡ take l.i l.t }

abbrev pub decreases-loop-i : goal.decreases-loop-i
decreases-loop-i l = 32 - l.i
