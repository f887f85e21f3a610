-- `sums::total::add` meets its contract: by the cases of both, and by what `checked_add` ensures.
-- Assumes nothing.
use Rattle.sums.proofs.Totals.{held_sum}
use Rattle.sums.proofs.total.add.Goals as goal

pub returns : goal.returns
returns c = rw (c.in_ok-a.was, c.in_ok-b.was) (held_sum _ _ c.checked_add.ensures)
