-- `table::records::seat::met` meets its contract: the table stays, or the record is stored.
-- Assumes nothing.
use Rattle.table.specs.Seat.{met_of}
use Rattle.table.proofs.records.seat.met.Goals as goal
use Rattle.table.proofs.records.seat.met.Goals.{in-None, in-Some}

pub returns : goal.returns
unfolding met_of
returns c =
    elim c.match-c.branch [
      | in-None w ↦ rw (w.table-is, w.in-None.is)
      | in-Some w ↦ rw (w.table-is, w.in-Some.is, w.stored-table.ensures)
    ]
