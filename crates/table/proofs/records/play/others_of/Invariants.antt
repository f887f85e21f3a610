-- `table::records::play::others_of` meets its contract: what is found in the places passed is all there is at the end.
-- Assumes nothing.
use Rattle.table.proofs.Passes.Tallies.{Tallied}
use Rattle.table.proofs.records.play.others_of.Given as goal

abbrev pub invariant-loop-i : goal.invariant-loop-i
invariant-loop-i l = Tallied l.t l.associated l.joined l.associating l.i

abbrev pub decreases-loop-i : goal.decreases-loop-i
decreases-loop-i l = l.i
