-- `table::host::others::others_in` meets its contract: what is found in the places passed is all there is at the end.
-- Assumes nothing.
use Rattle.table.proofs.Passes.Tallies.{Tallied}
use Rattle.table.specs.Rows.{records_of}
use Rattle.table.proofs.host.others.others_in.Given as goal

abbrev pub invariant-loop-i : goal.invariant-loop-i
invariant-loop-i l = Tallied (records_of l.table) l.associated l.joined l.associating l.i
