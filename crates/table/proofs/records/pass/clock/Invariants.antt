-- `table::records::pass::clock` meets its contract: what is written and what is still to be written are all reports; the places passed are as they must be.
-- Assumes nothing.
use Rattle.table.proofs.Passes.Ticks.{Kept}
use Rattle.table.proofs.records.pass.clock.Given as goal

abbrev pub invariant-loop-i : goal.invariant-loop-i
invariant-loop-i l = Kept l.s l.d l.initial.out l.initial.p-items l.out l.p-items l.n l.i
