-- `table::host::run::run` meets its contract: a turn of the loop is one event, and what is still to come is what the definition still gives.
-- Assumes nothing.
use Rattle.table.proofs.Octets.RunLaws.{Running}
use Rattle.table.proofs.host.run.run.Given as goal

abbrev pub invariant-loop-n : goal.invariant-loop-n
invariant-loop-n l = Running l.initial.table l.s l.records l.initial.out l.initial.answers l.most l.n l.from l.at l.table l.out l.answers l.k.well l.k.linked
