-- `table::host::run::turn` meets its contract: each answer by what was taken.
-- Assumes nothing.
use Rattle.table.specs.Run.{gone_of}
use mathlib.Core.Path.{◌∙◌, sym}
use Rattle.table.proofs.host.run.turn.Goals as goal

pub returns-in-Cut : goal.returns-in-Cut
unfolding gone_of
returns-in-Cut c = (rw (sym c.take.ensures ∙ c.in-Cut.is, c.stop.ensures.0, c.stop.ensures.1), rw c.stop.ensures.2 c.requires)

pub returns-in-Fault : goal.returns-in-Fault
unfolding gone_of
returns-in-Fault c = (rw (sym c.take.ensures ∙ c.in-Fault.is, c.stop-in-Fault.ensures.0, c.stop-in-Fault.ensures.1), rw c.stop-in-Fault.ensures.2 c.requires)

pub returns-in-First : goal.returns-in-First
unfolding gone_of
returns-in-First c = (rw (sym c.take.ensures ∙ c.in-First.is, c.stop-in-First.ensures.0, c.stop-in-First.ensures.1), rw c.stop-in-First.ensures.2 c.requires)

pub returns-in-Next : goal.returns-in-Next
unfolding gone_of
returns-in-Next c = rw (sym c.take.ensures ∙ c.in-Next.is) c.next.ensures
