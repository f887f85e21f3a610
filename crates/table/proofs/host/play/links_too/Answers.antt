-- `table::host::play::links_too` meets its contract: each answer by the tests that led to it and what its callee ensures.
-- Assumes nothing.
use Rattle.table.specs.Ruled.{new_at}
use Rattle.table.proofs.host.play.links_too.Goals as goal

pub returns-then-naming : goal.returns-then-naming
returns-then-naming c = rw c.if-naming.true

pub returns-in-None : goal.returns-in-None
unfolding new_at
returns-in-None c = rw (c.if-naming.false, c.in-None.is)

pub returns-in-Some : goal.returns-in-Some
unfolding new_at
returns-in-Some c = rw (c.if-naming.false, c.in-Some.is, c.look.ensures)
