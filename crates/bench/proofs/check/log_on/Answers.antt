-- `bench::check::log_on` meets its contract: it stays, or more came, or it could not be read.
-- Assumes nothing.
use mathlib.Core.Path.{refl}
use Rattle.bench.specs.Check.{came, read_on, stayed, unread}
use Rattle.bench.proofs.check.log_on.Goals as goal

pub returns-then-c : goal.returns-then-c
returns-then-c c = stayed refl refl

pub returns-then-c-2 : goal.returns-then-c-2
returns-then-c-2 c = stayed refl refl

pub returns-in-Ok : goal.returns-in-Ok
unfolding read_on
returns-in-Ok c = came c.in-Ok.n c.if-c.false (rw c.behind.ensures)

pub returns-in-Err : goal.returns-in-Err
returns-in-Err c = unread c.lost.ensures
