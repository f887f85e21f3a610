-- `table::host::survey::clear` meets its contract: the row is plain and its mark new, or the promise says nothing.
-- Assumes nothing.
use Rattle.peer.proofs.Fits.{wrong}
use borrow.Author.Tests.{not-true}
use native.Mathlib.Omega.{arith}
use Rattle.table.proofs.host.survey.clear.Goals as goal

pub returns-then-i-eq0 : goal.returns-then-i-eq0
returns-then-i-eq0 c = λ t. wrong t

pub returns-then-plain : goal.returns-then-plain
returns-then-plain c =
    λ t. rw (← c.row_at-r.ensures, ← c.mark.ensures)
    (omega (arith, c.if-i-eq0.false), (c.plain.ensures c.if-plain.true).0, (c.plain.ensures c.if-plain.true).1, not-true _ t)
