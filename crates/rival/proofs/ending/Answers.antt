-- `rival::ending` meets its contract: from where `compare` got to, by what each of the two has left.
-- Assumes nothing.
use mathlib.Core.Path.{sym}
use native.Mathlib.Omega.{arith}
use Rattle.rival.proofs.Passing.{said_differs, said_right, said_short, said_long}
use Rattle.rival.proofs.ending.Goals as goal

pub returns-then-t : goal.returns-then-t
returns-then-t c = rw c.next_line.ensures (sym (said_differs _ _ _ _ c.compare-at.ensures c.if-t.true))

pub returns-then-theirs-at : goal.returns-then-theirs-at
returns-then-theirs-at c = sym (said_right _ _ _ _ c.compare-at.ensures c.if-t.false (omega (arith, c.if-ours-at.true)) (omega (arith, c.if-theirs-at.true)))

pub returns-then-ours-at : goal.returns-then-ours-at
returns-then-ours-at c = rw (c.alone.ensures, c.other_field.ensures, c.octet_or_end-y.ensures) (sym (said_long _ _ _ _ c.compare-at.ensures c.if-t.false (omega (arith, c.if-ours-at.true)) (omega (arith, c.if-theirs-at.false))))

pub returns : goal.returns
returns c = rw (c.alone-2.ensures, c.other_field-2.ensures, c.octet_or_end-x.ensures) (sym (said_short _ _ _ _ c.compare-at.ensures c.if-t.false (omega (arith, c.if-ours-at.false))))
