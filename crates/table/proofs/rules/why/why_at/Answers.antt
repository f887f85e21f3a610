-- `table::rules::why::why_at` meets its contract: each event by its own list.
-- Assumes nothing.
use mathlib.Core.Path.{ap}
use Rattle.table.specs.Ruled.{asking}
use Rattle.table.proofs.rules.why.why_at.Goals as goal

pub returns-in-Frame : goal.returns-in-Frame
returns-in-Frame g c = λ l o. rw (c.in-Frame.is, ← c.associates.ensures, ← c.read.ensures) (c.why_read.ensures l)

pub returns-in-Ask : goal.returns-in-Ask
returns-in-Ask g c = λ l o. rw c.in-Ask.is (c.why_asked.ensures l (o (ap asking c.in-Ask.is)))

pub returns-in-Links : goal.returns-in-Links
returns-in-Links g c = λ l o. rw c.in-Links.is (c.why_linked.ensures l)

pub returns-in-Clock : goal.returns-in-Clock
returns-in-Clock g c = λ l o. rw c.in-Clock.is c.why_passed.ensures
