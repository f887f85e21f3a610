-- `table::host::rows::look` meets its contract: each answer by the tests that led to it and what its callees ensure.
-- Assumes nothing.
use Rattle.table.proofs.Octets.RowLaws.{at_place, no_place}
use mathlib.Core.Path.{◌∙◌}
use Rattle.table.proofs.host.rows.look.Goals as goal

pub returns-then-i-lt32 : goal.returns-then-i-lt32
returns-then-i-lt32 c = c.record_of.ensures ∙ rw c.row_at.ensures (at_place c.args.i c.args.table.now c.if-i-lt32.true)

pub returns-else-i-lt32 : goal.returns-else-i-lt32
returns-else-i-lt32 c = c.free.ensures ∙ no_place c.args.i c.args.table.now c.if-i-lt32.false
