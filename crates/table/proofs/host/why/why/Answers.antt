-- `table::host::why::why` meets its contract: refusal 1, then by what the check tells.
-- Assumes nothing.
use mathlib.Core.Path.{◌∙◌}
use Rattle.table.proofs.Octets.WhyLaws.{short_buffer}
use Rattle.table.proofs.host.why.why.Goals as goal

pub returns-then-lent-room : goal.returns-then-lent-room
returns-then-lent-room c =
    let a = c.args in
    c.plain.ensures ∙ short_buffer a.table.now a.s a.e a.frame.now a.lent (rw c.room.ensures at c.if-lent-room.true)
