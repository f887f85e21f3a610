-- `table::host::apart::link_at` meets its contract: the slot of a place, four for each.
-- Assumes nothing.
use Rattle.table.proofs.Octets.RowLaws.{slot_at}
use mathlib.Core.Path.{◌∙◌}
use Rattle.table.proofs.host.apart.link_at.Goals as goal

pub returns : goal.returns
returns c = c.link_in.ensures ∙ slot_at c.args.k c.args.table.now c.requires
