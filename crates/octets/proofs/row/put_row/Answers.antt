-- `octets::row::put_row` meets its contract: its head, and its links behind it.
-- Assumes nothing.
use Rattle.octets.proofs.Stores.{then}
use Rattle.octets.specs.Field.{octets}
use Rattle.octets.specs.Row.{head_octets, query_octets, row_in, row_octets}
use Rattle.std.proofs.Common.{refl}
use Rattle.octets.proofs.row.put_row.Goals as goal

pub returns : goal.returns
unfolding row_in row_octets head_octets query_octets octets
returns c = rw (← c.has_row.ensures, c.if-not-has_row.false) (then c.put_fields.ensures c.put_links.ensures refl).is
