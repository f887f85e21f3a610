-- `table::host::settings::all_in` meets its contract: each field is there.
-- Assumes nothing.
use Rattle.table.specs.Boundary.{edition_in, maximum_in, retry_in, settings_in, settings_length}
use Rattle.table.proofs.host.settings.all_in.Goals as goal

pub returns : goal.returns
unfolding settings_in settings_length edition_in retry_in maximum_in
returns c = rw (c.requires, ← c.address_at.ensures, ← c.u16_at.ensures, ← c.u16_at-2.ensures, ← c.octet_at.ensures, ← c.octet_at-2.ensures, ← c.octet_at-3.ensures, ← c.octet_at-4.ensures, ← c.u16_at-3.ensures, ← c.u16_at-4.ensures, ← c.address_at-2.ensures)
