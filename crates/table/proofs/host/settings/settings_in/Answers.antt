-- `table::host::settings::settings_in` meets its contract: by its fields, where the length is right.
-- Assumes nothing.
use Rattle.table.specs.Boundary.{settings_in}
use Rattle.table.proofs.host.settings.settings_in.Goals as goal

pub all_in-requires : goal.all_in-requires
all_in-requires c = c.if-s-eq24.true

pub returns-then-s-eq24 : goal.returns-then-s-eq24
returns-then-s-eq24 c = c.all_in.ensures

pub returns-then-not-settings_length : goal.returns-then-not-settings_length
unfolding settings_in
returns-then-not-settings_length c = rw (← c.settings_length.ensures, c.if-not-settings_length.true)

pub returns : goal.returns
unfolding settings_in
returns c = rw (← c.settings_length.ensures, c.if-not-settings_length.false, ← c.address_at.ensures, ← c.address_at-2.ensures, ← c.u16_at.ensures, ← c.u16_at-2.ensures, ← c.octet_at.ensures, ← c.octet_at-2.ensures, ← c.edition_in.ensures, ← c.octet_at-3.ensures, ← c.retry_in.ensures, ← c.maximum_in.ensures)
