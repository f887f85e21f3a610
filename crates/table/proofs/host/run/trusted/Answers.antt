-- `table::host::run::trusted` meets its contract: what is left to know is whether any record has links.
-- Assumes nothing.
use Rattle.table.proofs.Octets.KnownLaws.{known_sound}
use Rattle.table.proofs.host.run.trusted.Goals as goal

pub returns : goal.returns
returns c = λ s e h. known_sound s _ _ _ h e c.linked_now.ensures
