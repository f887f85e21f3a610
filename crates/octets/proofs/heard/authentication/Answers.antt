-- `octets::heard::authentication` meets its contract: the fields of the frame, each read by its function.
-- Assumes nothing.
use Rattle.octets.proofs.Branch.{tests}
use Rattle.octets.specs.Heard.{authentication_of}
use Rattle.octets.proofs.heard.authentication.Goals as goal

pub returns : goal.returns
unfolding authentication_of
returns c = search (tests, ← c.u16_at-3.ensures, ← c.u16_at-2.ensures, ← c.u16_at.ensures)
