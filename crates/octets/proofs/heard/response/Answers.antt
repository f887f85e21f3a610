-- `octets::heard::response` meets its contract: the fields of the response, each read by its function.
-- Assumes nothing.
use Rattle.octets.proofs.Branch.{tests}
use Rattle.octets.specs.Heard.{response_of}
use Rattle.octets.proofs.heard.response.Goals as goal

pub returns : goal.returns
unfolding response_of
returns c = search (tests, ← c.first_comeback.ensures, ← c.u16_at-2.ensures, ← c.u16_at.ensures)
