-- `bench::capture::is_linked` meets its contract: by the number that it reads.
-- Assumes nothing.
use Rattle.bench.specs.Capture.{linked}
use Rattle.octets.proofs.Branch.{tests}
use Rattle.bench.proofs.capture.is_linked.Goals as goal

pub returns : goal.returns
unfolding linked
returns c = search (tests, ← c.number_at.ensures, ← c.is_big.ensures)
