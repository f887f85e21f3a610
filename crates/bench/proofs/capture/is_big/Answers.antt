-- `bench::capture::is_big` meets its contract: by the number that it reads.
-- Assumes nothing.
use Rattle.bench.specs.Capture.{big_of}
use Rattle.octets.proofs.Branch.{tests}
use Rattle.bench.proofs.capture.is_big.Goals as goal

pub returns : goal.returns
unfolding big_of
returns c = search (tests, ← c.number_at.ensures)
