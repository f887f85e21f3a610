-- `bench::capture::time_at` meets its contract: by the two numbers that it reads.
-- Assumes nothing.
use Rattle.bench.specs.Capture.{time_at}
use Rattle.bench.proofs.capture.time_at.Goals as goal

pub returns : goal.returns
unfolding time_at
returns c = rw (← c.number_at-seconds.ensures, ← c.number_at-over.ensures)
