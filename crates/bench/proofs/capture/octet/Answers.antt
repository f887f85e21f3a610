-- `bench::capture::octet` meets its contract: a field of one octet is that octet.
-- Assumes nothing.
use Rattle.octets.proofs.Le.{le_one}
use native.Mathlib.Omega.{arith}
use Rattle.bench.proofs.capture.octet.Goals as goal

pub returns : goal.returns
returns c = le_one c.args.xs.now c.args.at (omega arith)
