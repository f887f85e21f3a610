-- `bench::facts::put_answer` meets its contract: four runs of octets, one behind the other.
-- Assumes nothing.
use Rattle.bench.proofs.Counting.{answer_stored}
use native.Mathlib.Omega.{arith}
use Rattle.bench.proofs.facts.put_answer.Goals as goal

pub returns : goal.returns
returns c = (omega arith, answer_stored _ _ c.put_octet.ensures c.put_ones-p1.ensures.1 c.put_ones-p1.ensures.0 c.put_ones-p2.ensures.1 c.put_ones-p2.ensures.0 c.put_ones.ensures.1)
