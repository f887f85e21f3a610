-- `bench::facts::put_facts` meets its contract: three runs of octets, one behind the other.
-- Assumes nothing.
use Rattle.bench.proofs.Counting.{facts_stored}
use native.Mathlib.Omega.{arith}
use Rattle.bench.proofs.facts.put_facts.Goals as goal

pub returns : goal.returns
returns c = (omega arith, facts_stored _ _ _ _ _ c.put_answer-p1.ensures.1 c.put_answer-p1.ensures.0 c.put_timeouts-p2.ensures.1 c.put_timeouts-p2.ensures.0 c.put_hold.ensures.1)
