-- `bench::facts::put_hold` meets its contract: five octets.
-- Assumes nothing.
use Rattle.octets.specs.Field.{octets}
use Rattle.bench.proofs.facts.put_hold.Goals as goal

pub returns : goal.returns
unfolding octets
returns c = rw (← c.one.ensures.0) c.put_word.ensures
