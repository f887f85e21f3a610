-- `bench::facts::put_timeouts` meets its contract: five octets.
-- Assumes nothing.
use Rattle.bench.specs.Facts.{timeout_numbers}
use Rattle.bench.proofs.facts.put_timeouts.Goals as goal

pub returns : goal.returns
unfolding timeout_numbers
returns c = rw (← c.reported.ensures, ← c.reported-2.ensures, ← c.reported-3.ensures, ← c.reported-4.ensures, ← c.reported-5.ensures) c.put_word.ensures
