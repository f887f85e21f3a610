-- `bench::run::turn` meets its contract: by what stands at the front of the octets ahead.
-- Assumes nothing.
use Rattle.bench.proofs.run.turn.Goals as goal

pub returns-in-Cut : goal.returns-in-Cut
returns-in-Cut g c = λ h k. rw (← c.take.ensures, c.in-Cut.is) (c.cut.ensures _)
