-- `octets::class::class_in` meets its contract: by the network's kind.
-- Assumes nothing.
use Rattle.octets.specs.Class.{class_in}
use Rattle.octets.proofs.class.class_in.Goals as goal

pub returns-then-infrastructure : goal.returns-then-infrastructure
unfolding class_in
returns-then-infrastructure c = rw (c.if-infrastructure.true, ← c.class-k.ensures)

pub returns-else-infrastructure : goal.returns-else-infrastructure
unfolding class_in
returns-else-infrastructure c = rw (c.if-infrastructure.false, ← c.class-k.ensures) c.direct_class.ensures
