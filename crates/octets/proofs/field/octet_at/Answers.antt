-- `octets::field::octet_at` meets its contract: one octet of the list, or none.
-- Assumes nothing.
use Rattle.octets.proofs.Le.{le_none, le_one}
use Rattle.octets.proofs.field.octet_at.Goals as goal

pub returns-then-at-s : goal.returns-then-at-s
returns-then-at-s c = le_one c.args.s.now c.args.at c.if-at-s.true

pub returns-else-at-s : goal.returns-else-at-s
returns-else-at-s c = le_none 1 c.args.s.now c.args.at c.if-at-s.false
