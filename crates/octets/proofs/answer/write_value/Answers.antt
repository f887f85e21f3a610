-- `octets::answer::write_value` meets its contract: the eight octets, where they fit.
-- Assumes nothing.
use Rattle.octets.specs.Answer.{value_written}
use borrow.Author.Tests.{le-ltb, lt-ltb}
use Rattle.octets.proofs.answer.write_value.Goals as goal

pub returns-then-out-lt8 : goal.returns-then-out-lt8
unfolding value_written
returns-then-out-lt8 c = rw (lt-ltb _ _ c.if-out-lt8.true)

pub returns : goal.returns
unfolding value_written
returns c = rw (le-ltb _ _ c.if-out-lt8.false) c.put_u64.ensures.is
