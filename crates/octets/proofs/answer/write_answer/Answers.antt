-- `octets::answer::write_answer` meets its contract: the answer, where it fits.
-- Assumes nothing.
use Rattle.octets.specs.Answer.{answer_written}
use borrow.Author.Tests.{le-ltb, lt-ltb}
use Rattle.octets.proofs.answer.write_answer.Goals as goal

pub returns-then-out-lt24 : goal.returns-then-out-lt24
unfolding answer_written
returns-then-out-lt24 c = rw (lt-ltb _ _ c.if-out-lt24.true)

pub returns : goal.returns
unfolding answer_written
returns c = rw (le-ltb _ _ c.if-out-lt24.false) c.put_answer.ensures.is
