-- `bench::checker::part` meets its contract: by its two tests.
-- Assumes nothing.
use borrow.Author.Tests.{le-leb, lt-leb}
use Rattle.bench.specs.Check.{part_of}
use Rattle.bench.proofs.checker.part.Goals as goal

pub returns-then-have-at : goal.returns-then-have-at
unfolding part_of
returns-then-have-at c = rw (lt-leb _ _ c.if-have-at.true)

pub returns-then-s-have : goal.returns-then-s-have
unfolding part_of
returns-then-s-have c = rw (le-leb _ _ c.if-have-at.false, lt-leb _ _ c.if-s-have.true)

pub returns : goal.returns
unfolding part_of
returns c = rw (le-leb _ _ c.if-have-at.false, le-leb _ _ c.if-s-have.false)
