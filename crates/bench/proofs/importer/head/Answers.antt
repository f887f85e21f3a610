-- `bench::importer::head` meets its contract: each answer by the tests that led to it.
-- Assumes nothing.
use Rattle.bench.specs.Importer.{head_front}
use borrow.Author.Tests.{le-ltb, lt-ltb}
use Rattle.bench.proofs.importer.head.Goals as goal

pub returns-then-xs-lt24 : goal.returns-then-xs-lt24
unfolding head_front
returns-then-xs-lt24 c = rw (lt-ltb _ _ c.if-xs-lt24.true)

pub returns-then-not-is_numbered : goal.returns-then-not-is_numbered
unfolding head_front
returns-then-not-is_numbered c = rw (le-ltb _ _ c.if-xs-lt24.false, ← c.is_numbered.ensures, c.if-not-is_numbered.true)

pub returns-then-not-is_linked : goal.returns-then-not-is_linked
unfolding head_front
returns-then-not-is_linked c = rw (le-ltb _ _ c.if-xs-lt24.false, ← c.is_numbered.ensures, c.if-not-is_numbered.false, ← c.is_linked.ensures, c.if-not-is_linked.true)

pub returns : goal.returns
unfolding head_front
returns c = rw (le-ltb _ _ c.if-xs-lt24.false, ← c.is_numbered.ensures, c.if-not-is_numbered.false, ← c.is_linked.ensures, c.if-not-is_linked.false, ← c.is_big.ensures)
