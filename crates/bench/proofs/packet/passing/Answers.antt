-- `bench::packet::passing` meets its contract: by its test.
-- Assumes nothing.
use Rattle.bench.specs.Importer.{passing_front}
use borrow.Author.Tests.{le-leb, lt-leb}
use Rattle.bench.proofs.packet.passing.Goals as goal

pub returns-then-n-xs : goal.returns-then-n-xs
unfolding passing_front
returns-then-n-xs c = rw (le-leb _ _ c.if-n-xs.true, ← c.counted.ensures)

pub returns : goal.returns
unfolding passing_front
returns c = rw (lt-leb _ _ c.if-n-xs.false)
