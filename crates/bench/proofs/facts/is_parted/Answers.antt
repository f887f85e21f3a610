-- `bench::facts::is_parted` meets its contract: by its test.
-- Assumes nothing.
use borrow.Author.Rules.{rules}
use Rattle.bench.specs.Facts.{is_parted}
use Rattle.bench.proofs.facts.is_parted.Goals as goal

pub returns : goal.returns
unfolding is_parted
returns c = search rules
