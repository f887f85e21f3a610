-- `bench::is_word` meets its contract: what `==` says of two slices is `same`.
-- Assumes nothing.
use Rattle.rival.specs.Alike.{same}
use Rattle.bench.proofs.is_word.Goals as goal

pub returns : goal.returns
unfolding same
returns c = c.eq.ensures
