-- `bench::facts::first` meets its contract: by its test.
-- Assumes nothing.
use Rattle.bench.proofs.Counting.{take_more}
use lib.Seq.{length-take-le}
use mathlib.Core.Path.{sym}
use Rattle.bench.proofs.facts.first.Goals as goal

pub slice_bounds-result-end : goal.slice_bounds-result-end
slice_bounds-result-end c = sym (length-take-le _ _ c.if-n-s.true)

pub returns-else-n-s : goal.returns-else-n-s
returns-else-n-s c = take_more _ _ c.if-n-s.false
