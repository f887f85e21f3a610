-- `bench::text::glyph` meets its contract: by its one test.
-- Assumes nothing.
use Rattle.bench.specs.Text.{glyph_of}
use Rattle.octets.proofs.Branch.{tests}
use Rattle.bench.proofs.text.glyph.Goals as goal

pub returns-then-d-lt10 : goal.returns-then-d-lt10
unfolding glyph_of
returns-then-d-lt10 c = search tests

pub returns-else-d-lt10 : goal.returns-else-d-lt10
unfolding glyph_of
returns-else-d-lt10 c = search tests
