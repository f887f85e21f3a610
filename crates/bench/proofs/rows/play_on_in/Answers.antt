-- `bench::rows::play_on_in` meets its contract: by what is known of a table that is sound.
-- Assumes nothing.
use Rattle.bench.proofs.rows.play_on_in.Goals as goal

pub returns : goal.returns
returns c = λ f h n. c.known_call.ensures (c.trusted-k.ensures _ f h) n
