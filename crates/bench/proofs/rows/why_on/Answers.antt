-- `bench::rows::why_on` meets its contract: by what is known of a table that is sound, and 256 octets are room for every event.
-- Assumes nothing.
use Rattle.bench.proofs.Events.{room_small}
use Rattle.bench.proofs.rows.why_on.Goals as goal

pub returns : goal.returns
returns c = λ f h. c.known_why.ensures 256 (c.trusted-k.ensures _ f h) (room_small c.args.e)
