-- `bench::rows::play_on` meets its contract: by what `play_on_in` ensures, lent 256 zeros.
-- Assumes nothing.
use Rattle.bench.proofs.Events.{room_small}
use Rattle.bench.proofs.rows.play_on.Goals as goal

pub returns : goal.returns
returns c = λ f h.
    let p = c.play_on_in.ensures f h (room_small c.args.e) in
    (p.0, p.1)
