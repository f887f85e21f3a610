-- `bench::ways::plain` meets its contract: the event played, and its line put.
-- Assumes nothing.
use Rattle.bench.proofs.ways.plain.Goals as goal

pub returns : goal.returns
returns c = λ h.
    let p = c.play_on-answer.ensures h.fit h.sound in
    (p.1, rw (← p.0) c.write_line.ensures)
