-- `bench::ways::explained` meets its contract: the reason over the table, the event played, and the reason's line put.
-- Assumes nothing.
use Rattle.bench.proofs.Events.{host_why_lem}
use Rattle.bench.proofs.ways.explained.Goals as goal

pub returns : goal.returns
returns c = λ h.
    let a = c.args in
    let w = c.why_on-w.ensures h.fit h.sound in
    let p = c.play_on.ensures h.fit h.sound in
    (p.1, rw (← host_why_lem a.table.now a.r.settings a.e a.frame.now h.sound.table, ← w) c.write_why.ensures)
