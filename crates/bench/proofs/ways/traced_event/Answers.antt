-- `bench::ways::traced_event` meets its contract: the event played both ways, its line put, and the trace behind it.
-- Assumes nothing.
use Rattle.bench.proofs.Events.{traced_lines}
use Rattle.bench.proofs.ways.traced_event.Goals as goal

pub returns : goal.returns
returns c =
    let a = c.args in λ h.
    ((c.play_on.ensures h.fit h.sound).1, traced_lines a.r a.table.now a.e a.frame.now a.number _ _ _ _ _ _ _ c.records_in.ensures (c.lent_play-p.ensures h.fit (λ f. rw c.records_in.ensures (h.sound.well f))) c.write_line-at.ensures c.traced.ensures)
