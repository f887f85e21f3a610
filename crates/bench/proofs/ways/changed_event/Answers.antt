-- `bench::ways::changed_event` meets its contract: the event played between two looks at the table, and what changed put.
-- Assumes nothing.
use Rattle.bench.proofs.Events.{changed_lines_lem, room_small}
use Rattle.bench.proofs.TableTrip.{trip}
use Rattle.bench.specs.Turn.{Made}
use Rattle.table.proofs.Octets.RowLaws.{table_long}
use borrow.Author.Rules.{rules}
use Rattle.bench.proofs.ways.changed_event.Goals as goal

pub returns : goal.returns
returns c = λ h.
    let a = c.args in
    let s = a.r.settings in
    let ts = a.table.now in
    let fs = a.frame.now in
    let m : Made ts = λ k. search rules in
    let n : Made fs = λ k. (c.type_inv.frame k).fits in
    let p = c.play_on_in-answer.ensures h.fit h.sound (room_small a.e) in
    let w = c.why_on-w.ensures h.fit h.sound in
    let before = c.octets_in-before.ensures (table_long ts h.sound.table) in
    let later = trip s ts a.e fs _ h.sound.table m n p.1 in
    let after = c.octets_in-after.ensures (table_long _ later.table) in
    (p.1, changed_lines_lem a.r ts _ a.e fs a.number _ _ _ _ _ _ _ _ h.sound.table m n before after w p c.write_line-at.ensures c.changed.ensures)
