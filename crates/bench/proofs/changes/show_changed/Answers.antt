-- `bench::changes::show_changed` meets its contract: one place more a turn, in the form of the lines still to come.
-- Assumes nothing.
use Rattle.bench.proofs.ChangedRows.{changed_end, changed_step}
use Rattle.table.proofs.Octets.RowLaws.{length_records}
use Rattle.table.specs.Rows.{records_of}
use lib.ListN.{length}
use mathlib.Core.Path.{◌≡◌}
use native.Mathlib.Omega.{arith}
use Rattle.bench.proofs.changes.show_changed.Goals as goal

pub loop-i-preserved : goal.loop-i-preserved
loop-i-preserved c =
    let a = c.args in
    let t : length (records_of a.before.now) ≡ 32 = length_records 32 0 a.before.now in
    let u : length (records_of a.after.now) ≡ 32 = length_records 32 0 a.after.now in
    changed_step (records_of a.before.now) (records_of a.after.now) c.loop-i.i _ _ _ (omega arith) (omega arith) c.show_row-at.ensures c.loop-i.invariant

pub returns : goal.returns
returns c =
    let a = c.args in
    let t : length (records_of a.before.now) ≡ 32 = length_records 32 0 a.before.now in
    changed_end (records_of a.before.now) (records_of a.after.now) c.loop-i.i _ _ (omega arith) c.loop-i.invariant
