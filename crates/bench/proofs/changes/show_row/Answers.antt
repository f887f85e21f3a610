-- `bench::changes::show_row` meets its contract: a row of the same octets is the same record, and any other is looked at.
-- Assumes nothing.
use Rattle.bench.proofs.ChangedRows.{moved_none, same_octets}
use Rattle.bench.specs.Output.{put_all}
use Rattle.bench.proofs.changes.show_row.Goals as goal

pub returns-then-same_row : goal.returns-then-same_row
unfolding put_all
returns-then-same_row c =
    let e = moved_none c.args.i _ _ (same_octets c.args.before.now c.args.after.now c.args.i c.requires.0 c.requires.1 c.requires.2 (c.same_row.ensures c.if-same_row.true)) in
    rw e

pub returns : goal.returns
returns c = rw (← c.look-2.ensures, ← c.look.ensures) c.show_moved.ensures
