-- `bench::changes::show_changed` meets its contract: one place more a turn, in the form of the lines still to come.
-- Assumes nothing.
use Rattle.bench.specs.Changes.{changed_lines}
use Rattle.bench.specs.Output.{put_all, up_to}
use Rattle.table.specs.Rows.{records_of}
use lib.ListN.{drop}
use mathlib.Core.Path.{◌≡◌}
use Rattle.bench.proofs.changes.show_changed.Given as goal

abbrev pub invariant-loop-i : goal.invariant-loop-i
invariant-loop-i l = put_all (changed_lines l.i (drop l.i (records_of l.before)) (drop l.i (records_of l.after))) (up_to l.output l.at) ≡ put_all (changed_lines 0 (records_of l.before) (records_of l.after)) (up_to l.initial.output l.out)
