-- `bench::show::trace_table` meets its contract: one place more a turn, in the form of the lines still to come.
-- Assumes nothing.
use Rattle.bench.specs.Output.{up_to, put_all}
use Rattle.bench.specs.Trace.{table_lines}
use lib.ListN.{drop}
use mathlib.Core.Path.{◌≡◌}
use Rattle.bench.proofs.show.trace_table.Given as goal

abbrev pub invariant-loop-i : goal.invariant-loop-i
invariant-loop-i l = put_all (table_lines l.i (drop l.i l.t)) (up_to l.output l.at) ≡ put_all (table_lines 0 l.t) (up_to l.initial.output l.out)
