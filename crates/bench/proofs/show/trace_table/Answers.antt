-- `bench::show::trace_table` meets its contract: one place more a turn, in the form of the lines still to come.
-- Assumes nothing.
use Rattle.bench.proofs.TableLines.{table_end, table_step}
use native.Mathlib.Omega.{arith}
use Rattle.bench.proofs.show.trace_table.Goals as goal

pub loop-i-preserved : goal.loop-i-preserved
loop-i-preserved c = table_step c.args.t c.loop-i.i _ _ _ (omega arith) c.trace_place-at.ensures c.loop-i.invariant

pub returns : goal.returns
returns c = table_end c.args.t c.loop-i.i _ _ (omega arith) c.loop-i.invariant
