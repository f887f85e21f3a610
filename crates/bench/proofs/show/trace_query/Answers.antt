-- `bench::show::trace_query` meets its contract: nothing, or one line.
-- Assumes nothing.
use Rattle.bench.specs.Output.{put_all}
use Rattle.bench.specs.Trace.{query_lines}
use mathlib.Core.Path.{sym, ◌∙◌}
use Rattle.bench.proofs.show.trace_query.Goals as goal

pub returns-then-has_query : goal.returns-then-has_query
unfolding query_lines put_all
returns-then-has_query c = rw (sym c.has_query.ensures ∙ c.if-has_query.true) c.write_query.ensures

pub returns-else-has_query : goal.returns-else-has_query
unfolding query_lines put_all
returns-else-has_query c = rw (sym c.has_query.ensures ∙ c.if-has_query.false)
