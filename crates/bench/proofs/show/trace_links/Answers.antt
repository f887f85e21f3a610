-- `bench::show::trace_links` meets its contract: nothing, or one line.
-- Assumes nothing.
use Rattle.bench.specs.Output.{put_all}
use Rattle.bench.specs.Trace.{links_lines}
use mathlib.Core.Path.{sym, ◌∙◌}
use Rattle.bench.proofs.show.trace_links.Goals as goal

pub returns-then-is_none : goal.returns-then-is_none
unfolding links_lines put_all
returns-then-is_none c = rw (sym c.is_none.ensures ∙ c.if-is_none.true)

pub returns-else-is_none : goal.returns-else-is_none
unfolding links_lines put_all
returns-else-is_none c = rw (sym c.is_none.ensures ∙ c.if-is_none.false) c.write_links.ensures
