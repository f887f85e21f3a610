-- `bench::changes::show_moved` meets its contract: nothing, that the place is free, or what a trace shows of it.
-- Assumes nothing.
use Rattle.bench.specs.Changes.{moved_lines}
use Rattle.bench.specs.Output.{put_all}
use mathlib.Core.Path.{sym, ◌∙◌}
use Rattle.bench.proofs.changes.show_moved.Goals as goal

pub returns-then-same_record : goal.returns-then-same_record
unfolding moved_lines put_all
returns-then-same_record c = rw (sym c.same_record.ensures ∙ c.if-same_record.true)

pub returns-then-is_free : goal.returns-then-is_free
unfolding moved_lines put_all
returns-then-is_free c = rw (sym c.same_record.ensures ∙ c.if-same_record.false, sym c.is_free.ensures ∙ c.if-is_free.true) c.write_free.ensures

pub returns : goal.returns
unfolding moved_lines put_all
returns c = rw (sym c.same_record.ensures ∙ c.if-same_record.false, sym c.is_free.ensures ∙ c.if-is_free.false) c.trace_place.ensures
