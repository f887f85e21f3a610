-- `bench::show::trace_current` meets its contract: nothing, or one line.
-- Assumes nothing.
use Rattle.bench.specs.Output.{put_all}
use Rattle.bench.specs.Trace.{current_lines}
use borrow.Author.Tests.{eq-eqb, ne_eqb}
use Rattle.bench.proofs.show.trace_current.Goals as goal

pub returns-then-answer-ne-REASSOCIATION_INDICATION : goal.returns-then-answer-ne-REASSOCIATION_INDICATION
unfolding current_lines put_all
returns-then-answer-ne-REASSOCIATION_INDICATION c = rw (ne_eqb _ _ c.if-answer-ne-REASSOCIATION_INDICATION.true)

pub returns : goal.returns
unfolding current_lines put_all
returns c = rw (eq-eqb _ _ c.if-answer-ne-REASSOCIATION_INDICATION.false) c.write_current.ensures
