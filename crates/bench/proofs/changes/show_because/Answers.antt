-- `bench::changes::show_because` meets its contract: nothing, or one line.
-- Assumes nothing.
use Rattle.bench.specs.Changes.{because_lines}
use Rattle.bench.specs.Output.{put_all}
use borrow.Author.Tests.{eq-eqb, ne_eqb}
use Rattle.bench.proofs.changes.show_because.Goals as goal

pub returns-then-reason_number-eq0 : goal.returns-then-reason_number-eq0
unfolding because_lines put_all
returns-then-reason_number-eq0 c = rw (← c.reason_number.ensures, eq-eqb _ _ c.if-reason_number-eq0.true)

pub returns : goal.returns
unfolding because_lines put_all
returns c = rw (← c.reason_number.ensures, ne_eqb _ _ c.if-reason_number-eq0.false) c.write_because.ensures
