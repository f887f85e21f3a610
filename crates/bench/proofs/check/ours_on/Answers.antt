-- `bench::check::ours_on` meets its contract: it stays, or it takes the turn, or that could not read.
-- Assumes nothing.
use Rattle.bench.specs.Run.{flushed_of}
use mathlib.Core.Path.{refl, sym, ◌∙◌}
use Rattle.bench.specs.Check.{broke, same, turned}
use Rattle.bench.proofs.check.ours_on.Goals as goal

pub returns-then-c-r : goal.returns-then-c-r
returns-then-c-r c = same refl refl refl refl

pub returns-then-r : goal.returns-then-r
returns-then-r c = same refl refl refl refl

pub returns-then-is_unread : goal.returns-then-is_unread
returns-then-is_unread c = broke c.lost.ensures

pub returns-then-output-t : goal.returns-then-output-t
returns-then-output-t c = broke c.lost-then-output-t.ensures

pub returns : goal.returns
unfolding flushed_of
returns c = turned c.turn-t.result c.if-c-r.false c.if-r.false c.turn-t.ensures (sym c.is_unread.ensures ∙ c.if-is_unread.false) c.if-output-t.false c.with_run.ensures
