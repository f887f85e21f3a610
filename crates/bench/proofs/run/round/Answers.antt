-- `bench::run::round` meets its contract: a turn, and the lines written out or not.
-- Assumes nothing.
use Rattle.std.proofs.lemmas.Bool.{not-true}
use Rattle.bench.specs.Turn.{on, out}
use mathlib.Core.Path.{sym, ◌∙◌}
use Rattle.bench.proofs.run.round.Goals as goal

pub returns-then-has_room : goal.returns-then-has_room
returns-then-has_room g c = on c.turn-next.ensures (not-true _ c.if-not-next.true) (sym c.has_room.ensures ∙ c.if-has_room.true)

pub returns : goal.returns
returns g c = out _ c.turn-next.ensures c.flush.ensures
