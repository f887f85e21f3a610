-- `bench::importer::turn` meets its contract: by the room, and by the stage.
-- Assumes nothing.
use Rattle.bench.proofs.Fronts.{by_stage, head_silent, idle, in_room, passing_silent}
use Rattle.bench.specs.Importer.{turn_of}
use borrow.Author.Tests.{leb-true}
use mathlib.Core.Path.{◌∙◌, refl, sym}
use Rattle.bench.proofs.importer.turn.Goals as goal

pub returns-then-not-has_room : goal.returns-then-not-has_room
unfolding turn_of
returns-then-not-has_room c = rw (← c.has_room.ensures, c.if-not-has_room.true) (idle refl refl)

pub between-requires : goal.between-requires
between-requires c = leb-true _ _ (sym c.has_room.ensures ∙ c.if-not-has_room.false)

pub returns-in-Head : goal.returns-in-Head
returns-in-Head c = in_room _ _ (sym c.has_room.ensures ∙ c.if-not-has_room.false) (by_stage _ _ _ c.in-Head.is (idle (head_silent _ _) c.head.ensures))

pub returns-in-Between : goal.returns-in-Between
returns-in-Between c = in_room _ _ (sym c.has_room.ensures ∙ c.if-not-has_room.false) (by_stage _ _ _ c.in-Between.is c.between.ensures)

pub returns-in-Passing : goal.returns-in-Passing
returns-in-Passing c = in_room _ _ (sym c.has_room.ensures ∙ c.if-not-has_room.false) (by_stage _ _ _ c.in-Passing.is (idle (passing_silent _ _ _) c.passing.ensures))

pub returns-in-Over : goal.returns-in-Over
returns-in-Over c = in_room _ _ (sym c.has_room.ensures ∙ c.if-not-has_room.false) (by_stage _ _ _ c.in-Over.is (idle refl refl))
