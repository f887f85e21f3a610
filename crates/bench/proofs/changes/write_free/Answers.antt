-- `bench::changes::write_free` meets its contract: the line, where there is room.
-- Assumes nothing.
use Rattle.bench.proofs.Lines.{free_length}
use Rattle.bench.proofs.Outputs.{put_none, put_stored}
use borrow.Author.Tests.{leb-true}
use mathlib.Core.Path.{sym, ◌∙◌}
use Rattle.bench.proofs.changes.write_free.Goals as goal

pub returns-then-not-has_room : goal.returns-then-not-has_room
returns-then-not-has_room c = put_none _ _ (sym c.has_room.ensures ∙ c.if-not-has_room.true)

pub put_free-requires : goal.put_free-requires
put_free-requires c = leb-true _ _ (sym c.has_room.ensures ∙ c.if-not-has_room.false)

pub returns : goal.returns
returns c = put_stored 64 _ c.put_free.ensures.1 (leb-true _ _ (sym c.has_room.ensures ∙ c.if-not-has_room.false)) (free_length c.args.place) c.put_free.ensures.0
