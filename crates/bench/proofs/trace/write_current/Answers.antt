-- `bench::trace::write_current` meets its contract: the line, where there is room.
-- Assumes nothing.
use Rattle.bench.proofs.Outputs.{put_none, put_stored}
use Rattle.bench.proofs.TraceLines.{current_line_length}
use borrow.Author.Tests.{leb-true}
use mathlib.Core.Path.{sym, ◌∙◌}
use Rattle.bench.proofs.trace.write_current.Goals as goal

pub returns-then-not-has_room : goal.returns-then-not-has_room
returns-then-not-has_room c = put_none _ _ (sym c.has_room.ensures ∙ c.if-not-has_room.true)

pub put_current-requires : goal.put_current-requires
put_current-requires c = leb-true _ _ (sym c.has_room.ensures ∙ c.if-not-has_room.false)

pub returns : goal.returns
returns c = put_stored 64 _ c.put_current.ensures.1 (leb-true _ _ (sym c.has_room.ensures ∙ c.if-not-has_room.false)) (current_line_length c.args.a) c.put_current.ensures.0
