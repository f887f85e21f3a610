-- `bench::changes::write_because` meets its contract: the line, where there is room.
-- Assumes nothing.
use Rattle.bench.proofs.Lines.{because_length}
use Rattle.bench.proofs.Outputs.{put_none, put_stored}
use borrow.Author.Tests.{leb-true}
use mathlib.Core.Path.{sym, ◌∙◌}
use Rattle.bench.proofs.changes.write_because.Goals as goal

pub returns-then-not-has_room : goal.returns-then-not-has_room
returns-then-not-has_room c = put_none _ _ (sym c.has_room.ensures ∙ c.if-not-has_room.true)

pub put_because-requires : goal.put_because-requires
put_because-requires c = leb-true _ _ (sym c.has_room.ensures ∙ c.if-not-has_room.false)

pub returns : goal.returns
returns c = put_stored 64 _ c.put_because.ensures.1 (leb-true _ _ (sym c.has_room.ensures ∙ c.if-not-has_room.false)) (because_length c.args.w.reason c.args.w.value) c.put_because.ensures.0
