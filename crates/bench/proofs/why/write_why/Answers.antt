-- `bench::why::write_why` meets its contract: the line, where there is room.
-- Assumes nothing.
use Rattle.bench.proofs.Lines.{why_length}
use Rattle.bench.proofs.Outputs.{put_none, put_stored}
use borrow.Author.Tests.{leb-true}
use mathlib.Core.Path.{sym, ◌∙◌}
use Rattle.bench.proofs.why.write_why.Goals as goal

pub returns-then-not-has_room : goal.returns-then-not-has_room
returns-then-not-has_room c = put_none _ _ (sym c.has_room.ensures ∙ c.if-not-has_room.true)

pub put_why-requires : goal.put_why-requires
put_why-requires c = leb-true _ _ (sym c.has_room.ensures ∙ c.if-not-has_room.false)

pub returns : goal.returns
returns c =
    let a = c.args in
    put_stored 64 _ c.put_why.ensures.1 (leb-true _ _ (sym c.has_room.ensures ∙ c.if-not-has_room.false)) (why_length a.number a.w) c.put_why.ensures.0
