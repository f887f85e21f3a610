-- `bench::trace::write_links` meets its contract: the line, where there is room.
-- Assumes nothing.
use Rattle.bench.proofs.Outputs.{put_none, put_stored}
use Rattle.bench.proofs.TraceLines.{links_line_length}
use borrow.Author.Tests.{leb-true}
use mathlib.Core.Path.{sym, ◌∙◌}
use Rattle.bench.proofs.trace.write_links.Goals as goal

pub returns-then-not-has_room : goal.returns-then-not-has_room
returns-then-not-has_room c = put_none _ _ (sym c.has_room.ensures ∙ c.if-not-has_room.true)

pub put_links-requires : goal.put_links-requires
put_links-requires c = leb-true _ _ (sym c.has_room.ensures ∙ c.if-not-has_room.false)

pub returns : goal.returns
returns c =
    let a = c.args in
    put_stored 64 _ c.put_links.ensures.1 (leb-true _ _ (sym c.has_room.ensures ∙ c.if-not-has_room.false)) (links_line_length a.place a.p) c.put_links.ensures.0
