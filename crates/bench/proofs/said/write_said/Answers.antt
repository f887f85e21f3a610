-- `bench::said::write_said` meets its contract: the line, where there is room.
-- Assumes nothing.
use Rattle.bench.proofs.Outputs.{put_none, put_stored}
use Rattle.bench.proofs.SaidLines.{said_length_lem}
use borrow.Author.Tests.{leb-true}
use mathlib.Core.Path.{sym, ◌∙◌}
use Rattle.bench.proofs.said.write_said.Goals as goal

pub returns-then-not-has_room : goal.returns-then-not-has_room
returns-then-not-has_room c = put_none _ _ (sym c.has_room.ensures ∙ c.if-not-has_room.true)

pub put_said-requires : goal.put_said-requires
put_said-requires c = leb-true _ _ (sym c.has_room.ensures ∙ c.if-not-has_room.false)

pub returns : goal.returns
returns c =
    let a = c.args in
    put_stored 64 _ c.put_said.ensures.1 (leb-true _ _ (sym c.has_room.ensures ∙ c.if-not-has_room.false)) (said_length_lem a.said) c.put_said.ensures.0
