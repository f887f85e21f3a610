-- `bench::line::write_stop` meets its contract: five octets, where there is room.
-- Assumes nothing.
use Prim.Native.Nat.{◌+◌, ◌≤◌}
use Rattle.bench.proofs.Outputs.{put_none, put_stored}
use borrow.Author.Tests.{leb-true}
use lib.ListN.{length}
use mathlib.Core.Path.{sym, ◌∙◌}
use native.Mathlib.Omega.{arith}
use Rattle.bench.proofs.line.write_stop.Goals as goal

pub returns-then-not-has_room : goal.returns-then-not-has_room
returns-then-not-has_room c = put_none _ _ (sym c.has_room.ensures ∙ c.if-not-has_room.true)

pub put_word-requires : goal.put_word-requires
put_word-requires c =
    let a = c.args in
    let r : a.at + 64 ≤ length a.out.now = leb-true _ _ (sym c.has_room.ensures ∙ c.if-not-has_room.false) in
    omega arith

pub returns : goal.returns
returns c = put_stored 64 _ c.put_word.ensures.1 (leb-true _ _ (sym c.has_room.ensures ∙ c.if-not-has_room.false)) (omega arith) c.put_word.ensures.0
