-- `bench::line::write_line` meets its contract: the front and the back behind it, where there is room.
-- Assumes nothing.
use Prim.Native.Nat.{◌+◌, ◌≤◌}
use Rattle.bench.proofs.Lines.{back_length, front_length}
use Rattle.bench.proofs.Outputs.{put_none, put_stored}
use Rattle.bench.specs.Line.{line_of}
use Rattle.octets.proofs.Stores.{then}
use borrow.Author.Tests.{leb-true}
use lib.ListN.{length, length-append}
use mathlib.Core.Path.{sym, ◌∙◌}
use native.Mathlib.Omega.{arith}
use Rattle.bench.proofs.line.write_line.Goals as goal

pub returns-then-not-has_room : goal.returns-then-not-has_room
returns-then-not-has_room c = put_none _ _ (sym c.has_room.ensures ∙ c.if-not-has_room.true)

pub put_front-next-requires : goal.put_front-next-requires
put_front-next-requires c = leb-true _ _ (sym c.has_room.ensures ∙ c.if-not-has_room.false)

pub put_back-requires : goal.put_back-requires
put_back-requires c =
    let a = c.args in
    let r : a.at + 64 ≤ length a.out.now = leb-true _ _ (sym c.has_room.ensures ∙ c.if-not-has_room.false) in
    omega (arith, c.put_front-next.ensures.0, front_length a.number a.a)

pub returns : goal.returns
unfolding line_of
returns c =
    let a = c.args in
    let e = c.put_front-next.ensures.0 in
    let f = c.put_back.ensures.0 in
    let g = front_length a.number a.a in
    let h = back_length a.a in
    put_stored 64 _ (then c.put_front-next.ensures.1 c.put_back.ensures.1 (omega arith)) (leb-true _ _ (sym c.has_room.ensures ∙ c.if-not-has_room.false)) (simp length-append (omega arith)) (simp length-append (omega arith))
