-- `bench::block::write_mean` meets its contract: the word, the mean and LF, where there is room.
-- Assumes nothing.
use native.Mathlib.Omega.{arith}
use Prim.Native.Nat.{◌+◌, ◌≤◌}
use borrow.Author.Tests.{leb-true}
use lib.ListN.{length, length-append}
use mathlib.Core.Path.{sym, ◌∙◌}
use Rattle.octets.proofs.Stores.{then}
use Rattle.bench.specs.Block.{mean_text}
use Rattle.bench.proofs.Blocks.{mean_length, mean_line_length}
use Rattle.bench.proofs.Outputs.{put_none, put_stored}
use Rattle.bench.proofs.block.write_mean.Goals as goal

pub returns-then-not-has_room : goal.returns-then-not-has_room
returns-then-not-has_room c = put_none _ _ (sym c.has_room.ensures ∙ c.if-not-has_room.true)

pub put_word-p1-requires : goal.put_word-p1-requires
put_word-p1-requires c =
    let r : c.args.at + 256 ≤ length c.args.out.now = leb-true _ _ (sym c.has_room.ensures ∙ c.if-not-has_room.false) in
    omega arith

pub put_mean-p2-requires : goal.put_mean-p2-requires
put_mean-p2-requires c =
    let r : c.args.at + 256 ≤ length c.args.out.now = leb-true _ _ (sym c.has_room.ensures ∙ c.if-not-has_room.false) in
    omega (arith, c.put_word-p1.ensures.0)

pub put_octet-requires : goal.put_octet-requires
put_octet-requires c =
    let r : c.args.at + 256 ≤ length c.args.out.now = leb-true _ _ (sym c.has_room.ensures ∙ c.if-not-has_room.false) in
    omega (arith, c.put_word-p1.ensures.0, c.put_mean-p2.ensures.0, mean_length c.args.m)

pub overflow_add-result : goal.overflow_add-result
overflow_add-result c =
    let r : c.args.at + 256 ≤ length c.args.out.now = leb-true _ _ (sym c.has_room.ensures ∙ c.if-not-has_room.false) in
    omega (arith, c.put_word-p1.ensures.0, c.put_mean-p2.ensures.0, mean_length c.args.m)

pub returns : goal.returns
unfolding mean_text
returns c =
    let a = c.args in
    let p1 = c.put_word-p1 in
    let p2 = c.put_mean-p2 in
    let p3 = c.put_octet in
    let e1 = p1.ensures.0 in
    let e2 = p2.ensures.0 in
    put_stored 256 _ (then (then p1.ensures.1 p2.ensures.1 (omega arith)) p3.ensures (simp length-append (omega arith)))
    (leb-true _ _ (sym c.has_room.ensures ∙ c.if-not-has_room.false)) (mean_line_length a.m) (simp length-append (omega arith))
