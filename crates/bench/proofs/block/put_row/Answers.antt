-- `bench::block::put_row` meets its contract: the word, the numbers, LF.
-- Assumes nothing.
use native.Mathlib.Omega.{arith}
use lib.ListN.{length-append}
use Rattle.octets.proofs.Stores.{then}
use Rattle.bench.specs.Block.{row_text}
use Rattle.bench.proofs.Blocks.{numbers_length}
use Rattle.bench.proofs.block.put_row.Goals as goal

pub put_octet-requires : goal.put_octet-requires
put_octet-requires c = omega (arith, c.put_word-p1.ensures.0, c.put_numbers-p2.ensures.0, numbers_length c.args.b c.args.first c.args.count)

pub overflow_add-result : goal.overflow_add-result
overflow_add-result c = omega (arith, c.put_word-p1.ensures.0, c.put_numbers-p2.ensures.0, numbers_length c.args.b c.args.first c.args.count)

pub returns : goal.returns
unfolding row_text
returns c =
    let p1 = c.put_word-p1 in
    let p2 = c.put_numbers-p2 in
    let p3 = c.put_octet in
    let e1 = p1.ensures.0 in
    let e2 = p2.ensures.0 in
    (simp length-append (omega arith), then (then p1.ensures.1 p2.ensures.1 (omega arith)) p3.ensures (simp length-append (omega arith)))
