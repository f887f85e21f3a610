-- `bench::block::write_row` meets its contract: the line, where there is room.
-- Assumes nothing.
use native.Mathlib.Omega.{arith}
use borrow.Author.Tests.{leb-true}
use mathlib.Core.Path.{sym, ◌∙◌}
use Rattle.bench.proofs.Blocks.{row_length}
use Rattle.bench.proofs.Outputs.{put_none, put_stored}
use Rattle.bench.proofs.block.write_row.Goals as goal

pub returns-then-not-has_room : goal.returns-then-not-has_room
returns-then-not-has_room c = put_none _ _ (sym c.has_room.ensures ∙ c.if-not-has_room.true)

pub put_row-requires : goal.put_row-requires
put_row-requires c =
    record {
      at_in_bounds = leb-true _ _ (sym c.has_room.ensures ∙ c.if-not-has_room.false);
      word_len_bound = omega arith;
      count_bound = omega arith;
      count_bound_2 = omega arith;
    }

pub returns : goal.returns
returns c =
    let a = c.args in
    put_stored 256 _ c.put_row.ensures.1 (leb-true _ _ (sym c.has_room.ensures ∙ c.if-not-has_room.false)) (row_length _ a.b a.first a.count (omega arith) (omega arith)) c.put_row.ensures.0
