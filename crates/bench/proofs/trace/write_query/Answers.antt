-- `bench::trace::write_query` meets its contract: the name and the times behind it, where there is room.
-- Assumes nothing.
use Prim.Native.Nat.{◌+◌, ◌≤◌}
use Rattle.bench.proofs.Outputs.{put_none, put_stored}
use Rattle.bench.proofs.TraceLines.{query_name_length, query_times_length}
use Rattle.bench.specs.Trace.{query_line}
use Rattle.octets.proofs.Stores.{then}
use borrow.Author.Tests.{leb-true}
use lib.ListN.{length, length-append}
use mathlib.Core.Path.{sym, ◌∙◌}
use native.Mathlib.Omega.{arith}
use Rattle.bench.proofs.trace.write_query.Goals as goal

pub returns-then-not-has_room : goal.returns-then-not-has_room
returns-then-not-has_room c = put_none _ _ (sym c.has_room.ensures ∙ c.if-not-has_room.true)

pub put_query_name-next-requires : goal.put_query_name-next-requires
put_query_name-next-requires c = leb-true _ _ (sym c.has_room.ensures ∙ c.if-not-has_room.false)

pub put_query_times-requires : goal.put_query_times-requires
put_query_times-requires c =
    let a = c.args in
    let r : a.at + 64 ≤ length a.out.now = leb-true _ _ (sym c.has_room.ensures ∙ c.if-not-has_room.false) in
    omega (arith, c.put_query_name-next.ensures.0, query_name_length a.place a.p)

pub returns : goal.returns
unfolding query_line
returns c =
    let a = c.args in
    let e = c.put_query_name-next.ensures.0 in
    let f = c.put_query_times.ensures.0 in
    let g = query_name_length a.place a.p in
    let h = query_times_length a.p in
    put_stored 64 _ (then c.put_query_name-next.ensures.1 c.put_query_times.ensures.1 (omega arith)) (leb-true _ _ (sym c.has_room.ensures ∙ c.if-not-has_room.false)) (simp length-append (omega arith)) (simp length-append (omega arith))
