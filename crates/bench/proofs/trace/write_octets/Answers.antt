-- `bench::trace::write_octets` meets its contract: the line, where there is room.
-- Assumes nothing.
use Prim.Native.Nat.{◌+◌, ◌*◌}
use Rattle.bench.proofs.Outputs.{put_none, put_stored}
use Rattle.bench.proofs.TraceLines.{octets_line_length}
use borrow.Author.Tests.{leb-true}
use lib.ListN.{length}
use mathlib.Core.Path.{sym, ◌∙◌}
use Rattle.bench.proofs.trace.write_octets.Goals as goal

pub returns-then-not-has_room : goal.returns-then-not-has_room
returns-then-not-has_room c = put_none _ _ (sym c.has_room.ensures ∙ c.if-not-has_room.true)

pub put_octets-requires : goal.put_octets-requires
put_octets-requires c = leb-true _ _ (sym c.has_room.ensures ∙ c.if-not-has_room.false)

pub returns : goal.returns
returns c =
    let a = c.args in
    put_stored (2 * length a.octets.now + 64) _ c.put_octets.ensures.1 (leb-true _ _ (sym c.has_room.ensures ∙ c.if-not-has_room.false)) (octets_line_length a.octets.now) c.put_octets.ensures.0
