-- `bench::text::has_room` meets its contract: by its test.
-- Assumes nothing.
use Prim.Native.Nat.{◌+◌}
use Rattle.bench.proofs.Outputs.{room_behind}
use borrow.Author.Tests.{lt-leb}
use mathlib.Core.Path.{sym}
use native.Mathlib.Omega.{arith}
use Rattle.bench.proofs.text.has_room.Goals as goal

pub returns-then-len-at : goal.returns-then-len-at
returns-then-len-at c = sym (lt-leb (c.args.at + c.args.room) c.args.len (omega arith))

pub returns : goal.returns
returns c = room_behind c.args.at c.args.room c.args.len c.if-len-at.false
