-- `table::host::input::body` meets its contract: by its test.
-- Assumes nothing.
use Prim.Native.Nat.{◌+◌, ◌-◌, ◌≤◌, ◌<◌}
use Rattle.table.specs.Input.{body_of}
use Rattle.octets.specs.Field.{field}
use borrow.Author.Tests.{le-leb, lt-leb}
use lib.ListN.{length}
use mathlib.Core.Path.{◌≡◌}
use native.Mathlib.Omega.{arith}
use Rattle.table.proofs.host.input.body.Goals as goal

pub returns-then-size-s : goal.returns-then-size-s
unfolding body_of
returns-then-size-s c =
    let s = c.args.s.now in
    let e = c.record_length-size.ensures in
    let h : field 2 3 s + 5 ≤ length s = omega arith in
    let d : c.record_length-size.result - 5 ≡ field 2 3 s = omega arith in
    rw (le-leb (field 2 3 s + 5) (length s) h, d)

pub returns-else-size-s : goal.returns-else-size-s
unfolding body_of
returns-else-size-s c =
    let s = c.args.s.now in
    let e = c.record_length-size.ensures in
    let h : length s < field 2 3 s + 5 = omega arith in
    rw (lt-leb (field 2 3 s + 5) (length s) h)
