-- `table::records::receive::received` meets its contract: each answer by the tests that led to it and what its callees ensure.
-- Assumes nothing.
use Prim.Native.Nat.{◌≤◌}
use Rattle.octets.specs.Frame.{longest}
use Rattle.table.proofs.Passes.Views.{well_of}
use Rattle.table.specs.Receive.{received_of}
use borrow.Author.Tests.{le-ltb, lt-ltb}
use native.Mathlib.Nat.{lt_of_lt_of_le}
use native.Mathlib.Omega.{arith}
use Rattle.table.proofs.records.receive.received.Goals as goal

pub returns-then-room-lt-LONGEST : goal.returns-then-room-lt-LONGEST
unfolding received_of
returns-then-room-lt-LONGEST c = rw (lt-ltb _ longest (lt_of_lt_of_le c.if-room-lt-LONGEST.true (omega arith))) (c.refused.ensures c.args.t)

pub returns-then-not-well : goal.returns-then-not-well
unfolding received_of
returns-then-not-well c =
    let room : longest ≤ c.args.room = omega arith in
    rw (le-ltb _ _ room, ← well_of c.args.s c.args.t c.survey-v.result c.survey-v.ensures _ c.well.ensures, c.if-not-well.true) (c.refused-then-not-well.ensures c.args.t)

pub returns : goal.returns
unfolding received_of
returns c = rw (le-ltb _ _ c.if-room-lt-LONGEST.false, ← well_of c.args.s c.args.t c.survey-v.result c.survey-v.ensures _ c.well.ensures, c.if-not-well.false, ← c.associates.ensures, ← c.read.ensures) (c.heard_at.ensures tt)
