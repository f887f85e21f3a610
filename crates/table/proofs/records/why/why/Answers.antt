-- `table::records::why::why` meets its contract: refusals 1 and 2, then the rules.
-- Assumes nothing.
use Rattle.table.proofs.Passes.Views.{well_of}
use Rattle.table.specs.Why.{why_of}
use borrow.Author.Tests.{le-ltb, lt-ltb}
use Rattle.table.proofs.records.why.why.Goals as goal

pub returns-then-lent-room : goal.returns-then-lent-room
unfolding why_of
returns-then-lent-room c = rw (← c.room.ensures, lt-ltb _ _ c.if-lent-room.true) c.plain.ensures

pub returns-then-not-well : goal.returns-then-not-well
unfolding why_of
returns-then-not-well c = rw (← c.room.ensures, le-ltb _ _ c.if-lent-room.false, ← well_of c.args.s c.args.t c.survey-v.result c.survey-v.ensures _ c.well.ensures, c.if-not-well.true) c.plain-then-not-well.ensures

pub returns : goal.returns
unfolding why_of
returns c =
    let a = c.args in
    let v = c.survey-v in
    rw (← c.room.ensures, le-ltb _ _ c.if-lent-room.false, ← well_of a.s a.t v.result v.ensures _ c.well.ensures, c.if-not-well.false) (c.why_at.ensures tt (λ y. c.others-o.ensures a.t v.ensures.2 v.ensures.1))
