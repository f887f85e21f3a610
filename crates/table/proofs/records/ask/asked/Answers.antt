-- `table::records::ask::asked` meets its contract: each answer by the tests that led to it and what its callees ensure.
-- Assumes nothing.
use Rattle.table.proofs.Passes.Views.{well_of}
use Rattle.table.specs.Ask.{asked_of}
use Rattle.table.specs.Refusals.{first_of, unless}
use borrow.Author.Tests.{le-ltb, lt-ltb}
use Rattle.table.proofs.records.ask.asked.Goals as goal

pub returns-then-room-lt-LONGEST : goal.returns-then-room-lt-LONGEST
unfolding asked_of first_of unless
returns-then-room-lt-LONGEST c = rw (lt-ltb _ _ c.if-room-lt-LONGEST.true) (c.refused.ensures c.args.t)

pub returns-then-not-well : goal.returns-then-not-well
unfolding asked_of first_of unless
returns-then-not-well c = rw (le-ltb _ _ c.if-room-lt-LONGEST.false, ← well_of c.args.s c.args.t c.survey-v.result c.survey-v.ensures _ c.well.ensures, c.if-not-well.true) (c.refused-then-not-well.ensures c.args.t)

pub returns : goal.returns
unfolding asked_of first_of unless
returns c =
    let a = c.args in
    let v = c.survey-v in
    rw (le-ltb _ _ c.if-room-lt-LONGEST.false, ← well_of a.s a.t v.result v.ensures _ c.well.ensures, c.if-not-well.false) (c.asked_in.ensures tt (c.others-o.ensures a.t v.ensures.2 v.ensures.1))
