-- `table::rules::why::why_from` meets its contract: each answer by the tests that led to it.
-- Assumes nothing.
use Rattle.octets.proofs.Branch.{tests}
use Rattle.table.specs.Why.{why_from}
use Rattle.table.proofs.rules.why.why_from.Goals as goal

pub returns-then-not-passes : goal.returns-then-not-passes
unfolding why_from
returns-then-not-passes c = search (tests, ← c.beside.ensures, ← c.passes.ensures, c.if-not-passes.true)

pub returns-then-group_barred : goal.returns-then-group_barred
unfolding why_from
returns-then-group_barred c = search (tests, ← c.plain.ensures, ← c.group_barred.ensures, ← c.passes.ensures, c.if-group_barred.true, c.if-not-passes.false)

pub returns-then-idle : goal.returns-then-idle
unfolding why_from
returns-then-idle c = search (tests, ← c.plain-then-idle.ensures, ← c.idle.ensures, ← c.group_barred.ensures, ← c.passes.ensures, c.if-idle.true, c.if-group_barred.false, c.if-not-passes.false)

pub returns : goal.returns
unfolding why_from
returns c = search (tests, ← c.plain-2.ensures, ← c.idle.ensures, ← c.group_barred.ensures, ← c.passes.ensures, c.if-idle.false, c.if-group_barred.false, c.if-not-passes.false)
