-- `table::rules::link::refusal` meets its contract: each answer by the tests that led to it and what its callees ensure.
-- Assumes nothing.
use Rattle.table.proofs.Passes.Found.{found}
use Rattle.table.specs.Refusals.{first_of}
use borrow.Author.Tests.{eq-eqb, ne_eqb}
use Rattle.table.proofs.rules.link.refusal.Goals as goal

pub returns-then-not-may : goal.returns-then-not-may
unfolding first_of
returns-then-not-may c = rw c.if-not-may.true

pub returns-then-s-ne-AP : goal.returns-then-s-ne-AP
unfolding first_of
returns-then-s-ne-AP c = rw (c.if-not-may.false, ne_eqb _ _ c.if-s-ne-AP.true)

pub returns-then-p-ne-STATE_1 : goal.returns-then-p-ne-STATE_1
unfolding first_of
returns-then-p-ne-STATE_1 c = rw (c.if-not-may.false, eq-eqb _ _ c.if-s-ne-AP.false, ne_eqb _ _ c.if-p-ne-STATE_1.true)

pub returns-then-count-eq0 : goal.returns-then-count-eq0
unfolding first_of
returns-then-count-eq0 c = rw (c.if-not-may.false, eq-eqb _ _ c.if-s-ne-AP.false, eq-eqb _ _ c.if-p-ne-STATE_1.false, eq-eqb _ _ c.if-count-eq0.true)

pub returns-then-is_some : goal.returns-then-is_some
unfolding first_of
returns-then-is_some c = rw (c.if-not-may.false, eq-eqb _ _ c.if-s-ne-AP.false, eq-eqb _ _ c.if-p-ne-STATE_1.false, ne_eqb _ _ c.if-count-eq0.false, ← found c.args.at, ← c.is_some.ensures, c.if-is_some.true)

pub returns-then-is_some-2 : goal.returns-then-is_some-2
unfolding first_of
returns-then-is_some-2 c = rw (c.if-not-may.false, eq-eqb _ _ c.if-s-ne-AP.false, eq-eqb _ _ c.if-p-ne-STATE_1.false, ne_eqb _ _ c.if-count-eq0.false, ← found c.args.at, ← c.is_some.ensures, c.if-is_some.false, ← found c.args.free, ← c.is_some-2.ensures, c.if-is_some-2.true)

pub returns-else-is_some-2 : goal.returns-else-is_some-2
unfolding first_of
returns-else-is_some-2 c = rw (c.if-not-may.false, eq-eqb _ _ c.if-s-ne-AP.false, eq-eqb _ _ c.if-p-ne-STATE_1.false, ne_eqb _ _ c.if-count-eq0.false, ← found c.args.at, ← c.is_some.ensures, c.if-is_some.false, ← found c.args.free, ← c.is_some-2.ensures, c.if-is_some-2.false)
