-- `table::rules::common::common` meets its contract: each answer by the tests that led to it.
-- Assumes nothing.
use Rattle.table.specs.Common.{common_of}
use borrow.Author.Tests.{eq-eqb, ne_eqb}
use Rattle.table.proofs.rules.common.common.Goals as goal

pub returns-then-first-eq-BEACON : goal.returns-then-first-eq-BEACON
unfolding common_of
returns-then-first-eq-BEACON c = rw (eq-eqb _ _ c.if-first-eq-BEACON.true)

pub returns-then-first-eq8 : goal.returns-then-first-eq8
unfolding common_of
returns-then-first-eq8 c = rw (ne_eqb _ _ c.if-first-eq-BEACON.false, eq-eqb _ _ c.if-first-eq8.true)

pub returns-else-first-eq8 : goal.returns-else-first-eq8
unfolding common_of
returns-else-first-eq8 c = rw (ne_eqb _ _ c.if-first-eq-BEACON.false, ne_eqb _ _ c.if-first-eq8.false)
