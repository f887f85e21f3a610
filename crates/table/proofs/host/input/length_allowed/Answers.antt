-- `table::host::input::length_allowed` meets its contract: each answer by the tests that led to it and what its callees ensure.
-- Assumes nothing.
use Rattle.table.specs.Input.{length_allowed}
use Rattle.octets.proofs.Branch.{tests}
use Rattle.table.proofs.host.input.length_allowed.Goals as goal

pub returns-then-kind-eq0 : goal.returns-then-kind-eq0
unfolding length_allowed
returns-then-kind-eq0 c = search (tests, c.if-first.true, ← c.settings_length.ensures)

pub returns-else-kind-eq0 : goal.returns-else-kind-eq0
unfolding length_allowed
returns-else-kind-eq0 c = search (tests, c.if-first.true)

pub returns-in-1 : goal.returns-in-1
unfolding length_allowed
returns-in-1 c = search (tests, c.in-1.is, c.if-first.false)

pub returns-in-2 : goal.returns-in-2
unfolding length_allowed
returns-in-2 c = search (tests, c.in-2.is, c.if-first.false)

pub returns-in-3 : goal.returns-in-3
unfolding length_allowed
returns-in-3 c = search (tests, c.in-3.is, c.if-first.false)

pub returns-then-size-ge7 : goal.returns-then-size-ge7
unfolding length_allowed
returns-then-size-ge7 c = search (tests, c.in-4.is, c.if-first.false)

pub returns-else-size-ge7 : goal.returns-else-size-ge7
unfolding length_allowed
returns-else-size-ge7 c = search (tests, c.in-4.is, c.if-first.false)

pub returns-in_default : goal.returns-in_default
unfolding length_allowed
returns-in_default c = search (tests, c.if-first.false)
