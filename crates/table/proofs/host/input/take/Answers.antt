-- `table::host::input::take` meets its contract: each answer by the tests that led to it and what its callees ensure.
-- Assumes nothing.
use Rattle.table.specs.Input.{taken_of}
use Rattle.octets.proofs.Branch.{tests}
use borrow.Author.Tests.{le-ltb}
use mathlib.Core.Path.{ap}
use Rattle.table.specs.declared.host.input.Taken.TheVariants.{First, Next}
use Rattle.table.proofs.host.input.take.Goals as goal

pub returns-then-s-lt5 : goal.returns-then-s-lt5
unfolding taken_of
returns-then-s-lt5 c = search tests

pub returns-then-not-is_marked : goal.returns-then-not-is_marked
unfolding taken_of
returns-then-not-is_marked c = search (tests, c.if-not-is_marked.true, ← c.is_marked.ensures)

pub returns-then-not-length_allowed : goal.returns-then-not-length_allowed
unfolding taken_of
returns-then-not-length_allowed c = search (tests, c.if-not-length_allowed.true, ← c.length_allowed.ensures, ← c.u16_at-size.ensures, ← c.octet_at-kind.ensures, c.if-not-is_marked.false, ← c.is_marked.ensures)

pub returns-then-s-size : goal.returns-then-s-size
unfolding taken_of
returns-then-s-size c = search (tests, c.if-not-length_allowed.false, ← c.length_allowed.ensures, ← c.u16_at-size.ensures, ← c.octet_at-kind.ensures, c.if-not-is_marked.false, ← c.is_marked.ensures)

pub returns-then-first : goal.returns-then-first
unfolding taken_of
returns-then-first c = rw (le-ltb _ _ c.if-s-lt5.false, ← c.is_marked.ensures, c.if-not-is_marked.false, ← c.octet_at-kind.ensures, ← c.u16_at-size.ensures, ← c.length_allowed.ensures, c.if-not-length_allowed.false, le-ltb _ _ c.if-s-size.false, c.if-first.true) (ap First (rw c.body.ensures at c.settings_in.ensures))

pub returns-then-is_miscounted : goal.returns-then-is_miscounted
unfolding taken_of
returns-then-is_miscounted c = rw (le-ltb _ _ c.if-s-lt5.false, ← c.is_marked.ensures, c.if-not-is_marked.false, ← c.octet_at-kind.ensures, ← c.u16_at-size.ensures, ← c.length_allowed.ensures, c.if-not-length_allowed.false, le-ltb _ _ c.if-s-size.false, c.if-first.false, ← c.is_miscounted.ensures, c.if-is_miscounted.true)

pub returns-else-is_miscounted : goal.returns-else-is_miscounted
unfolding taken_of
returns-else-is_miscounted c = rw (le-ltb _ _ c.if-s-lt5.false, ← c.is_marked.ensures, c.if-not-is_marked.false, ← c.octet_at-kind.ensures, ← c.u16_at-size.ensures, ← c.length_allowed.ensures, c.if-not-length_allowed.false, le-ltb _ _ c.if-s-size.false, c.if-first.false, ← c.is_miscounted.ensures, c.if-is_miscounted.false) (ap Next c.event_at.ensures)
