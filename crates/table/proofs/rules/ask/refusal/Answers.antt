-- `table::rules::ask::refusal` meets its contract: each answer by the tests that led to it and what its callees ensure.
-- Assumes nothing.
use Rattle.table.proofs.Passes.Found.{found}
use Rattle.table.specs.Refusals.{first_of}
use Rattle.table.proofs.rules.ask.refusal.Goals as goal

pub returns-then-not-may_ask : goal.returns-then-not-may_ask
unfolding first_of
returns-then-not-may_ask c = rw (← c.may_ask.ensures, c.if-not-may_ask.true)

pub returns-then-is_some : goal.returns-then-is_some
unfolding first_of
returns-then-is_some c = rw (← c.may_ask.ensures, c.if-not-may_ask.false, ← found c.args.link, ← c.is_some.ensures, c.if-is_some.true)

pub returns-then-not-role_allowed : goal.returns-then-not-role_allowed
unfolding first_of
returns-then-not-role_allowed c = rw (← c.may_ask.ensures, c.if-not-may_ask.false, ← found c.args.link, ← c.is_some.ensures, c.if-is_some.false, ← c.role_allowed.ensures, c.if-not-role_allowed.true)

pub returns-then-conflict : goal.returns-then-conflict
unfolding first_of
returns-then-conflict c = rw (← c.may_ask.ensures, c.if-not-may_ask.false, ← found c.args.link, ← c.is_some.ensures, c.if-is_some.false, ← c.role_allowed.ensures, c.if-not-role_allowed.false, ← c.conflict.ensures, c.if-conflict.true)

pub returns-then-mismatch : goal.returns-then-mismatch
unfolding first_of
returns-then-mismatch c = rw (← c.may_ask.ensures, c.if-not-may_ask.false, ← found c.args.link, ← c.is_some.ensures, c.if-is_some.false, ← c.role_allowed.ensures, c.if-not-role_allowed.false, ← c.conflict.ensures, c.if-conflict.false, ← c.mismatch.ensures, c.if-mismatch.true)

pub returns-then-held : goal.returns-then-held
unfolding first_of
returns-then-held c = rw (← c.may_ask.ensures, c.if-not-may_ask.false, ← found c.args.link, ← c.is_some.ensures, c.if-is_some.false, ← c.role_allowed.ensures, c.if-not-role_allowed.false, ← c.conflict.ensures, c.if-conflict.false, ← c.mismatch.ensures, c.if-mismatch.false, ← c.held.ensures, c.if-held.true)

pub returns-then-no_place : goal.returns-then-no_place
unfolding first_of
returns-then-no_place c = rw (← c.may_ask.ensures, c.if-not-may_ask.false, ← found c.args.link, ← c.is_some.ensures, c.if-is_some.false, ← c.role_allowed.ensures, c.if-not-role_allowed.false, ← c.conflict.ensures, c.if-conflict.false, ← c.mismatch.ensures, c.if-mismatch.false, ← c.held.ensures, c.if-held.false, ← c.no_place.ensures, c.if-no_place.true)

pub returns : goal.returns
unfolding first_of
returns c = rw (← c.may_ask.ensures, c.if-not-may_ask.false, ← found c.args.link, ← c.is_some.ensures, c.if-is_some.false, ← c.role_allowed.ensures, c.if-not-role_allowed.false, ← c.conflict.ensures, c.if-conflict.false, ← c.mismatch.ensures, c.if-mismatch.false, ← c.held.ensures, c.if-held.false, ← c.no_place.ensures, c.if-no_place.false)
