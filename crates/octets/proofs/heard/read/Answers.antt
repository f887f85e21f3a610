-- `octets::heard::read` meets its contract: each arm by its type and subtype.
-- Assumes nothing.
use Rattle.octets.proofs.Branch.{tests}
use Rattle.octets.specs.Heard.{heard_of}
use Rattle.octets.proofs.heard.read.Goals as goal

pub returns-then-first-ne0 : goal.returns-then-first-ne0
unfolding heard_of
returns-then-first-ne0 c = search (tests, ← c.octet_at-first.ensures)

pub returns-in-0 : goal.returns-in-0
unfolding heard_of
returns-in-0 c = search (tests, c.in-0.is, ← c.octet_at-first.ensures)

pub returns-in-1 : goal.returns-in-1
unfolding heard_of
returns-in-1 c = search (tests, ← c.response.ensures, c.in-1.is, ← c.octet_at-first.ensures)

pub returns-in-2 : goal.returns-in-2
unfolding heard_of
returns-in-2 c = search (tests, ← c.address_at.ensures, c.in-2.is, ← c.octet_at-first.ensures)

pub returns-in-3 : goal.returns-in-3
unfolding heard_of
returns-in-3 c = search (tests, ← c.response-in-3.ensures, c.in-3.is, ← c.octet_at-first.ensures)

pub returns-in-10 : goal.returns-in-10
unfolding heard_of
returns-in-10 c = search (tests, ← c.u16_at.ensures, c.in-10.is, ← c.octet_at-first.ensures)

pub returns-in-11 : goal.returns-in-11
unfolding heard_of
returns-in-11 c = search (tests, ← c.authentication.ensures, c.in-11.is, ← c.octet_at-first.ensures)

pub returns-in-12 : goal.returns-in-12
unfolding heard_of
returns-in-12 c = search (tests, ← c.u16_at-in-12.ensures, c.in-12.is, ← c.octet_at-first.ensures)

pub returns-in-13 : goal.returns-in-13
unfolding heard_of
returns-in-13 c = search (tests, ← c.query.ensures, c.in-13.is, ← c.octet_at-first.ensures)

pub returns-in_default : goal.returns-in_default
unfolding heard_of
returns-in_default c = search (tests, ← c.octet_at-first.ensures)
