-- `octets::heard::query` meets its contract: by length, category and action.
-- Assumes nothing.
use Rattle.octets.proofs.Branch.{tests}
use Rattle.octets.specs.Heard.{query_of}
use Rattle.octets.proofs.heard.query.Goals as goal

pub returns-then-frame-lt28 : goal.returns-then-frame-lt28
unfolding query_of
returns-then-frame-lt28 c = search tests

pub returns-then-octet_at-ne-SA_QUERY : goal.returns-then-octet_at-ne-SA_QUERY
unfolding query_of
returns-then-octet_at-ne-SA_QUERY c = search (tests, ← c.octet_at.ensures)

pub returns-in-0 : goal.returns-in-0
unfolding query_of
returns-in-0 c = search (tests, c.in-0.is, ← c.octet_at-2.ensures, ← c.u16_at-identifier.ensures, ← c.octet_at.ensures)

pub returns-in-1 : goal.returns-in-1
unfolding query_of
returns-in-1 c = search (tests, c.in-1.is, ← c.octet_at-2.ensures, ← c.u16_at-identifier.ensures, ← c.octet_at.ensures)

pub returns-in_default : goal.returns-in_default
unfolding query_of
returns-in_default c = search (tests, ← c.octet_at-2.ensures, ← c.octet_at.ensures)
