-- `table::records::places::find_link` meets its contract: each answer by the tests that led to it and what its callees ensure.
-- Assumes nothing.
use Rattle.table.specs.Places.{find_link_of}
use borrow.Author.Tests.{eq-eqb, ne_eqb}
use Rattle.table.proofs.records.places.find_link.Goals as goal

pub returns-then-address-eq0 : goal.returns-then-address-eq0
unfolding find_link_of
returns-then-address-eq0 c = rw (eq-eqb _ _ c.if-address-eq0.true)

pub returns : goal.returns
unfolding find_link_of
returns c = rw (ne_eqb _ _ c.if-address-eq0.false) c.first_link.ensures
