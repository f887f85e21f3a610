-- `table::host::standing::links_standing` meets its contract: each answer by the tests that led to it and what its callees ensure.
-- Assumes nothing.
use Rattle.table.proofs.Octets.LinkStandings.{links_by}
use borrow.Author.Tests.{eq-eqb, ne_eqb}
use Rattle.table.proofs.host.standing.links_standing.Goals as goal

pub returns-then-linkless_at : goal.returns-then-linkless_at
returns-then-linkless_at c = rw (links_by c.args.s c.args.at c.args.table.now c.requires _ c.linkless_at.ensures, c.if-linkless_at.true)

pub returns-then-s-ne-AP : goal.returns-then-s-ne-AP
returns-then-s-ne-AP c = rw (links_by c.args.s c.args.at c.args.table.now c.requires _ c.linkless_at.ensures, c.if-linkless_at.false, ne_eqb _ _ c.if-s-ne-AP.true)

pub returns : goal.returns
returns c = rw (links_by c.args.s c.args.at c.args.table.now c.requires _ c.linkless_at.ensures, c.if-linkless_at.false, eq-eqb _ _ c.if-s-ne-AP.false, ← c.row_at-r.ensures) c.links_stand.ensures
