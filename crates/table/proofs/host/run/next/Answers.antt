-- `table::host::run::next` meets its contract: by its test and what its callees ensure.
-- Assumes nothing.
use Rattle.std.proofs.Common.{rules}
use borrow.Author.Tests.{le-ltb}
use Rattle.table.proofs.Octets.KnownLaws.{all_body, all_octets_lem}
use Rattle.table.proofs.host.run.next.Goals as goal

pub returns : goal.returns
returns c =
    let a = c.args in
    let r = rw c.room.ensures at c.if-out-room.false in
    let k = rw c.body.ensures at (c.known_call-a.ensures c.requires r) in
    let xs = all_octets_lem a.table.now (λ j. search rules) in
    let rs = all_octets_lem a.records.now (λ j. (c.type_inv.records j).fits) in
    (rw (le-ltb _ _ r, c.record_length.ensures, c.told.ensures.1, k.0, k.1, k.2), c.known_after.ensures a.s a.table.now _ a.out.now xs (all_body _ rs) c.requires k.1)
