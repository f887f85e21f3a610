-- `table::host::rows::stored` meets its contract: each answer by the tests that led to it and what its callees ensure.
-- Assumes nothing.
use Rattle.std.proofs.Common.{rules}
use Rattle.peer.proofs.Links.{parted_links}
use Rattle.peer.specs.Association.{parted_of}
use Rattle.peer.specs.declared.record.Record.{Record}
use Rattle.table.proofs.Passes.Lists.{map_same}
use Rattle.table.proofs.Octets.RowLaws.{length_records}
use Rattle.table.proofs.Octets.RowStores.{put_maybe, put_table}
use Rattle.table.specs.Rows.{records_of}
use lib.ListN.{length-map}
use mathlib.Core.List.{map}
use mathlib.Core.Path.{◌∙◌, sym}
use Rattle.table.proofs.host.rows.stored.Goals as goal

pub returns-then-sole : goal.returns-then-sole
returns-then-sole c = λ e same. rw c.if-sole.true (c.put.ensures ∙ rw c.part_all.ensures (put_maybe (map parted_of (records_of c.args.table.now)) (length-map (records_of c.args.table.now) parted_of ∙ length_records 32 0 _) _ _ _ (λ z. rw c.if-sole.true at (same z) ∙ sym (map_same (λ (p : Record). p.links) parted_of (λ p. (parted_links p).1) (records_of c.args.table.now)))))

pub returns : goal.returns
returns c = λ e same. rw c.if-sole.false (c.put-2.ensures ∙ put_table c.args.table.now (λ k. search rules) e _ _ _ (λ z. rw c.if-sole.false at (same z)))
