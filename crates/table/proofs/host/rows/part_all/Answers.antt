-- `table::host::rows::part_all` meets its contract: the places passed hold what they must, the others what they held.
-- Assumes nothing.
use Rattle.peer.proofs.Links.{parted_links}
use Rattle.peer.specs.Association.{parted_of}
use Rattle.table.proofs.Octets.RowStores.{record_unread, rewritten_all, rewritten_free, rewritten_head, rewritten_none}
use borrow.Author.Rules.{rules}
use borrow.Author.Tests.{lt-ltb}
use mathlib.Core.Path.{◌∙◌, refl, sym}
use native.Mathlib.Omega.{arith}
use Rattle.table.proofs.host.rows.part_all.Goals as goal

pub loop-i-init : goal.loop-i-init
loop-i-init c = (c.requires, search rules, (λ k. (c.type_inv.table k).fits), rewritten_none parted_of _)

pub loop-i-preserved-then-blank_at : goal.loop-i-preserved-then-blank_at
unfolding parted_of
loop-i-preserved-then-blank_at c = (c.loop-i.invariant.0, omega (arith, c.loop-i-test.true), c.loop-i.invariant.2, rewritten_free parted_of _ c.loop-i.invariant.0 _ _ c.loop-i-test.true c.loop-i.invariant.3 c.loop-i.invariant.2 (sym c.blank_at.ensures ∙ c.if-blank_at.true) refl)

pub loop-i-preserved : goal.loop-i-preserved
loop-i-preserved c = (c.loop-i.invariant.0, omega (arith, c.loop-i-test.true), c.loop-i.invariant.2, c.store_head.ensures ∙ rw (lt-ltb _ _ c.loop-i-test.true) (rewritten_head parted_of _ c.loop-i.invariant.0 _ _ c.loop-i-test.true c.loop-i.invariant.3 c.loop-i.invariant.2 (λ q. (parted_links q).1) _ (c.parted-q.ensures ∙ rw (c.look-p.ensures, record_unread parted_of _ c.loop-i.invariant.0 _ _ c.loop-i-test.true c.loop-i.invariant.3))))

pub returns : goal.returns
returns c = rewritten_all parted_of _ c.loop-i.invariant.0 _ _ c.loop-i.invariant.1 c.loop-i-test.false c.loop-i.invariant.3
