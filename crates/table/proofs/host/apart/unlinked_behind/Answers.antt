-- `table::host::apart::unlinked_behind` meets its contract: what holds from the slot reached on holds at all.
-- Assumes nothing.
use Rattle.table.proofs.Passes.Loops.{tails_end, tails_no, tails_yes}
use Rattle.table.proofs.Octets.RowLaws.{length_slots}
use Rattle.table.specs.Fit.{apart}
use Rattle.table.specs.Places.{link_addresses_of}
use Rattle.table.specs.Rows.{records_of}
use borrow.Author.Tests.{eq-eqb, ne_eqb}
use mathlib.Core.Path.{◌∙◌, refl, sym}
use native.Mathlib.Omega.{arith}
use Rattle.table.proofs.host.apart.unlinked_behind.Goals as goal

pub returns-then-link_at-a : goal.returns-then-link_at-a
returns-then-link_at-a c = tails_no (λ p ps. apart c.args.a p) (link_addresses_of (records_of c.args.table.now)) c.loop-i.i _ c.loop-i.invariant.1 0 (rw (length_slots c.args.table.now) c.loop-i-test.true) (rw (eq-eqb _ _ (sym c.link_at.ensures ∙ c.if-link_at-a.true)))

pub loop-i-preserved : goal.loop-i-preserved
loop-i-preserved c = (omega (arith, c.loop-i.invariant.0), tails_yes (λ p ps. apart c.args.a p) (link_addresses_of (records_of c.args.table.now)) c.loop-i.i _ c.loop-i.invariant.1 0 (rw (length_slots c.args.table.now) c.loop-i-test.true) (rw (ne_eqb _ _ (λ e. c.if-link_at-a.false (c.link_at.ensures ∙ e)))))

pub returns : goal.returns
returns c = tails_end (λ p ps. apart c.args.a p) (link_addresses_of (records_of c.args.table.now)) c.loop-i.i _ c.loop-i.invariant.1 (rw (length_slots c.args.table.now) c.loop-i-test.false)
