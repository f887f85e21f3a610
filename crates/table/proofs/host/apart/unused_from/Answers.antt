-- `table::host::apart::unused_from` meets its contract: what holds from the place reached on holds at all.
-- Assumes nothing.
use Rattle.table.proofs.Passes.Loops.{tails_end, tails_no, tails_yes}
use Rattle.table.proofs.Octets.RowLaws.{address_at, length_addresses}
use Rattle.table.specs.Fit.{apart}
use Rattle.table.specs.Places.{addresses_of}
use Rattle.table.specs.Rows.{records_of}
use borrow.Author.Tests.{eq-eqb, ne_eqb}
use mathlib.Core.Path.{◌∙◌, refl, sym}
use native.Mathlib.Omega.{arith}
use Rattle.table.proofs.host.apart.unused_from.Goals as goal

pub returns-then-address_in-a : goal.returns-then-address_in-a
returns-then-address_in-a c = tails_no (λ p ps. apart c.args.a p) (addresses_of (records_of c.args.table.now)) c.loop-i.i _ c.loop-i.invariant 0 (rw (length_addresses c.args.table.now) c.loop-i-test.true) (rw (eq-eqb _ _ (sym (address_at _ _ c.loop-i-test.true) ∙ sym c.address_in.ensures ∙ c.if-address_in-a.true)))

pub loop-i-preserved : goal.loop-i-preserved
loop-i-preserved c = tails_yes (λ p ps. apart c.args.a p) (addresses_of (records_of c.args.table.now)) c.loop-i.i _ c.loop-i.invariant 0 (rw (length_addresses c.args.table.now) c.loop-i-test.true) (rw (ne_eqb _ _ (λ e. c.if-address_in-a.false (c.address_in.ensures ∙ address_at _ _ c.loop-i-test.true ∙ e))))

pub returns : goal.returns
returns c = tails_end (λ p ps. apart c.args.a p) (addresses_of (records_of c.args.table.now)) c.loop-i.i _ c.loop-i.invariant (rw (length_addresses c.args.table.now) c.loop-i-test.false)
