-- `table::host::rows::find` meets its contract: what is found from the place reached on is what is found at all.
-- Assumes nothing.
use Rattle.table.proofs.Passes.Loops.{first_end, first_no, first_yes}
use Rattle.table.proofs.Octets.RowLaws.{address_at, length_addresses}
use borrow.Author.Tests.{eq-eqb, ne_eqb}
use mathlib.Core.Path.{◌∙◌, refl, sym}
use native.Mathlib.Omega.{arith}
use Rattle.table.proofs.host.rows.find.Goals as goal

pub returns-then-address_in-address : goal.returns-then-address_in-address
returns-then-address_in-address c = first_yes _ _ _ _ c.loop-i.invariant.2 0 (rw (length_addresses _) c.loop-i-test.true) (eq-eqb _ _ (sym (address_at _ _ c.loop-i-test.true) ∙ sym c.address_in.ensures ∙ c.if-address_in-address.true))

pub loop-i-preserved : goal.loop-i-preserved
loop-i-preserved c = (c.loop-i.invariant.0, omega (arith, c.loop-i-test.true), first_no _ _ _ _ c.loop-i.invariant.2 0 (rw (length_addresses _) c.loop-i-test.true) (ne_eqb _ _ (λ e. c.if-address_in-address.false (c.address_in.ensures ∙ address_at _ _ c.loop-i-test.true ∙ e))))

pub returns : goal.returns
returns c = first_end _ _ _ _ c.loop-i.invariant.2 (rw (length_addresses _) c.loop-i-test.false)
