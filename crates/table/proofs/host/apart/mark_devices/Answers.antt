-- `table::host::apart::mark_devices` meets its contract: the marks of the devices passed are set.
-- Assumes nothing.
use Rattle.table.proofs.Octets.RowLaws.{address_at}
use Rattle.table.proofs.Passes.LinkMarks.{marked_next}
use Rattle.table.proofs.Passes.Marks.{broad_of}
use Rattle.table.specs.Places.{addresses_of}
use Rattle.table.specs.Rows.{records_of}
use borrow.Author.Rules.{rules}
use lib.ListN.{get_or, length-set}
use mathlib.Core.Bool.{true}
use mathlib.Core.Path.{◌∙◌, ap}
use native.Mathlib.Omega.{arith}
use Rattle.table.proofs.host.apart.mark_devices.Goals as goal

pub loop-i-preserved : goal.loop-i-preserved
loop-i-preserved c =
    let xs = c.args.table.now in
    let named = c.broad.ensures ∙ ap broad_of (c.address_in.ensures ∙ address_at c.loop-i.i xs c.loop-i-test.true) in
    (length-set c.loop-i.marks c.broad.result true ∙ c.loop-i.invariant.0, marked_next c.loop-i.marks (λ j. broad_of (get_or (addresses_of (records_of xs)) j 0)) c.loop-i.i c.broad.result (rw c.loop-i.invariant.0 (omega (arith, c.broad.ensures))) named c.loop-i.invariant.1)
