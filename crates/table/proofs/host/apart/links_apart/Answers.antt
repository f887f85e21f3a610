-- `table::host::apart::links_apart` meets its contract: no link passed is in a later slot or a device's address.
-- Assumes nothing.
use Prim.Native.Nat.{◌<◌, ℕ}
use Rattle.table.proofs.Octets.RowLaws.{length_addresses, length_slots}
use Rattle.table.proofs.Passes.LinkMarks.{compared_all, compared_none, compared_one, compared_zero, marked_all, not_apart}
use Rattle.table.proofs.Passes.Marks.{broad_of}
use Rattle.table.specs.Places.{addresses_of, link_addresses_of}
use Rattle.table.specs.Rows.{records_of}
use borrow.Author.Tests.{ne_eqb}
use lib.ListN.{length}
use mathlib.Core.Path.{◌∙◌, sym}
use native.Mathlib.Omega.{arith}
use Rattle.table.proofs.host.apart.links_apart.Goals as goal

pub loop-k-init : goal.loop-k-init
loop-k-init c =
    let xs = c.args.table.now in
    let set = c.mark_devices.ensures in
    let wide : (a : ℕ) → broad_of a < length c.mark_devices.new.marks = λ a. rw set.0 (omega arith) in
    let devices = marked_all broad_of c.mark_devices.new.marks wide (addresses_of (records_of xs)) (λ i r. set.1 i (rw (length_addresses xs) at r)) in
    (omega arith, rw (length_slots xs) at (compared_none broad_of (link_addresses_of (records_of xs)) (addresses_of (records_of xs)) c.mark_devices.new.marks wide devices))

pub link_at-l-requires : goal.link_at-l-requires
link_at-l-requires c = omega (arith, c.loop-k-test.true, c.loop-k.invariant.0)

pub bounds-marks-m : goal.bounds-marks-m
bounds-marks-m c = omega (arith, c.broad-m.ensures)

pub alone-requires : goal.alone-requires
alone-requires c = omega (arith, c.loop-k-test.true, c.loop-k.invariant.0)

pub returns-then-not-alone : goal.returns-then-not-alone
returns-then-not-alone c =
    not_apart _ _ _ _ c.loop-k.invariant.1 c.loop-k-test.true _ c.link_at-l.ensures (ne_eqb _ _ c.if-l-ne0.true) _ c.broad-m.ensures (sym c.alone.ensures ∙ c.if-not-alone.true)

pub bounds-marks-m-then-l-ne0 : goal.bounds-marks-m-then-l-ne0
bounds-marks-m-then-l-ne0 c = omega (arith, c.broad-m.ensures)

pub loop-k-preserved-then-l-ne0 : goal.loop-k-preserved-then-l-ne0
loop-k-preserved-then-l-ne0 c =
    (omega (arith, c.loop-k.invariant.0), compared_one _ _ _ _ c.loop-k.invariant.1 c.loop-k-test.true _ c.link_at-l.ensures (ne_eqb _ _ c.if-l-ne0.true) _ c.broad-m.ensures (sym c.alone.ensures ∙ c.if-not-alone.false))

pub loop-k-preserved : goal.loop-k-preserved
loop-k-preserved c =
    (omega (arith, c.loop-k.invariant.0), compared_zero _ _ _ _ c.loop-k.invariant.1 c.loop-k-test.true _ c.link_at-l.ensures c.if-l-ne0.false)

pub returns : goal.returns
returns c = compared_all _ _ _ _ c.loop-k.invariant.1 c.loop-k-test.false
