-- `table::host::standing::all_links_standing` meets its contract: what holds from the place reached on holds at all.
-- Assumes nothing.
use Rattle.peer.specs.Fit.{links_fit}
use Rattle.peer.specs.Record.{free_of}
use Rattle.table.proofs.Octets.RowLaws.{at_place, length_records}
use Rattle.table.proofs.Passes.Loops.{tails_end, tails_no, tails_yes}
use Rattle.table.specs.Rows.{records_of}
use mathlib.Core.Path.{◌∙◌, ap, refl, sym}
use native.Mathlib.Omega.{arith}
use Rattle.table.proofs.host.standing.all_links_standing.Goals as goal

pub loop-i-init : goal.loop-i-init
loop-i-init c = refl

pub overflow_mul-i : goal.overflow_mul-i
overflow_mul-i c = omega (arith, c.loop-i-test.true)

pub links_standing-requires : goal.links_standing-requires
links_standing-requires c = rw c.requires (omega (arith, c.loop-i-test.true))

pub returns-then-not-links_standing : goal.returns-then-not-links_standing
returns-then-not-links_standing c =
    let s = c.args.s in
    let xs = c.args.table.now in
    let inside = c.loop-i-test.true in
    tails_no (λ p ps. links_fit s p) (records_of xs) c.loop-i.i _ c.loop-i.invariant free_of (rw (length_records 32 0 xs) inside) (ap (links_fit s) (sym (at_place _ xs inside)) ∙ sym c.links_standing.ensures ∙ c.if-not-links_standing.true)

pub loop-i-preserved : goal.loop-i-preserved
loop-i-preserved c =
    let s = c.args.s in
    let xs = c.args.table.now in
    let inside = c.loop-i-test.true in
    tails_yes (λ p ps. links_fit s p) (records_of xs) c.loop-i.i _ c.loop-i.invariant free_of (rw (length_records 32 0 xs) inside) (ap (links_fit s) (sym (at_place _ xs inside)) ∙ sym c.links_standing.ensures ∙ c.if-not-links_standing.false)

pub returns : goal.returns
returns c =
    let xs = c.args.table.now in
    tails_end (λ p ps. links_fit c.args.s p) (records_of xs) c.loop-i.i _ c.loop-i.invariant (rw (length_records 32 0 xs) c.loop-i-test.false)
