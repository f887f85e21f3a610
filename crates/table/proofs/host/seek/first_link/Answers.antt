-- `table::host::seek::first_link` meets its contract: nothing is found in the places passed, nor in the slots passed of the one reached.
-- Assumes nothing.
use Rattle.octets.specs.Links.{links_of}
use Rattle.peer.specs.Record.{free_of}
use Rattle.peer.specs.declared.record.Record.{Record}
use Rattle.table.proofs.Octets.RowLaws.{length_records, slot_in}
use Rattle.table.proofs.Passes.Loops.{first_end}
use Rattle.table.proofs.Walks.LinkLists.{first_in, some_end, some_no, some_yes}
use borrow.Author.Tests.{eq-eqb, ne_eqb}
use lib.Dec.{eqb}
use mathlib.Core.Path.{◌∙◌, ap, refl, sym}
use native.Mathlib.Omega.{arith}
use Rattle.table.proofs.host.seek.first_link.Goals as goal

pub loop-j-init : goal.loop-j-init
loop-j-init c =
    let a = c.args in
    (c.search-test.true, omega arith, c.search.invariant.1, first_in (λ l. eqb l a.address) (λ (p : Record). links_of p.links) _ _ _ c.search.invariant.2 free_of (rw (length_records 32 0 a.table.now) c.search-test.true))

pub loop-j-preserved : goal.loop-j-preserved
loop-j-preserved c =
    let a = c.args in
    let read = sym (c.link_in.ensures ∙ slot_in c.search.i c.loop-j.j a.table.now c.loop-j.invariant.0) in
    (c.loop-j.invariant.0, omega (arith, c.loop-j-test.true), c.loop-j.invariant.2, some_no _ _ _ _ _ _ c.loop-j.invariant.3 0 c.loop-j-test.true (ap (λ l. eqb l a.address) read ∙ ne_eqb _ _ c.if-link_in-address.false))

pub search-preserved : goal.search-preserved
search-preserved c = (omega (arith, c.loop-j.invariant.0), c.loop-j.invariant.2, some_end _ _ _ _ _ _ c.loop-j.invariant.3 c.loop-j-test.false)

pub returns-after-search : goal.returns-after-search
returns-after-search c = c.search.invariant.1 ∙ first_end _ _ _ _ c.search.invariant.2 (rw (length_records 32 0 c.args.table.now) c.search-test.false)

pub returns-then-link_in-address : goal.returns-then-link_in-address
returns-then-link_in-address c =
    let a = c.args in
    let read = sym (c.link_in.ensures ∙ slot_in c.search.i c.loop-j.j a.table.now c.loop-j.invariant.0) in
    some_yes _ _ _ _ _ _ c.loop-j.invariant.3 0 c.loop-j-test.true (ap (λ l. eqb l a.address) read ∙ eq-eqb _ _ c.if-link_in-address.true)
