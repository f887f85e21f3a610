-- `table::records::places::first_link` meets its contract. The outer loop keeps: what is found from place i on is what is found at all. The inner
-- one: place i where a slot from j on has the address, else what is found from place i + 1 on, is what is found at all.
-- Assumes nothing.
use Rattle.octets.specs.Links.{links_of}
use Rattle.peer.specs.Record.{free_of}
use Rattle.table.proofs.Passes.Loops.{first_end}
use Rattle.table.proofs.Walks.LinkLists.{first_in, some_end, some_no, some_yes}
use borrow.Author.Rules.{rules}
use borrow.Author.Tests.{eq-eqb, ne_eqb}
use lib.Dec.{eqb}
use mathlib.Core.Path.{◌∙◌, refl, sym}
use native.Mathlib.Omega.{arith}
use Rattle.table.proofs.records.places.first_link.Goals as goal

pub loop-j-init : goal.loop-j-init
loop-j-init c =
    (omega arith, c.search.invariant.2, first_in (λ l. eqb l c.args.address) (λ p. links_of p.links) _ _ _ c.search.invariant.3 free_of (rw c.search.invariant.0 c.search-test.true))

pub loop-j-preserved : goal.loop-j-preserved
loop-j-preserved c =
    let inv = c.loop-j.invariant in
    (omega arith, inv.1, some_no _ _ _ _ _ _ inv.2 0 c.loop-j-test.true (ne_eqb _ _ (λ e. c.if-at-address.false (c.at.ensures ∙ e))))

pub search-preserved : goal.search-preserved
search-preserved c =
    (c.search.invariant.0, omega arith, c.loop-j.invariant.1, some_end _ _ _ _ _ _ c.loop-j.invariant.2 c.loop-j-test.false)

pub returns-after-search : goal.returns-after-search
returns-after-search c = c.search.invariant.2 ∙ first_end _ _ _ _ c.search.invariant.3 (rw c.search.invariant.0 c.search-test.false)

pub returns-then-at-address : goal.returns-then-at-address
returns-then-at-address c = some_yes _ _ _ _ _ _ c.loop-j.invariant.2 0 c.loop-j-test.true (eq-eqb _ _ (sym c.at.ensures ∙ c.if-at-address.true))
