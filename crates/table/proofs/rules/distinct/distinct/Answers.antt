-- `table::rules::distinct::distinct` meets its contract: what holds from the place reached on holds at all.
-- Assumes nothing.
use Rattle.std.proofs.Common.{◌≡◌, sym, ◌∙◌, eq-eqb, ne_eqb, true, false, length, take, drop, get_or, ◌+◌, ◌-◌}
use Rattle.std.specs.List.{list_any}
use lib.Dec.{eqb}
use Rattle.table.proofs.Passes.Listed.{absent_listed, rest_of}
use Rattle.table.proofs.Passes.Loops.{tails_end, tails_no, tails_yes}
use Rattle.table.specs.Fit.{alone_in}
use Rattle.table.proofs.rules.distinct.distinct.Goals as goal
use Rattle.table.proofs.rules.distinct.distinct.Goals.{else-a-ne0-via-then-a-ne0+else-contains, else-a-ne0-via-else-a-ne0}

pub returns-then-contains : goal.returns-then-contains
unfolding alone_in
returns-then-contains c =
    let there : list_any (λ y. eqb y (get_or c.args.addresses.now c.loop-i.i 0)) (take (length c.args.addresses.now - (c.loop-i.i + 1)) (drop (c.loop-i.i + 1) c.args.addresses.now)) ≡ true = sym c.contains.ensures.value ∙ c.if-contains.true in
    tails_no alone_in c.args.addresses.now c.loop-i.i _ c.loop-i.invariant 0 c.loop-i-test.true (rw (ne_eqb _ _ c.if-a-ne0.true, absent_listed, ← rest_of (c.loop-i.i + 1) c.args.addresses.now, there))

pub loop-i-preserved : goal.loop-i-preserved
unfolding alone_in
loop-i-preserved c =
    elim c.else-a-ne0.branch [
      | else-a-ne0-via-then-a-ne0+else-contains w ↦
          let none : list_any (λ y. eqb y (get_or c.args.addresses.now c.loop-i.i 0)) (take (length c.args.addresses.now - (c.loop-i.i + 1)) (drop (c.loop-i.i + 1) c.args.addresses.now)) ≡ false = sym w.contains.ensures.value ∙ w.if-contains.false in
          tails_yes alone_in c.args.addresses.now c.loop-i.i _ c.loop-i.invariant 0 c.loop-i-test.true (rw (ne_eqb _ _ w.if-a-ne0.true, absent_listed, ← rest_of (c.loop-i.i + 1) c.args.addresses.now, none))
      | else-a-ne0-via-else-a-ne0 w ↦ tails_yes alone_in c.args.addresses.now c.loop-i.i _ c.loop-i.invariant 0 c.loop-i-test.true (rw (eq-eqb _ _ w.if-a-ne0.false))
    ]

pub returns : goal.returns
returns c = tails_end alone_in c.args.addresses.now c.loop-i.i _ c.loop-i.invariant c.loop-i-test.false
