-- `table::host::survey::any_linked` meets its contract: nothing is found in the places passed.
-- Assumes nothing.
use Prim.Native.Nat.{◌+◌, ◌-◌}
use Rattle.table.proofs.Octets.LinkSurveys.{four_places, none_behind, one_found}
use Rattle.table.specs.Rows.{linked_in, records_of}
use lib.ListN.{drop}
use mathlib.Core.Bool.{false}
use mathlib.Core.Path.{◌∙◌, ◌≡◌, sym}
use native.Mathlib.Omega.{arith}
use Rattle.table.proofs.host.survey.any_linked.Goals as goal

pub returns-then-n-lt4 : goal.returns-then-n-lt4
returns-then-n-lt4 c =
    let n = c.args.n in
    let first : n ≡ 0 = omega (arith, c.requires.2, c.if-n-lt4.true) in
    sym (rw first at (none_behind c.args.table.now c.requires.0 (32 - n) n (omega (arith, c.requires.1)) c.requires.3))

pub loop-n-init : goal.loop-n-init
loop-n-init c =
    let n = c.args.n in
    let back : n - 4 + 4 ≡ n = omega (arith, c.if-n-lt4.false) in
    (c.requires.0, omega (arith, c.requires.1, c.if-n-lt4.false), omega (arith, c.requires.2, c.if-n-lt4.false), rw back (none_behind c.args.table.now c.requires.0 (32 - n) n (omega (arith, c.requires.1)) c.requires.3))

pub returns-then-i-lt4 : goal.returns-then-i-lt4
returns-then-i-lt4 c =
    let first : c.loop-n.i ≡ 0 = omega (arith, c.loop-n.invariant.2, c.if-i-lt4.true) in
    let none : linked_in (drop c.loop-n.i (records_of c.args.table.now)) ≡ false = four_places _ c.loop-n.invariant.0 c.loop-n.i c.loop-n.invariant.1 ∙ rw (← c.linkless_four.ensures, c.loop-n-test.true) c.loop-n.invariant.3 in
    sym (rw first at none)

pub loop-n-preserved : goal.loop-n-preserved
loop-n-preserved c =
    let i = c.loop-n.i in
    let back : i - 4 + 4 ≡ i = omega (arith, c.if-i-lt4.false) in
    (c.loop-n.invariant.0, omega (arith, c.loop-n.invariant.1), omega (arith, c.loop-n.invariant.2, c.if-i-lt4.false), rw back (four_places _ c.loop-n.invariant.0 i c.loop-n.invariant.1 ∙ rw (← c.linkless_four.ensures, c.loop-n-test.true) c.loop-n.invariant.3))

pub returns : goal.returns
returns c =
    one_found _ c.loop-n.invariant.0 c.loop-n.i c.loop-n.invariant.1 (sym c.linkless_four.ensures ∙ c.loop-n-test.false)
