-- `table::host::standing::query_standing` meets its contract: each answer by the tests that led to it.
-- Assumes nothing.
use Rattle.peer.specs.Fit.{query_stands}
use Rattle.table.proofs.Octets.QueryStandings.{by_tests, nowhere}
use borrow.Author.Tests.{eq-eqb, le-leb, lt-leb, ne_eqb}
use native.Mathlib.Omega.{arith}
use mathlib.Core.Path.{◌≡◌}
use Rattle.table.proofs.host.standing.query_standing.Goals as goal

pub returns-then-query-remaining-eq0 : goal.returns-then-query-remaining-eq0
returns-then-query-remaining-eq0 c =
    let none : c.args.query ≡ 0 = omega (arith, c.if-query-remaining-eq0.true) in
    let over : c.args.remaining ≡ 0 = omega (arith, c.if-query-remaining-eq0.true) in
    rw (by_tests c.args.s c.args.state c.args.query c.args.remaining, none, over)

pub returns-then-s-ne-AP : goal.returns-then-s-ne-AP
unfolding query_stands
returns-then-s-ne-AP c = nowhere c.args.s c.args.state c.args.query c.args.remaining c.if-query-remaining-eq0.false (rw (ne_eqb _ _ c.if-s-ne-AP.true))

pub returns-then-state-ne-STATE_4 : goal.returns-then-state-ne-STATE_4
unfolding query_stands
returns-then-state-ne-STATE_4 c = nowhere c.args.s c.args.state c.args.query c.args.remaining c.if-query-remaining-eq0.false (rw (eq-eqb _ _ c.if-s-ne-AP.false, ne_eqb _ _ c.if-state-ne-STATE_4.true))

pub returns-then-query-eq3 : goal.returns-then-query-eq3
unfolding query_stands
returns-then-query-eq3 c = rw (by_tests c.args.s c.args.state c.args.query c.args.remaining, eq-eqb _ _ c.if-s-ne-AP.false, eq-eqb _ _ c.if-state-ne-STATE_4.false, c.if-query-eq3.true)

pub returns-then-query-eq0 : goal.returns-then-query-eq0
returns-then-query-eq0 c =
    let some : c.args.remaining ≡ 0 → ⊥ = λ z. c.if-query-remaining-eq0.false (omega (arith, c.if-query-eq0.true, z)) in
    rw (by_tests c.args.s c.args.state c.args.query c.args.remaining, c.if-query-eq0.true, ne_eqb _ _ some)

pub returns-then-query-gt3 : goal.returns-then-query-gt3
unfolding query_stands
returns-then-query-gt3 c = rw (by_tests c.args.s c.args.state c.args.query c.args.remaining, eq-eqb _ _ c.if-s-ne-AP.false, eq-eqb _ _ c.if-state-ne-STATE_4.false, ne_eqb _ _ c.if-query-eq3.false, ne_eqb _ _ c.if-query-eq0.false, lt-leb _ _ c.if-query-gt3.true)

pub returns-then-remaining-eq0 : goal.returns-then-remaining-eq0
unfolding query_stands
returns-then-remaining-eq0 c = rw (by_tests c.args.s c.args.state c.args.query c.args.remaining, eq-eqb _ _ c.if-s-ne-AP.false, eq-eqb _ _ c.if-state-ne-STATE_4.false, ne_eqb _ _ c.if-query-eq3.false, ne_eqb _ _ c.if-query-eq0.false, le-leb _ _ c.if-query-gt3.false, eq-eqb _ _ c.if-remaining-eq0.true)

pub returns : goal.returns
unfolding query_stands
returns c = rw (by_tests c.args.s c.args.state c.args.query c.args.remaining, eq-eqb _ _ c.if-s-ne-AP.false, eq-eqb _ _ c.if-state-ne-STATE_4.false, ne_eqb _ _ c.if-query-eq3.false, ne_eqb _ _ c.if-query-eq0.false, le-leb _ _ c.if-query-gt3.false, ne_eqb _ _ c.if-remaining-eq0.false)
