-- `table::rules::ask::no_place` meets its contract: each answer by the tests that led to it and what its callees ensure.
-- Assumes nothing.
use Rattle.std.specs.Prelude.{ℕ, Bool, false, true, not, ◌&&◌, Option, Some, None, eqb, is_some}
use Rattle.table.specs.Ask.{no_place}
use borrow.Author.Tests.{eq-eqb, ne_eqb}
use mathlib.Core.Path.{◌≡◌, ◌∙◌, ap, refl}
use Rattle.table.proofs.rules.ask.no_place.Goals as goal

-- a newcomer, by whether a place is free; a peer with a record
newcomer : (at free : Option ℕ) (q : ℕ) (b : Bool) → eqb q 1 ≡ true → is_some at ≡ false → is_some free ≡ not b → b ≡ no_place at free q
unfolding no_place
newcomer None None q true e h f = rw e
newcomer None None q false e h f = cc
newcomer None (Some i) q true e h f = cc
newcomer None (Some i) q false e h f = rw e
newcomer (Some j) free q b e h f = cc

none_either : (b : Bool) → false ≡ (b && false)
none_either true = refl
none_either false = refl

known : (at free : Option ℕ) (q : ℕ) → is_some at ≡ true → false ≡ no_place at free q
unfolding no_place
known None free q h = cc
known (Some i) free q h = none_either (eqb q 1)

pub returns-then-primitive-ne1 : goal.returns-then-primitive-ne1
unfolding no_place
returns-then-primitive-ne1 c = rw (ne_eqb _ _ c.if-primitive-ne1.true)

pub returns-then-is_none : goal.returns-then-is_none
returns-then-is_none c =
    let a = c.args in
    newcomer a.at a.free a.primitive _ (eq-eqb _ _ c.if-primitive-ne1.false) (c.is_none.ensures ∙ ap not c.if-is_none.true) c.is_none-then-is_none.ensures

pub returns-else-is_none : goal.returns-else-is_none
returns-else-is_none c =
    let a = c.args in
    c.if-is_none.false ∙ known a.at a.free a.primitive (c.is_none.ensures ∙ ap not c.if-is_none.false)
