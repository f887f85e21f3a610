-- `table::rules::link::used_elsewhere` meets its contract: each answer by the tests that led to it and what its callees ensure.
-- Assumes nothing.
use Rattle.std.specs.Prelude.{Bool, not, Option, Some, None, false, true, is_some, nat_eq, eqb, ℕ}
use Rattle.std.specs.Option.{option_eq}
use Rattle.table.proofs.Passes.Found.{found}
use Rattle.table.specs.Link.{used_elsewhere}
use Rattle.table.specs.Places.{on_found}
use mathlib.Core.Path.{◌≡◌, ◌∙◌, refl, sym}
use Rattle.table.proofs.rules.link.used_elsewhere.Goals as goal

-- a place that was found, and is not the other
apart : (at link : Option ℕ) → is_some link ≡ true → not (option_eq nat_eq at link) ≡ on_found link false (λ j. not (on_found at false (λ i. eqb i j)))
apart None None h = cc
apart (Some i) None h = cc
apart None (Some j) h = refl
apart (Some i) (Some j) h = refl

-- where none was found
nowhere : (at link : Option ℕ) → is_some link ≡ false → false ≡ on_found link false (λ j. not (on_found at false (λ i. eqb i j)))
nowhere at None h = refl
nowhere at (Some j) h = cc

pub returns-then-is_some : goal.returns-then-is_some
unfolding used_elsewhere
returns-then-is_some c = rw (← found c.args.device, ← c.is_some.ensures, c.if-is_some.true)

pub returns-then-is_some-2 : goal.returns-then-is_some-2
unfolding used_elsewhere
returns-then-is_some-2 c = rw (← found c.args.device, ← c.is_some.ensures, c.if-is_some.false) (c.ne.ensures ∙ apart c.args.at c.args.link (sym c.is_some-else-is_some.ensures ∙ c.if-is_some-2.true))

pub returns-else-is_some-2 : goal.returns-else-is_some-2
unfolding used_elsewhere
returns-else-is_some-2 c = rw (← found c.args.device, ← c.is_some.ensures, c.if-is_some.false) (c.if-is_some-2.false ∙ nowhere c.args.at c.args.link (sym c.is_some-else-is_some.ensures ∙ c.if-is_some-2.false))
