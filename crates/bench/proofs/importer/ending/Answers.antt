-- `bench::importer::ending` meets its contract: by the stage.
-- Assumes nothing.
use Rattle.bench.specs.Importer.{end_at, ending_of}
use borrow.Author.Tests.{eq-eqb, ne_eqb}
use lib.Dec.{eqb}
use mathlib.Core.Bool.{false}
use mathlib.Core.Path.{◌≡◌, refl}
use native.Mathlib.Omega.{arith}
use Rattle.bench.proofs.importer.ending.Goals as goal

pub returns-in-Head : goal.returns-in-Head
unfolding end_at ending_of
returns-in-Head c = record { outcome = rw c.in-Head.is refl; number = rw c.in-Head.is refl }

pub returns-then-left-eq0 : goal.returns-then-left-eq0
unfolding end_at ending_of
returns-then-left-eq0 c =
    let none : c.args.left ≡ 0 = omega (arith, c.if-left-eq0.true) in
    record { outcome = rw (c.in-Between.is, eq-eqb _ _ none) refl; number = rw (c.in-Between.is, eq-eqb _ _ none) refl }

pub returns-else-left-eq0 : goal.returns-else-left-eq0
unfolding end_at ending_of
returns-else-left-eq0 c =
    let some : eqb c.args.left 0 ≡ false = ne_eqb _ _ (λ e. omega (arith, e, c.if-left-eq0.false)) in
    record { outcome = rw (c.in-Between.is, some) refl; number = rw (c.in-Between.is, some) refl }

pub returns-in-Passing : goal.returns-in-Passing
unfolding end_at ending_of
returns-in-Passing c = record { outcome = rw c.in-Passing.is refl; number = rw c.in-Passing.is refl }

pub returns-in-Over : goal.returns-in-Over
unfolding end_at ending_of
returns-in-Over c = record { outcome = rw c.in-Over.is refl; number = rw c.in-Over.is refl }
