-- `bench::input::shift` meets its contract: the octets are copied to the front.
-- Assumes nothing.
use Rattle.bench.proofs.Moves.{not_within}
use Rattle.bench.specs.Run.{left_of, shifted_of}
use borrow.Author.Tests.{le-leb, lt-leb}
use lib.ListN.{length}
use mathlib.Core.Path.{refl, ◌∙◌}
use native.Mathlib.Nat.{zero-add}
use native.Mathlib.Omega.{arith}
use Rattle.bench.proofs.input.shift.Goals as goal

pub returns-then-input-have : goal.returns-then-input-have
unfolding left_of shifted_of
returns-then-input-have c = rw (not_within c.args.at c.args.have (length c.args.input.now) c.if-input-have.true) (refl, refl)

pub returns-then-have-at : goal.returns-then-have-at
unfolding left_of shifted_of
returns-then-have-at c = rw (lt-leb c.args.at c.args.have c.if-have-at.true) (refl, refl)

pub returns : goal.returns
unfolding left_of shifted_of
returns c =
    let a = c.args in
    rw (le-leb a.at a.have (omega arith), le-leb a.have (length a.input.now) (omega arith)) (refl, c.copy_within.ensures.after ∙ rw zero-add)
