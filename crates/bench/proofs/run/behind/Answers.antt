-- `bench::run::behind` meets its contract: by its test.
-- Assumes nothing.
use Prim.Native.Nat.{◌+◌, ◌≤◌}
use Rattle.bench.specs.Run.{behind_of}
use borrow.Author.Tests.{leb-true}
use mathlib.Core.Path.{sym, ◌∙◌}
use native.Mathlib.Omega.{arith}
use Rattle.bench.proofs.run.behind.Goals as goal

pub overflow_add-result : goal.overflow_add-result
overflow_add-result c =
    let a = c.args in
    let h : a.at + a.n ≤ a.have = leb-true _ _ (sym c.has_room.ensures ∙ c.if-has_room.true) in
    omega arith

pub returns-then-has_room : goal.returns-then-has_room
unfolding behind_of
returns-then-has_room c = rw (sym c.has_room.ensures ∙ c.if-has_room.true)

pub returns-else-has_room : goal.returns-else-has_room
unfolding behind_of
returns-else-has_room c = rw (sym c.has_room.ensures ∙ c.if-has_room.false)
