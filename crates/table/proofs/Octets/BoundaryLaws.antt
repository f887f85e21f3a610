-- What a call at the boundary to C promises, case by case: no room for the answer, and the call over octets with its answer written.
-- Assumes nothing.
use mathlib.Core.Path.{◌≡◌}
use mathlib.Core.List.{List}
use Prim.Native.Nat.{ℕ, ◌<◌, ◌≤◌}
use lib.ListN.{length}
use borrow.Author.Tests.{lt-ltb, le-ltb}
use Rattle.table.specs.Boundary.{answer_in, crossed, crossed_of, settings_in}
use Rattle.table.specs.declared.rules.answer.Answer.{Answer}
use Rattle.table.specs.declared.rules.event.Event.{Event}
use Rattle.table.proofs.Octets.HostLaws.{Gives}

module _ (xs ss : List ℕ) (e : Event) (fs l k : List ℕ) where
  pub no_answer : length k < 24 → crossed 1 xs l k ≡ crossed_of xs ss e fs l k
  unfolding crossed_of
  no_answer h = rw (lt-ltb (length k) 24 h)

  pub crosses : 24 ≤ length k → (a : Answer) (ys m : List ℕ) → Gives xs (settings_in ss) e fs l a ys m → crossed a.refusal ys m (answer_in a k) ≡ crossed_of xs ss e fs l k
  unfolding crossed_of
  crosses h a ys m g = rw (le-ltb (length k) 24 h, g.0, g.1, g.2)
