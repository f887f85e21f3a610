-- `table::records::play::addresses_of` meets its contract: the addresses of the places passed are written down.
-- Assumes nothing.
use Prim.Native.Nat.{◌≤◌}
use Rattle.table.proofs.Passes.Views.{Named}
use lib.ListN.{length}
use mathlib.Core.Path.{◌≡◌}
use Rattle.table.proofs.records.play.addresses_of.Given as goal

abbrev pub invariant-loop-i : goal.invariant-loop-i
invariant-loop-i l = (length l.t ≡ 32) × (l.i ≤ 32) × Named l.t l.addresses l.i

abbrev pub decreases-loop-i : goal.decreases-loop-i
decreases-loop-i l = l.i
