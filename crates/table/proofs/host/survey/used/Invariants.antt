-- `table::host::survey::used` meets its contract: the places passed are free.
-- Assumes nothing.
use Prim.Native.Nat.{◌*◌, ◌<◌, ◌≤◌, ℕ}
use Rattle.octets.specs.Row.{blank_at}
use lib.ListN.{length}
use mathlib.Core.Bool.{true}
use mathlib.Core.Path.{◌≡◌}
use Rattle.table.proofs.host.survey.used.Given as goal

abbrev pub invariant-loop-i : goal.invariant-loop-i
invariant-loop-i l = (length l.table ≡ 1536) × (l.i ≤ 8) × ((j : ℕ) → 4 * l.i ≤ j → j < 32 → blank_at (48 * j) l.table ≡ true)
