-- A row that waits for nothing: a clock step leaves its record, and tells nothing of it.
-- Assumes nothing.
use Prim.Native.Nat.{ℕ}
use mathlib.Core.Bool.{false}
use mathlib.Core.Path.{◌≡◌}
use native.Mathlib.Nat.{zero-sub}
use lib.Dec.{eqb}
use Rattle.octets.specs.declared.row.Row.{Row}
use Rattle.peer.proofs.QuerySteps.{in_none}
use Rattle.peer.specs.Query.{query_of}
use Rattle.peer.specs.Record.{changed_of, queried_of}
use Rattle.peer.specs.Tick.{freed_of, queried_timed, reported_of, tick_of, timed_of}
use Rattle.peer.specs.declared.settings.Settings.{Settings}
use Rattle.table.specs.Rows.{record_of}

pub rests :
    (r : Row) → r.hold ≡ 0 → r.left ≡ 0 → eqb r.state 1 ≡ false → r.query ≡ 0
    → (s : Settings) (d : ℕ) → tick_of s (record_of r) d ≡ record { peer = record_of r; report = 0 }
unfolding record_of query_of tick_of timed_of freed_of changed_of queried_timed queried_of reported_of
rests r h l n q s d = rw (h, l, q, zero-sub d, in_none r.state, n)
