-- 01, A received frame, 8: deauthentication and disassociation.
-- Assumes nothing.
use Rattle.std.specs.Prelude.{ℕ, ◌==◌, nat_lt, None}
use Rattle.octets.specs.Pick.{pick}
use Rattle.peer.specs.Record.{default_hold}
use Rattle.peer.specs.Settings.{station}
use Rattle.peer.specs.Turn.{admit, deauthentication_indication, disassociation_indication, ended_of, still_of, told_of, turn_of}
use Rattle.peer.specs.declared.moves.Move.TheVariants as move
use Rattle.peer.specs.declared.record.Record.{Record}
use Rattle.peer.specs.declared.settings.Settings.{Settings}
use Rattle.peer.specs.declared.turn.Turn.{Turn}

-- "Deauthentication in State 2-4: State 1, exchange ends, indication with reason. The hold stays."
unfoldable pub deauthentication_heard : Settings → Record → ℕ → Turn
deauthentication_heard s p reason =
    pick (nat_lt p.state 2)
    (still_of s p admit)
    (turn_of s p (ended_of s p move.Deauthenticate p.hold) admit (told_of deauthentication_indication reason) None)

-- "a station sets the hold to 1,954 TU"
unfoldable pub dropped_hold : ℕ → ℕ → ℕ
dropped_hold role hold = pick (role == station) default_hold hold

-- "Disassociation in State 3 or 4: State 2, exchange ends, indication with reason; a station sets the hold"
unfoldable pub disassociation_heard : Settings → Record → ℕ → Turn
disassociation_heard s p reason =
    pick (nat_lt p.state 3)
    (still_of s p admit)
    (turn_of s p (ended_of s p move.Drop (dropped_hold s.role p.hold)) admit (told_of disassociation_indication reason) None)
