-- 01, A received frame, 8: (re)association requests and responses.
-- Assumes nothing.
use Rattle.std.specs.Prelude.{ℕ, ◌||◌, ◌==◌, nat_lt, Option, Some, None}
use Rattle.octets.specs.Pick.{pick}
use Rattle.octets.specs.declared.heard.Kind.{Kind}
use Rattle.peer.specs.Codes.{last_aid}
use Rattle.peer.specs.Authentication.{requested_of}
use Rattle.peer.specs.Challenge.{challenged_of, is_challenged, passed_of}
use Rattle.peer.specs.Moves.{moved_of}
use Rattle.peer.specs.Record.{changed_of, default_hold, is_sent}
use Rattle.peer.specs.Settings.{ap}
use Rattle.peer.specs.Turn.{admit, confirm_of, ended_of, sole_of, still_of, told_of, turn_of}
use Rattle.peer.specs.declared.moves.Move.TheVariants as move
use Rattle.peer.specs.declared.record.Record.{Record}
use Rattle.peer.specs.declared.settings.Settings.{Settings}
use Rattle.peer.specs.declared.turn.Turn.{Turn}

-- "(Re)association request, AP"; 02, K5: one that is met by a query, and one that passes
unfoldable pub request_heard : Settings → Record → Kind → ℕ → Turn
request_heard s p k current =
    pick (s.role == ap)
    (pick (is_challenged s p) (challenged_of s p k) (requested_of s (passed_of p) k current))
    (still_of s p admit)

-- "hold set: the first element .. gives its 4-octet value in TU; without one, 1,954 for any status (house)". "A comeback of 0 is a hold of 0."
abbrev pub comeback_hold : Option ℕ → ℕ
comeback_hold (Some tu) = tu
comeback_hold None = default_hold

-- "status 0 with AID (low 14 bits) outside 1-2007 does nothing. Else the exchange ends, confirm with the status. Status 0: State 3 if RSNA is
-- required, else 4; any other record in State 3 or 4 goes to State 2."
unfoldable pub accepted_of : Settings → Record → Kind → ℕ → Turn
accepted_of s p k aid =
    pick (aid == 0 || nat_lt last_aid aid)
    (still_of s p admit)
    (sole_of (turn_of s p (ended_of s p move.Join p.hold) admit (told_of (confirm_of k) 0) None))

-- "Other status: State 2, hold set"
unfoldable pub rejected_of : Settings → Record → Kind → ℕ → Option ℕ → Turn
rejected_of s p k status c =
    turn_of s p (ended_of s p move.Drop (comeback_hold c)) admit (told_of (confirm_of k) status) None

-- "Response, station, matching exchange sent". (At an AP no exchange is sent.)
unfoldable pub response_heard : Settings → Record → Kind → ℕ → ℕ → Option ℕ → Turn
response_heard s p k status aid c =
    pick (is_sent k p.exchange)
    (pick (status == 0) (accepted_of s p k aid) (rejected_of s p k status c))
    (still_of s p admit)

-- "any other record in State 3 or 4 goes to State 2"; its exchange, time left and hold stay
unfoldable pub parted_of : Record → Record
parted_of p =
    pick (nat_lt p.state 3) p (changed_of p (moved_of 0 p.state move.Drop) p.exchange p.left p.hold)
