-- 01, A received frame, 8: authentication.
-- Assumes nothing.
use Rattle.std.specs.Prelude.{ℕ, ◌&&◌, ◌==◌, None}
use Rattle.octets.specs.Pick.{pick}
use Rattle.octets.specs.declared.heard.Kind.TheVariants as kind
use Rattle.octets.specs.declared.heard.Kind.{Kind}
use Rattle.peer.specs.Codes.{status_algorithm, status_full}
use Rattle.peer.specs.Record.{is_sent}
use Rattle.peer.specs.Reply.{authentication_to}
use Rattle.peer.specs.Settings.{role_answers}
use Rattle.peer.specs.Turn.{admit, begun_of, confirm_of, ended_of, indication_of, replied_of, still_of, told_of, turn_of}
use Rattle.peer.specs.declared.moves.Move.TheVariants as move
use Rattle.peer.specs.declared.moves.Move.{Move}
use Rattle.peer.specs.declared.exchange.Exchange.TheVariants.{Asked}
use Rattle.peer.specs.declared.record.Record.{Record}
use Rattle.peer.specs.declared.settings.Settings.{Settings}
use Rattle.peer.specs.declared.turn.Turn.{Turn}

-- "that exchange asked, replacing any, with an indication; a reassociation's carries the current AP address"; its code is 0
unfoldable pub requested_of : Settings → Record → Kind → ℕ → Turn
requested_of s p k current =
    turn_of s p (begun_of p (Asked k) 0) admit (record { notice = indication_of k; code = 0; current = current }) None

-- "algorithm not 0, reply transaction 2, same algorithm, status 13. Else .. the record (new if need be) has authentication asked, replacing any
-- exchange, with an indication; state unchanged." 02, K10: "an asked exchange has time 0", where it replaces one of our own too.
unfoldable pub authentication_asked : Settings → Record → ℕ → Turn
authentication_asked s p algorithm =
    pick (algorithm == 0)
    (requested_of s p kind.Authentication 0)
    (replied_of s p admit (authentication_to s p.address algorithm 2 status_algorithm))

-- "no record and no free place, reply status 17"
unfoldable pub full_of : Settings → Record → Turn
full_of s p = replied_of s p admit (authentication_to s p.address 0 2 status_full)

-- "status 0 moves State 1 to 2 and leaves others; another status leaves the state"
unfoldable pub answered_move : ℕ → Move
answered_move status = pick (status == 0) move.Authenticate move.Keep

-- "Authentication, station, algorithm 0, transaction 2, authentication sent to that peer: exchange ends; .. Confirm with the status." (Where one
-- was sent, the role asks.)
unfoldable pub authentication_answered : Settings → Record → ℕ → ℕ → ℕ → Turn
authentication_answered s p algorithm transaction status =
    pick (algorithm == 0 && (transaction == 2 && is_sent kind.Authentication p.exchange))
    (turn_of s p (ended_of s p (answered_move status) p.hold) admit (told_of (confirm_of kind.Authentication) status) None)
    (still_of s p admit)

-- "Authentication, AP, transaction 1", or what may be an answer to us. 02, K10: "Authentication may be asked by either end, by both roles' rules."
unfoldable pub authentication_heard : Settings → Record → ℕ → ℕ → ℕ → Turn
authentication_heard s p algorithm transaction status =
    pick (transaction == 1 && role_answers s.role)
    (authentication_asked s p algorithm)
    (authentication_answered s p algorithm transaction status)
