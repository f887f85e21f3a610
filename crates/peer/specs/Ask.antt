-- 01, "Primitives from our own side", at one peer, where nothing refuses it. p is the peer's record, fresh where it has none.
-- Assumes nothing.
use Rattle.std.specs.Prelude.{ℕ, ◌||◌, ◌==◌, nat_lt, None}
use Rattle.octets.specs.Pick.{pick}
use Rattle.octets.specs.declared.heard.Kind.TheVariants.{Association, Authentication, Reassociation}
use Rattle.octets.specs.declared.heard.Kind.{Kind}
use Rattle.peer.specs.Codes.{status_refused}
use Rattle.peer.specs.Authentication.{answered_move}
use Rattle.peer.specs.Challenge.{inquired_of}
use Rattle.peer.specs.Moves.{moved_of}
use Rattle.peer.specs.Record.{changed_of}
use Rattle.peer.specs.Reply.{authentication_to, deauthentication_to, disassociation_to, request_to, response_to}
use Rattle.peer.specs.Turn.{begun_of, confirm_of, deauthentication_confirm, disassociation_confirm, ended_of, none, nothing_told, told_of, turn_of}
use Rattle.peer.specs.declared.moves.Move.TheVariants as move
use Rattle.peer.specs.declared.moves.Move.{Move}
use Rattle.peer.specs.declared.exchange.Exchange.TheVariants.{Awaiting, Sent}
use Rattle.peer.specs.declared.record.Record.{Record}
use Rattle.peer.specs.declared.refuse.Others.{Others}
use Rattle.peer.specs.declared.settings.Settings.{Settings}
use Rattle.peer.specs.declared.turn.Turn.{Turn}

-- "A frame of 1, 4 or 5 starts a sent exchange at its timeout."
abbrev pub timeout_of : Settings → Kind → ℕ
timeout_of s Authentication = s.authentication
timeout_of s Association = s.association
timeout_of s Reassociation = s.association

unfoldable pub started_of : Settings → Record → Kind → ℕ → Turn
started_of s p k current =
    turn_of s p (begun_of p (Sent k) (timeout_of s k)) none nothing_told (request_to s p.address k current)

-- 2. "frame transaction 2; exchange ends; status 0 moves State 1 to 2, others kept"
unfoldable pub answer_of : Settings → Record → ℕ → Turn
answer_of s p status =
    turn_of s p (ended_of s p (answered_move status) p.hold) none nothing_told (authentication_to s p.address 0 2 status)

-- 3. "frame only from State 2-4; State 1, exchange ends, confirm always"; "carries the code given"
unfoldable pub deauthenticate_of : Settings → Record → ℕ → Turn
deauthenticate_of s p reason =
    turn_of s p (ended_of s p move.Deauthenticate p.hold) none (told_of deauthentication_confirm reason)
    (pick (nat_lt p.state 2) None (deauthentication_to s p.address reason))

-- "confirm status 1"
unfoldable pub failed_of : Settings → Record → Kind → Turn
failed_of s p k = turn_of s p p none (told_of (confirm_of k) status_refused) None

-- 4. "State 1: confirm status 1; else frame"
unfoldable pub associate_of : Settings → Record → Turn
associate_of s p = pick (p.state == 1) (failed_of s p Association) (started_of s p Association 0)

-- 5. "none in State 3 or 4, or peer in State 1: confirm status 1; else frame with the associated AP's address"
unfoldable pub reassociate_of : Settings → Record → Others → Turn
reassociate_of s p o =
    pick (o.associated == 0 || p.state == 1)
    (failed_of s p Reassociation)
    (started_of s p Reassociation o.associated)

-- 6. "State 3, 4: frame, State 2, exchange ends; confirm always with the code; else record unchanged"
unfoldable pub disassociate_of : Settings → Record → ℕ → Turn
disassociate_of s p reason =
    pick (nat_lt p.state 3)
    (turn_of s p p none (told_of disassociation_confirm reason) None)
    (turn_of s p (ended_of s p move.Drop p.hold) none (told_of disassociation_confirm reason) (disassociation_to s p.address reason))

-- 7, 8. "status 0: frame with AID, awaits acknowledgement, state kept"
unfoldable pub awaited_of : Settings → Record → Kind → ℕ → Turn
awaited_of s p k aid = turn_of s p (begun_of p (Awaiting k) 0) none nothing_told (response_to s p.address k 0 aid)

-- Where a rejection of ours leads. 02, K2: "Document 001 sends the peer to State 2 when an AP answers anything but success." (edition 1, whatever
-- the flag) "Document 004 leaves the state as it is where management frame protection is in use, and otherwise moves State 4 to 3 only." (edition 2)
unfoldable pub declined_move : Settings → Move
declined_move s = pick (s.edition == 1) move.Drop (pick (s.protection == 1) move.Keep move.Lower)

-- "else frame AID 0, .. exchange ends"; the state as the edition has it
unfoldable pub declined_of : Settings → Record → Kind → ℕ → Turn
declined_of s p k status =
    turn_of s p (ended_of s p (declined_move s) p.hold) none nothing_told (response_to s p.address k status 0)

unfoldable pub respond_of : Settings → ℕ → Record → Kind → ℕ → Turn
respond_of s aid p k status = pick (status == 0) (awaited_of s p k aid) (declined_of s p k status)

-- 9. "State 3 to 4; State 4 kept"; the exchange goes on
unfoldable pub secure_of : Settings → Record → Turn
secure_of s p =
    turn_of s p (changed_of p (moved_of s.rsna p.state move.Secure) p.exchange p.left p.hold) none nothing_told None

-- 10. "1: State 3 if RSNA required, else 4; 0: state kept; exchange ends"
unfoldable pub reported_move : ℕ → Move
reported_move code = pick (code == 1) move.Join move.Keep

unfoldable pub report_of : Settings → Record → ℕ → Turn
report_of s p code = turn_of s p (ended_of s p (reported_move code) p.hold) none nothing_told None

-- What each primitive does where nothing refuses it.
unfoldable pub ask_of : Settings → ℕ → Record → Others → ℕ → ℕ → Turn
ask_of s aid p o q code =
    -- 1. "frame transaction 1, status 0; state kept"
    pick (q == 1) (started_of s p Authentication 0)
    (pick (q == 2) (answer_of s p code)
    (pick (q == 3) (deauthenticate_of s p code)
    (pick (q == 4) (associate_of s p)
    (pick (q == 5) (reassociate_of s p o)
    (pick (q == 6) (disassociate_of s p code)
    (pick (q == 7) (respond_of s aid p Association code)
    (pick (q == 8) (respond_of s aid p Reassociation code)
    (pick (q == 9) (secure_of s p)
    (pick (q == 10) (report_of s p code)
    -- 11: another number is refused 3 before.
    (inquired_of s p))))))))))
