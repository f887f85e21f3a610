-- 01, A received frame, 8: "Admit and act as below; what is not named does nothing." Whether there is anything to do for a frame that came so far. p is
-- the peer's record, fresh where it has none. 02, K4: "admitted with nothing to do".
-- Assumes nothing.
use Rattle.std.specs.Prelude.{ℕ, Bool, false, not, ◌&&◌, ◌||◌, ◌==◌, nat_le, nat_lt}
use Rattle.octets.specs.Pick.{pick}
use Rattle.octets.specs.declared.heard.Heard.TheVariants as heard
use Rattle.octets.specs.declared.heard.Heard.{Heard}
use Rattle.octets.specs.declared.heard.Kind.TheVariants as kind
use Rattle.octets.specs.declared.heard.Kind.{Kind}
use Rattle.peer.specs.Codes.{last_aid}
use Rattle.peer.specs.Hear.{is_exchange, is_query}
use Rattle.peer.specs.Query.{is_running}
use Rattle.peer.specs.Record.{is_sent}
use Rattle.peer.specs.Settings.{ap, role_answers}
use Rattle.peer.specs.declared.record.Record.{Record}
use Rattle.peer.specs.declared.settings.Settings.{Settings}

-- "Authentication, AP, transaction 1": a reply with status 13 or 17, or an indication. "Authentication, station, algorithm 0, transaction 2,
-- authentication sent to that peer": a confirm.
unfoldable pub authentication_acts : Settings → Record → ℕ → ℕ → Bool
authentication_acts s p algorithm transaction =
    pick (transaction == 1) (role_answers s.role)
    (transaction == 2 && (algorithm == 0 && is_sent kind.Authentication p.exchange))

-- "Response, station, matching exchange sent: status 0 with AID (low 14 bits) outside 1-2007 does nothing. Else .. confirm with the status."
unfoldable pub response_acts : Record → Kind → ℕ → ℕ → Bool
response_acts p k status aid = is_sent k p.exchange && not (status == 0 && (aid == 0 || nat_lt last_aid aid))

-- 02, K5: "by a peer in State 4: .. a response with the query's ends it"
unfoldable pub query_response_acts : Record → ℕ → Bool
query_response_acts p identifier = p.state == 4 && (is_running p.query && identifier == p.identifier)

abbrev pub acts_of : Settings → Record → Heard → Bool
acts_of s p heard.Other = false
acts_of s p (heard.Authentication algorithm transaction status) = authentication_acts s p algorithm transaction
-- "Deauthentication in State 2-4"; "Disassociation in State 3 or 4": an indication
acts_of s p (heard.Deauthentication reason) = nat_le 2 p.state
acts_of s p (heard.Disassociation reason) = nat_le 3 p.state
-- "(Re)association request, AP": an indication; 02, K5: or a reply with status 30
acts_of s p (heard.Request k current) = s.role == ap
acts_of s p (heard.Response k status aid comeback) = response_acts p k status aid
-- 02, K5: "by a peer in State 4: a request is answered with its identifier in either role"
acts_of s p (heard.QueryRequest identifier) = p.state == 4
acts_of s p (heard.QueryResponse identifier) = query_response_acts p identifier

-- 7. "Management subtypes 0 to 3 and 11 to a group address: discard, no reply."
unfoldable pub group_barred : Bool → Heard → Bool
group_barred group h = group && is_exchange h

-- Nothing to do; 02, K5: "A query frame acts if sent to our own address".
unfoldable pub idle_of : Settings → Record → Bool → Heard → Bool
idle_of s p group h = not (acts_of s p h) || (group && is_query h)
