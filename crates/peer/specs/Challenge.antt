-- 02, K5, "Forged rejoin requests": what an SA Query makes of a frame, at one peer. p is the peer's record.
-- Assumes nothing.
use Rattle.std.specs.Prelude.{ℕ, Bool, not, ◌&&◌, ◌==◌, None}
use Rattle.octets.specs.Pick.{pick}
use Rattle.octets.specs.declared.heard.Kind.{Kind}
use Rattle.peer.specs.Codes.{status_later}
use Rattle.peer.specs.Query.{is_running, is_timed_out, query_left, running_of, sent_query, stepped_of, unmarked_of}
use Rattle.peer.specs.Record.{queried_of}
use Rattle.peer.specs.Reply.{later_to, query_request, query_response, query_to}
use Rattle.peer.specs.Turn.{admit, none, nothing_told, replied_of, still_of, turn_of}
use Rattle.peer.specs.declared.query.Query.TheVariants as query
use Rattle.peer.specs.declared.record.Record.{Record}
use Rattle.peer.specs.declared.settings.Settings.{Settings}
use Rattle.peer.specs.declared.turn.Turn.{Turn}

-- "At an AP with edition 2 and protection, a (re)association request from a peer in State 4 without a timed-out query": whether a request heard
-- at an AP is met by a query.
unfoldable pub is_challenged : Settings → Record → Bool
is_challenged s p =
    (s.edition == 2) && (s.protection == 1 && (p.state == 4 && not (is_timed_out p.query)))

-- The record with a query that runs: "the record else untouched, and a query starts, at the maximum, if none runs".
unfoldable pub querying_of : Settings → Record → Record
querying_of s p = queried_of p (running_of s p.query) (stepped_of p.query p.identifier)

-- "is answered with status 30, AID 0 and a Timeout Interval element of type 3 with the query's remaining TU; verdict admit, no indication"
unfoldable pub challenged_of : Settings → Record → Kind → Turn
challenged_of s p k =
    turn_of s p (querying_of s p) admit nothing_told (later_to s p.address k status_later (query_left (running_of s p.query)))

-- "After kind 5 the next request passes and clears the mark."
unfoldable pub passed_of : Record → Record
passed_of p = queried_of p (unmarked_of p.query) p.identifier

-- "A query frame acts if sent .. by a peer in State 4: a request is answered with its identifier in either role"
unfoldable pub query_request_heard : Settings → Record → ℕ → Turn
query_request_heard s p identifier =
    pick (p.state == 4)
    (replied_of s p admit (query_to s p.address query_response identifier))
    (still_of s p admit)

-- "a response with the query's ends it"
unfoldable pub query_response_heard : Settings → Record → ℕ → Turn
query_response_heard s p identifier =
    pick (p.state == 4 && (is_running p.query && identifier == p.identifier))
    (turn_of s p (queried_of p query.None p.identifier) admit nothing_told None)
    (still_of s p admit)

-- Primitive 11: "until a new primitive 11 (AP, code 0) sends the request"
unfoldable pub inquired_of : Settings → Record → Turn
inquired_of s p =
    turn_of s p (queried_of p (sent_query p.query) p.identifier) none nothing_told (query_to s p.address query_request p.identifier)
