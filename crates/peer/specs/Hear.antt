-- 01, A received frame, 6 to 8: what a frame from one peer does. p is the peer's record, fresh where it has none: "A peer without a record
-- counts as State 1."
-- Assumes nothing.
use Rattle.std.specs.Prelude.{Bool, true, false, not}
use Rattle.octets.specs.Pick.{pick}
use Rattle.octets.specs.declared.class.FrameClass.{FrameClass}
use Rattle.octets.specs.declared.heard.Heard.TheVariants as heard
use Rattle.octets.specs.declared.heard.Heard.{Heard}
use Rattle.peer.specs.Association.{request_heard, response_heard}
use Rattle.peer.specs.Authentication.{authentication_heard}
use Rattle.peer.specs.Challenge.{query_request_heard, query_response_heard}
use Rattle.peer.specs.Farewell.{deauthentication_heard, disassociation_heard}
use Rattle.peer.specs.Filter.{barred_of, passes_of}
use Rattle.peer.specs.Turn.{admit, discard, replied_of, still_of}
use Rattle.peer.specs.declared.record.Record.{Record}
use Rattle.peer.specs.declared.settings.Settings.{Settings}
use Rattle.peer.specs.declared.turn.Turn.{Turn}

-- Management subtypes 0 to 3 and 11: (re)association requests and responses, authentication.
abbrev pub is_exchange : Heard → Bool
is_exchange heard.Other = false
is_exchange (heard.Authentication algorithm transaction status) = true
is_exchange (heard.Deauthentication reason) = false
is_exchange (heard.Disassociation reason) = false
is_exchange (heard.Request kind current) = true
is_exchange (heard.Response kind status aid comeback) = true
is_exchange (heard.QueryRequest identifier) = false
is_exchange (heard.QueryResponse identifier) = false

abbrev pub is_query : Heard → Bool
is_query heard.Other = false
is_query (heard.Authentication algorithm transaction status) = false
is_query (heard.Deauthentication reason) = false
is_query (heard.Disassociation reason) = false
is_query (heard.Request kind current) = false
is_query (heard.Response kind status aid comeback) = false
is_query (heard.QueryRequest identifier) = true
is_query (heard.QueryResponse identifier) = true

-- 8. "Admit and act as below; what is not named does nothing."
abbrev pub act_of : Settings → Record → Heard → Turn
act_of s p heard.Other = still_of s p admit
act_of s p (heard.Authentication algorithm transaction status) = authentication_heard s p algorithm transaction status
act_of s p (heard.Deauthentication reason) = deauthentication_heard s p reason
act_of s p (heard.Disassociation reason) = disassociation_heard s p reason
act_of s p (heard.Request k current) = request_heard s p k current
act_of s p (heard.Response k status aid c) = response_heard s p k status aid c
act_of s p (heard.QueryRequest identifier) = query_request_heard s p identifier
act_of s p (heard.QueryResponse identifier) = query_response_heard s p identifier

-- 7. "Management subtypes 0 to 3 and 11 to a group address: discard, no reply." 02, K5: "A query frame acts if sent to our own address": to a
-- group address it is admitted, and does nothing.
unfoldable pub group_heard : Settings → Record → Heard → Turn
group_heard s p h = pick (is_exchange h) (still_of s p discard) (pick (is_query h) (still_of s p admit) (act_of s p h))

unfoldable pub hear_of : Settings → Record → FrameClass → Bool → Heard → Turn
hear_of s p k group h =
    -- 6.
    pick (not (passes_of s.role k p.state)) (replied_of s p discard (barred_of s p k group h))
    -- 7. and 8.
    (pick group (group_heard s p h) (act_of s p h))
