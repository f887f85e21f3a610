-- 01, "Frames written": the frames that are said to a peer, and their addresses.
-- Assumes nothing.
use Rattle.std.specs.Prelude.{ℕ, ◌==◌, Option, None, Some}
use Rattle.octets.specs.Frame.{capability_of}
use Rattle.octets.specs.Pick.{pick}
use Rattle.octets.specs.declared.frame.Body.TheVariants as body
use Rattle.octets.specs.declared.frame.Body.{Body}
use Rattle.octets.specs.declared.frame.Frame.{Frame}
use Rattle.octets.specs.declared.heard.Kind.TheVariants.{Association, Authentication, Reassociation}
use Rattle.octets.specs.declared.heard.Kind.{Kind}
use Rattle.peer.specs.Settings.{ad_hoc, ap}
use Rattle.peer.specs.declared.settings.Settings.{Settings}

-- "Address 3 the AP's (own at an AP, the peer's at a station)"; 02, K10: "the network's address, written as Address 3 in role 3"
unfoldable pub network_address : Settings → ℕ → ℕ
network_address s peer = pick (s.role == ap) s.own (pick (s.role == ad_hoc) s.network peer)

-- "Address 1 peer, Address 2 own". To which of its addresses a device is spoken to is `directed_of`.
unfoldable pub send_of : Settings → ℕ → ℕ → Body → Option Frame
send_of s peer subtype b =
    Some (record { subtype = subtype; address1 = peer; address2 = s.own; address3 = network_address s peer; body = b })

-- The standard's subtypes: authentication 11, deauthentication 12, disassociation 10.
unfoldable pub authentication_to : Settings → ℕ → ℕ → ℕ → ℕ → Option Frame
authentication_to s peer algorithm transaction status = send_of s peer 11 (body.Authentication algorithm transaction status)

unfoldable pub deauthentication_to : Settings → ℕ → ℕ → Option Frame
deauthentication_to s peer reason = send_of s peer 12 (body.Reason reason)

unfoldable pub disassociation_to : Settings → ℕ → ℕ → Option Frame
disassociation_to s peer reason = send_of s peer 10 (body.Reason reason)

-- association request 0, response 1; reassociation request 2, response 3
abbrev pub request_subtype : Kind → ℕ
request_subtype Authentication = 11
request_subtype Association = 0
request_subtype Reassociation = 2

abbrev pub response_subtype : Kind → ℕ
response_subtype Authentication = 11
response_subtype Association = 1
response_subtype Reassociation = 3

-- algorithm 0, transaction 1, status 0; capability, listen interval (then current AP)
abbrev pub request_body : Kind → ℕ → ℕ → Body
request_body Authentication capability current = body.Authentication 0 1 0
request_body Association capability current = body.AssociationRequest capability
request_body Reassociation capability current = body.ReassociationRequest capability current

unfoldable pub request_to : Settings → ℕ → Kind → ℕ → Option Frame
request_to s peer k current = send_of s peer (request_subtype k) (request_body k (capability_of s.rsna) current)

-- capability, status, AID
unfoldable pub response_to : Settings → ℕ → Kind → ℕ → ℕ → Option Frame
response_to s peer k status aid = send_of s peer (response_subtype k) (body.Response (capability_of s.rsna) status aid)

-- 02, K5: "status 30, AID 0 and a Timeout Interval element of type 3 with the query's remaining TU"
unfoldable pub later_to : Settings → ℕ → Kind → ℕ → ℕ → Option Frame
later_to s peer k status time = send_of s peer (response_subtype k) (body.Later (capability_of s.rsna) status time)

-- "Queries are Action frames of category 8, request 0 and response 1, with a two-octet identifier": Action is subtype 13.
abbrev pub query_request : ℕ
query_request = 0

abbrev pub query_response : ℕ
query_response = 1

unfoldable pub query_to : Settings → ℕ → ℕ → ℕ → Option Frame
query_to s peer action identifier = send_of s peer 13 (body.Query action identifier)

-- The same frame to another address of the peer. 02, K11: "Replies go to the frame's Address 2, frames asked by a primitive to the first link (none:
-- the device)."
abbrev pub directed_of : ℕ → Option Frame → Option Frame
directed_of a None = None
directed_of a (Some f) =
    Some (record { subtype = f.subtype; address1 = a; address2 = f.address2; address3 = f.address3; body = f.body })
