-- What the other end is to hear of each frame that is sent to a peer: of a primitive's, and of a reply to a frame.
-- Assumes nothing.
use Rattle.std.specs.Prelude.{ℕ, ◌&&◌, List, ◌==◌, Some, None, Option}
use Rattle.octets.specs.Frame.{bytes_of}
use Rattle.octets.specs.Pick.{pick}
use Rattle.octets.specs.Read.{FrameFits, Reads}
use Rattle.octets.specs.declared.frame.Frame.{Frame}
use Rattle.octets.specs.declared.heard.Heard.TheVariants as heard
use Rattle.octets.specs.declared.heard.Heard.{Heard}
use Rattle.octets.specs.declared.heard.Kind.TheVariants.{Association, Reassociation}
use Rattle.peer.specs.Query.{query_left, running_of}
use Rattle.peer.specs.Settings.{ad_hoc, ap, station}
use Rattle.peer.specs.declared.query.Query.{Query}
use Rattle.peer.specs.declared.settings.Settings.{Settings}

-- "Number, peer address, code": the frame of a primitive, at a place with this AID, where associated is the associated AP's address
-- and identifier the peer's own. 9 and 10, which send no frame, are heard as nothing that is written here.
abbrev pub asked_says : ℕ → ℕ → ℕ → ℕ → ℕ → Heard
asked_says q code aid associated identifier =
    -- 1. "frame transaction 1, status 0"; "open authentication only" is algorithm 0
    pick (q == 1) (heard.Authentication 0 1 0)
    -- 2. AUTHENTICATE.response, status: "frame transaction 2"
    (pick (q == 2) (heard.Authentication 0 2 code)
    -- 3. DEAUTHENTICATE.request, reason
    (pick (q == 3) (heard.Deauthentication code)
    -- 4. ASSOCIATE.request
    (pick (q == 4) (heard.Request Association 0)
    -- 5. REASSOCIATE.request: "frame with the associated AP's address"
    (pick (q == 5) (heard.Request Reassociation associated)
    -- 6. DISASSOCIATE.request, reason
    (pick (q == 6) (heard.Disassociation code)
    -- 7, 8. ASSOCIATE / REASSOCIATE.response, status: "status 0: frame with AID .. else frame AID 0"
    (pick (q == 7) (heard.Response Association code (pick (code == 0) aid 0) None)
    (pick (q == 8) (heard.Response Reassociation code (pick (code == 0) aid 0) None)
    (pick (q == 9) heard.Other
    (pick (q == 10) heard.Other
    -- 11. 02, K5: "a new primitive 11 .. sends the request"; another number is refused 3 before.
    (heard.QueryRequest identifier))))))))))

-- 6. "class 2, Deauthentication reason 6; class 3 in State 1, Deauthentication reason 7; class 3 in State 2, Disassociation reason 7". The class
-- is a number.
abbrev pub barred_says : ℕ → ℕ → Heard
barred_says class state =
    pick (class == 2) (heard.Deauthentication 6)
    (pick (class == 3) (pick (state == 1) (heard.Deauthentication 7) (heard.Disassociation 7))
    heard.Other)

-- The reply to a frame of a class, by what the frame says, the peer's state and the query to it.
abbrev pub replied_says : Settings → ℕ → Query → ℕ → Heard → Heard
-- "algorithm not 0, reply transaction 2, same algorithm, status 13. Else no record and no free place, reply status 17."
replied_says s state query class (heard.Authentication algorithm transaction status) =
    heard.Authentication algorithm 2 (pick (algorithm == 0) 17 13)
-- "Exception (000): an AP replies to an individually addressed (re)association request in State 1 with the matching response, status 1, AID 0"
replied_says s state query class (heard.Request kind current) =
    pick (s.role == ap && state == 1) (heard.Response kind 1 0 None)
    -- 02, K5: "answered with status 30, AID 0 and a Timeout Interval element of type 3 with the query's remaining TU"
    (pick (state == 4) (heard.Response kind 30 0 (Some (query_left (running_of s query))))
    (barred_says class state))
-- 02, K5: "a request is answered with its identifier in either role"
replied_says s state query class (heard.QueryRequest identifier) =
    pick (state == 4) (heard.QueryResponse identifier) (barred_says class state)
replied_says s state query class (heard.QueryResponse identifier) = barred_says class state
replied_says s state query class heard.Other = barred_says class state
replied_says s state query class (heard.Deauthentication reason) = barred_says class state
replied_says s state query class (heard.Disassociation reason) = barred_says class state
replied_says s state query class (heard.Response kind status aid comeback) = barred_says class state

-- "Address 3 the AP's (own at an AP, the peer's at a station)"; 02, K10: "the network's address, written as Address 3 in role 3"
abbrev pub third_address : Settings → ℕ → ℕ
third_address s peer = pick (s.role == station) peer (pick (s.role == ad_hoc) s.network s.own)

-- "Address 1 peer, Address 2 own", Address 3 as above; "Capability is 0001, or 0011 hexadecimal where RSNA is required." The octets xs read so,
-- and are heard as w.
abbrev pub ReadsTo : Settings → ℕ → Heard → List ℕ → Type 0
ReadsTo s peer w xs =
    Reads peer s.own (third_address s peer) (pick (s.rsna == 0) 0x0001 0x0011) w xs

-- A reply is nothing, or a frame each field of which fits its octets, and whose octets read so.
abbrev pub Speaks : Settings → ℕ → Heard → Option Frame → Type 0
Speaks s peer w None = Unit
Speaks s peer w (Some f) = FrameFits f × ReadsTo s peer w (bytes_of f)
