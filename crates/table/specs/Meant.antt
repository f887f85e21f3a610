-- What the other end is to hear of the frame that an event writes, of the events that write one: frames and primitives.
-- Assumes nothing.
use Rattle.std.specs.Prelude.{ℕ, ◌<◌, ◌^◌, ◌≡◌, true, List}
use Rattle.octets.specs.Class.{class_in, number_of}
use Rattle.octets.specs.Field.{all_octets, field}
use Rattle.octets.specs.Heard.{heard_of}
use Rattle.octets.specs.declared.heard.Heard.{Heard}
use Rattle.octets.specs.declared.heard.Heard.TheVariants as heard
use Rattle.peer.specs.Record.{spoken_at}
use Rattle.peer.specs.Said.{asked_says, replied_says}
use Rattle.peer.specs.Settings.{role_associates}
use Rattle.peer.specs.declared.settings.Settings.{Settings}
use Rattle.peer.specs.declared.record.Record.{Record}
use Rattle.table.specs.Places.{addresses_of, find_of, seek_of}
use Rattle.table.specs.Others.{others_of}
use Rattle.table.specs.Seat.{aid_of, peer_of}
use Rattle.table.specs.declared.rules.event.Event.{Event}
use Rattle.table.specs.declared.rules.event.Event.TheVariants as event

-- A frame is made of octets, and a primitive's code has two. Links named and a clock step write no frame.
abbrev pub Spoken : Event → List ℕ → Type 0
Spoken event.Frame xs = all_octets xs ≡ true
Spoken (event.Ask q a c) xs = c < 2 ^ 16
Spoken event.Links xs = ⊥
Spoken (event.Clock d) xs = ⊥

-- 02, K11: "Replies go to the frame's Address 2, frames asked by a primitive to the first link (none: the device)."
abbrev pub spoken_to : List Record → Event → List ℕ → ℕ
spoken_to t event.Frame xs = field 6 10 xs
spoken_to t (event.Ask q a c) xs = spoken_at (peer_of t (find_of (addresses_of t) a) a)
spoken_to t event.Links xs = 0
spoken_to t (event.Clock d) xs = 0

-- What is said: in reply to a frame, by its class, what it says, the peer's state and the query to it; of a primitive, by its number and code,
-- the AID of the peer's place, the associated AP's address and the identifier of the query to the peer.
abbrev pub says_in : Settings → List Record → Event → List ℕ → Heard
says_in s t event.Frame xs =
    let p = peer_of t (seek_of t (addresses_of t) (field 6 10 xs)) (field 6 10 xs) in
    replied_says s p.state p.query (number_of (class_in (role_associates s.role) xs)) (heard_of xs)
says_in s t (event.Ask q a c) xs =
    let at = find_of (addresses_of t) a in
    asked_says q c (aid_of at) (others_of s t).associated (peer_of t at a).identifier
says_in s t event.Links xs = heard.Other
says_in s t (event.Clock d) xs = heard.Other
