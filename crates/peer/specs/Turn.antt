-- What one event makes of one peer, as a value.
-- Assumes nothing.
use Rattle.std.specs.Prelude.{ℕ, true, false, Option, None}
use Rattle.octets.specs.declared.frame.Frame.{Frame}
use Rattle.octets.specs.declared.heard.Kind.TheVariants.{Association, Authentication, Reassociation}
use Rattle.octets.specs.declared.heard.Kind.{Kind}
use Rattle.octets.specs.declared.links.Links.{Links}
use Rattle.peer.specs.Moves.{ds_of, moved_of}
use Rattle.peer.specs.Record.{changed_of, linked_of}
use Rattle.peer.specs.Reply.{directed_of}
use Rattle.peer.specs.declared.moves.Move.{Move}
use Rattle.peer.specs.declared.exchange.Exchange.TheVariants as exchange
use Rattle.peer.specs.declared.exchange.Exchange.{Exchange}
use Rattle.peer.specs.declared.record.Record.{Record}
use Rattle.peer.specs.declared.settings.Settings.{Settings}
use Rattle.peer.specs.declared.turn.Told.{Told}
use Rattle.peer.specs.declared.turn.Turn.{Turn}

-- The verdict on a frame.
abbrev pub none : ℕ
none = 0

abbrev pub admit : ℕ
admit = 1

abbrev pub discard : ℕ
discard = 2

-- "Notices: 0 none, then indication and confirm of authentication 1, 2; deauthentication 3, 4; association 5, 6; reassociation 7, 8;
-- disassociation 9, 10."
abbrev pub indication_of : Kind → ℕ
indication_of Authentication = 1
indication_of Association = 5
indication_of Reassociation = 7

abbrev pub confirm_of : Kind → ℕ
confirm_of Authentication = 2
confirm_of Association = 6
confirm_of Reassociation = 8

abbrev pub deauthentication_indication : ℕ
deauthentication_indication = 3

abbrev pub deauthentication_confirm : ℕ
deauthentication_confirm = 4

abbrev pub disassociation_indication : ℕ
disassociation_indication = 9

abbrev pub disassociation_confirm : ℕ
disassociation_confirm = 10

abbrev pub nothing_told : Told
nothing_told = record { notice = 0; code = 0; current = 0 }

abbrev pub told_of : ℕ → ℕ → Told
told_of notice code = record { notice = notice; code = code; current = 0 }

-- A record goes from p to q; the distribution system is told by the two states, and by nothing else.
unfoldable pub turn_of : Settings → Record → Record → ℕ → Told → Option Frame → Turn
turn_of s p q verdict told reply =
    record { peer = q; told = told; verdict = verdict; ds = ds_of s.role p.state q.state; sole = false; reply = reply }

-- The same, and any other record in State 3 or 4 goes to State 2.
unfoldable pub sole_of : Turn → Turn
sole_of t =
    record { peer = t.peer; told = t.told; verdict = t.verdict; ds = t.ds; sole = true; reply = t.reply }

-- The same, with what is said sent to an address of the peer.
unfoldable pub towards_of : ℕ → Turn → Turn
towards_of a t =
    record { peer = t.peer; told = t.told; verdict = t.verdict; ds = t.ds; sole = t.sole; reply = directed_of a t.reply }

-- The record after a move that ends the exchange, with a hold.
unfoldable pub ended_of : Settings → Record → Move → ℕ → Record
ended_of s p m hold = changed_of p (moved_of s.rsna p.state m) exchange.None 0 hold

-- The record with an exchange begun, in place of any other: "state unchanged", the hold too.
unfoldable pub begun_of : Record → Exchange → ℕ → Record
begun_of p e left = changed_of p p.state e left p.hold

-- The record stays; what is said is a reply, or nothing.
unfoldable pub replied_of : Settings → Record → ℕ → Option Frame → Turn
replied_of s p verdict reply = turn_of s p p verdict nothing_told reply

unfoldable pub still_of : Settings → Record → ℕ → Turn
still_of s p verdict = replied_of s p verdict None

-- 02, K11, primitive 12: "count 0 takes its links away ..., another count replaces them"; all else stays, and nothing is said.
unfoldable pub linking_of : Settings → Record → Links → Turn
linking_of s p ls = turn_of s p (linked_of p ls) none nothing_told None
