-- 01, "A received frame": the steps in their order.
-- Assumes nothing.
use Rattle.std.specs.Prelude.{ℕ, Bool, not, List, ltb}
use Rattle.octets.specs.Pick.{pick}
use Rattle.octets.specs.Frame.{longest}
use Rattle.octets.specs.Sort.{class_by}
use Rattle.octets.specs.declared.class.FrameClass.{FrameClass}
use Rattle.octets.specs.declared.heard.Heard.{Heard}
use Rattle.peer.specs.Turn.{admit, discard, towards_of}
use Rattle.peer.specs.Authentication.{full_of}
use Rattle.peer.specs.Hear.{hear_of}
use Rattle.peer.specs.Settings.{role_associates}
use Rattle.peer.specs.declared.settings.Settings.{Settings}
use Rattle.peer.specs.declared.record.Record.{Record}
use Rattle.table.specs.Places.{addresses_of, find_of, seek_of}
use Rattle.table.specs.Fit.{well_formed}
use Rattle.table.specs.Read.{read_of}
use Rattle.table.specs.Answer.{verdict_answer, settled_of, refused_of}
use Rattle.table.specs.Seat.{peer_of, turn_in}
use Rattle.table.specs.declared.rules.read.Reading.{Reading}
use Rattle.table.specs.declared.rules.read.Reading.TheVariants.{Refused, Discarded, Admitted, From}
use Rattle.table.specs.declared.rules.answer.Met.{Met}

-- 6. to 8., with the table's addresses: the peer's turn, and its reply to Address 2 (02, K11: "Replies go to the frame's Address 2"); of an authentication that needs a record where no place is free, "reply status 17".
unfoldable pub heard_from : Settings → List Record → List ℕ → ℕ → Bool → FrameClass → Heard → Met
heard_from s t ads peer group k h =
    let at = seek_of t ads peer in
    let p = peer_of t at peer in
    turn_in t at (find_of ads 0) (towards_of peer (hear_of s p k group h)) (towards_of peer (full_of s p))

abbrev pub heard_at : Settings → List Record → List ℕ → Reading → Met
heard_at s t ads (Refused n) = refused_of t n
heard_at s t ads Discarded = settled_of t (verdict_answer discard)
heard_at s t ads Admitted = settled_of t (verdict_answer admit)
heard_at s t ads (From peer group k h) = heard_from s t ads peer group (class_by k) h

-- A frame xs, lent a buffer of n octets. 1. "Refusals 1, 2", then as it reads.
unfoldable pub received_of : Settings → List Record → List ℕ → ℕ → Met
received_of s t xs n =
    pick (ltb n longest) (refused_of t 1)
    (pick (not (well_formed s t)) (refused_of t 2)
    (heard_at s t (addresses_of t) (read_of s.own (role_associates s.role) xs)))
