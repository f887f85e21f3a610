-- 02, K4: "Given settings, table and event, a tool names the first rule of document 01 that decided: which refusal, no class, class filter, group rule,
-- admitted with nothing to do, or none." The order of the rules is that of each call; specs/Reasons.antt has it once more, as lists.
-- Assumes nothing.
use Rattle.std.specs.Prelude.{ℕ, Bool, not, List, eqb, ltb, length}
use Rattle.octets.specs.Answer.{value_written}
use Rattle.octets.specs.Pick.{pick}
use Rattle.octets.specs.Sort.{class_by}
use Rattle.octets.specs.declared.class.FrameClass.{FrameClass}
use Rattle.octets.specs.declared.heard.Heard.{Heard}
use Rattle.peer.specs.Filter.{passes_of}
use Rattle.peer.specs.Idle.{group_barred, idle_of}
use Rattle.peer.specs.Settings.{role_associates}
use Rattle.peer.specs.declared.record.Record.{Record}
use Rattle.peer.specs.declared.settings.Settings.{Settings}
use Rattle.table.specs.Ask.{refusals_at}
use Rattle.table.specs.Boundary.{settings_in}
use Rattle.table.specs.Fit.{well_formed}
use Rattle.table.specs.Lent.{room_of}
use Rattle.table.specs.Link.{count_in, device_in, link_refusals, may_link}
use Rattle.table.specs.Others.{others_of}
use Rattle.table.specs.Places.{addresses_of, find_link_of, find_of, seek_of}
use Rattle.table.specs.Read.{read_of}
use Rattle.table.specs.Refusals.{first_of}
use Rattle.table.specs.Rows.{is_table, records_of}
use Rattle.table.specs.Seat.{peer_of}
use Rattle.table.specs.declared.rules.event.Event.{Event}
use Rattle.table.specs.declared.rules.event.Event.TheVariants as event
use Rattle.table.specs.declared.rules.read.Reading.{Reading}
use Rattle.table.specs.declared.rules.read.Reading.TheVariants.{Refused, Discarded, Admitted, From}
use Rattle.table.specs.declared.rules.why.Reason.{Reason}
use Rattle.table.specs.declared.rules.why.Reason.TheVariants.{None, Refusal, NoClass, ClassFilter, GroupRule, NothingToDo}
use Rattle.table.specs.declared.rules.why.Why.{Why}

-- The number of each reason: a refusal has its own, 1 to 9, and "none" has 0.
abbrev pub no_class : ℕ
no_class = 10

abbrev pub class_filter : ℕ
class_filter = 11

abbrev pub group_rule : ℕ
group_rule = 12

abbrev pub nothing_to_do : ℕ
nothing_to_do = 13

abbrev pub reason_number : Reason → ℕ
reason_number None = 0
reason_number (Refusal n) = n
reason_number NoClass = no_class
reason_number ClassFilter = class_filter
reason_number GroupRule = group_rule
reason_number NothingToDo = nothing_to_do

-- "and beside it a frame's length for 3, the state for 7 and the class filter, the hold left for 8, else 0"
abbrev pub beside : Reason → ℕ → Why
beside r v = record { reason = r; value = v }

abbrev pub plain : Reason → Why
plain r = beside r 0

-- A frame's refusal: its length for 3.
unfoldable pub frame_why : ℕ → ℕ → Why
frame_why n long = beside (Refusal n) (pick (eqb n 3) long 0)

-- A primitive's, 0 where it is done: the state of its own peer for 7, the hold left on that peer for 8. "A peer without a record counts as State 1."
unfoldable pub ask_why : ℕ → Record → Why
ask_why n p =
    pick (eqb n 0) (plain None)
    (beside (Refusal n) (pick (eqb n 7) p.state (pick (eqb n 8) p.hold 0)))

-- A received frame, 6 to 8, from a peer with record p, fresh where it has none: the class filter first, then the group rule, then whether there is anything
-- to do.
unfoldable pub why_from : Settings → Record → FrameClass → Bool → Heard → Why
why_from s p k group h =
    pick (not (passes_of s.role k p.state)) (beside ClassFilter p.state) (pick (group_barred group h) (plain GroupRule)
    (pick (idle_of s p group h) (plain NothingToDo) (plain None)))

-- 1 to 5: "Version not 0, or no class: discard, nothing else"; "CTS and ACK: admit, done, no peer".
abbrev pub why_read : Settings → List Record → List ℕ → ℕ → Reading → Why
why_read s t ads long (Refused n) = frame_why n long
why_read s t ads long Discarded = plain NoClass
why_read s t ads long Admitted = plain NothingToDo
why_read s t ads long (From peer group k h) = why_from s (peer_of t (seek_of t ads peer) peer) (class_by k) group h

-- A primitive, and links named: the first refusal that applies.
unfoldable pub why_asked : Settings → List Record → List ℕ → ℕ → ℕ → ℕ → Why
why_asked s t ads q a c =
    let at = find_of ads a in
    let p = peer_of t at a in
    ask_why (first_of (refusals_at s p (others_of s t) at (find_of ads 0) (find_link_of t a) q a c)) p

unfoldable pub why_linked : Settings → List Record → List ℕ → List ℕ → Why
why_linked s t ads xs =
    let at = find_of ads (device_in xs) in
    let p = peer_of t at (device_in xs) in
    ask_why (first_of (link_refusals s p (may_link s t ads at xs) at (find_of ads 0) (count_in xs))) p

-- "clock step 0"
unfoldable pub why_passed : ℕ → Why
why_passed d = pick (eqb d 0) (plain (Refusal 3)) (plain None)

-- Once refusals 1 and 2 do not apply, with the table's addresses.
abbrev pub why_at : Settings → List Record → List ℕ → Event → List ℕ → Why
why_at s t ads event.Frame xs = why_read s t ads (length xs) (read_of s.own (role_associates s.role) xs)
why_at s t ads (event.Ask q a c) xs = why_asked s t ads q a c
why_at s t ads event.Links xs = why_linked s t ads xs
why_at s t ads (event.Clock d) xs = why_passed d

-- An event, lent a buffer of n octets; the octets xs of a frame, or of links, stand beside it. "Refusals 1, 2" come first.
unfoldable pub why_of : Settings → List Record → Event → List ℕ → ℕ → Why
why_of s t e xs n =
    pick (ltb n (room_of e)) (plain (Refusal 1))
    (pick (not (well_formed s t)) (plain (Refusal 2))
    (why_at s t (addresses_of t) e xs))

-- The same over the octets xs of a table, as a host lends them: what is no table is refusal 2, and 1 comes before it (specs/Host.antt).
unfoldable pub host_why : List ℕ → Settings → Event → List ℕ → ℕ → Why
host_why xs s e fs n =
    pick (is_table xs) (why_of s (records_of xs) e fs n) (pick (ltb n (room_of e)) (plain (Refusal 1)) (plain (Refusal 2)))

-- The boundary to C: the reason's number is given back, its value written at the front of the octets k lent for it.
pub record WhyCrossed : Type 0 where
  pub result : ℕ
  pub value : List ℕ

abbrev pub why_crossed : ℕ → List ℕ → WhyCrossed
why_crossed r k = record { result = r; value = k }

unfoldable pub why_crossed_of : List ℕ → List ℕ → Event → List ℕ → ℕ → List ℕ → WhyCrossed
why_crossed_of xs ss e fs n k =
    why_crossed (reason_number (host_why xs (settings_in ss) e fs n).reason) (value_written k (host_why xs (settings_in ss) e fs n).value)
