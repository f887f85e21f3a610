-- 02, K9 for a host's octets: calls in a row from the octets of an empty table, and a call with a class 3 frame. proofs/Octets/JoinedCalls.antt proves
-- `class_3_octets`.
-- Assumes nothing.
use Rattle.std.specs.Prelude.{ℕ, ◌≡◌, true, List, map, ltb, length, replicate}
use Rattle.octets.specs.Class.{class_of}
use Rattle.octets.specs.Field.{field}
use Rattle.octets.specs.Pick.{pick}
use Rattle.octets.specs.declared.class.FrameClass.TheVariants.{Three}
use Rattle.peer.specs.Settings.{role_associates}
use Rattle.peer.specs.Turn.{admit}
use Rattle.table.specs.Boundary.{settings_in}
use Rattle.table.specs.Calls.{Call, Told, called, framed}
use Rattle.table.specs.History.{Happening, empty_table, run_from}
use Rattle.table.specs.Joined.{Joined, sender_in}
use Rattle.table.specs.Order.{end}
use Rattle.table.specs.Places.{all_of}
use Rattle.table.specs.Rows.{records_of}
use Rattle.table.specs.declared.rules.event.Event.TheVariants as event

-- What a host starts with: 32 rows of 48 octets, all zero.
abbrev pub empty_octets : List ℕ
empty_octets = replicate 1536 0

-- A call as an event of a history. One that has no room for its answer is refused 1 and does nothing, as one that has no buffer.
abbrev pub happening_of : Call → Happening
happening_of c = record { event = c.event; octets = c.frame; room = pick (ltb (length c.room) 24) 0 (length c.out) }

-- The table's octets after calls in a row.
abbrev pub after_calls : List ℕ → List Call → List ℕ
after_calls ss l = end (called ss) empty_octets l

-- The verdict, as the answer's octets tell it.
abbrev pub verdict_in : Told → ℕ
verdict_in g = field 1 13 g.answer

-- The sender of the call's frame has joined, by the calls before it.
abbrev pub JoinedBefore : List ℕ → List Call → Call → Type 0
JoinedBefore ss l c = Joined (settings_in ss) (sender_in (records_of (after_calls ss l)) c.frame) (run_from (settings_in ss) empty_table (map happening_of l))

abbrev pub ClassThreeOctets : List ℕ → Type 0
ClassThreeOctets ss =
    (l : List Call) → all_of framed l ≡ true → role_associates (settings_in ss).role ≡ true
    → (c : Call) → c.event ≡ event.Frame → class_of c.frame ≡ Three → (called ss (after_calls ss l) c).1.result ≡ 0
    → (verdict_in (called ss (after_calls ss l) c).1 ≡ admit → JoinedBefore ss l c) × (JoinedBefore ss l c → verdict_in (called ss (after_calls ss l) c).1 ≡ admit)
