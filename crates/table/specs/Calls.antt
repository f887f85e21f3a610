-- Calls in a row over the octets of one table, as a host makes them, beside the same events one after the other over its records.
-- proofs/Octets/CallsInRow.antt proves `calls_in_a_row`, proofs/Octets/OrderOctets.antt `demand_3_octets`.
-- Assumes nothing.
use Rattle.std.specs.Prelude.{ℕ, ◌<◌, ◌≤◌, ◌≡◌, Bool, true, List, ltb, length, take}
use Rattle.octets.specs.Field.{all_octets, field}
use Rattle.octets.specs.Pick.{pick}
use Rattle.peer.specs.Record.{free_of}
use Rattle.peer.specs.Said.{ReadsTo}
use Rattle.peer.specs.Settings.{role_answers}
use Rattle.peer.specs.declared.record.Record.{Record}
use Rattle.table.specs.Boundary.{Crossed, answer_in, crossed_of, settings_in}
use Rattle.table.specs.Fit.{well_formed}
use Rattle.table.specs.Meant.{Spoken, says_in, spoken_to}
use Rattle.table.specs.Order as order
use Rattle.table.specs.Order.{Handed, Moved, Named, SameOutcome, end, answers, address_of, event_of, peer_named}
use Rattle.table.specs.Places.{all_of}
use Rattle.table.specs.Rows.{is_table, octets_of, records_of}
use Rattle.table.specs.Step.{step_of, step_in}
use Rattle.table.specs.declared.rules.answer.Stepped.{Stepped}
use Rattle.table.specs.declared.rules.event.Event.{Event}

-- An event with the frame's octets beside it (none where it is no frame), the buffer that it is handed, and the room: the octets for its answer.
pub record Call : Type 0 where
  pub event : Event
  pub frame : List ℕ
  pub out : List ℕ
  pub room : List ℕ

-- What the host gets: the refusal's number, the octets of the answer, and the buffer.
pub record Told : Type 0 where
  pub result : ℕ
  pub answer : List ℕ
  pub bytes : List ℕ

-- Over octets, the settings' ss too: what the call leaves of the table, and what the host gets. This is what `peer_receive_octets`,
-- `peer_ask_octets`, `peer_links_octets` and `peer_pass_octets` promise.
abbrev pub call_over : List ℕ → List ℕ → Call → Crossed
call_over ss xs c = crossed_of xs ss c.event c.frame c.out c.room

unfoldable pub called : List ℕ → List ℕ → Call → List ℕ × Told
called ss xs c = (
  (call_over ss xs c).table,
  record { result = (call_over ss xs c).result; answer = (call_over ss xs c).answer; bytes = (call_over ss xs c).out },
)

-- Over records: the step; where there is no room for its answer, refusal 1 and nothing else.
abbrev pub step_over : List ℕ → List Record → Call → Stepped
step_over ss t c = step_of (settings_in ss) t c.event c.frame (length c.out)

unfoldable pub stepped : List ℕ → List Record → Call → List Record × Told
stepped ss t c =
    pick (ltb (length c.room) 24)
    (t, record { result = 1; answer = c.room; bytes = c.out }) (
      (step_over ss t c).table,
      record {
        result = (step_over ss t c).answer.refusal;
        answer = answer_in (step_over ss t c).answer c.room;
        bytes = step_in (settings_in ss) t c.event c.frame c.out;
      },
    )

-- Each frame is made of octets, as every slice of them is.
abbrev pub framed : Call → Bool
framed c = all_octets c.frame

-- However many calls: the octets left are those of the records left, they are a table again, and each call gets what its step gets.
pub record InRow (ss xs : List ℕ) (l : List Call) : Type 0 where
  pub octets : end (called ss) xs l ≡ octets_of (end (stepped ss) (records_of xs) l)
  pub records : records_of (end (called ss) xs l) ≡ end (stepped ss) (records_of xs) l
  pub gets : answers (called ss) xs l ≡ answers (stepped ss) (records_of xs) l
  pub table : is_table (end (called ss) xs l) ≡ true

abbrev pub CallsInRow : List ℕ → Type 0
CallsInRow ss = (xs : List ℕ) (l : List Call) → is_table xs ≡ true → all_octets xs ≡ true → all_of framed l ≡ true → InRow ss xs l

-- Of a call that is not refused: what it leaves is a table again, and its records are well formed.
abbrev pub LeavesTable : List ℕ → Type 0
LeavesTable ss =
    (xs : List ℕ) (c : Call) → framed c ≡ true → (called ss xs c).1.result ≡ 0
    → (is_table (called ss xs c).0 ≡ true) × (well_formed (settings_in ss) (records_of (called ss xs c).0) ≡ true)

-- How many octets were written, as the answer's octets tell it.
abbrev pub written_in : Told → ℕ
written_in g = field 2 10 g.answer

-- What a call that is not refused writes, if anything, is heard at the other end as the frame meant (Meant.antt).
abbrev pub CallSaid : List ℕ → Type 0
CallSaid ss =
    (xs : List ℕ) (c : Call) → Spoken c.event c.frame → (called ss xs c).1.result ≡ 0 → 0 < written_in (called ss xs c).1
    → ReadsTo (settings_in ss) (spoken_to (records_of xs) c.event c.frame) (says_in (settings_in ss) (records_of xs) c.event c.frame)
    (take (written_in (called ss xs c).1) (called ss xs c).1.bytes)

-- Demand 3 for a host's octets: events without clock steps, as calls with room for their answers, each event with its own wherever it is moved.
abbrev pub call_of : (Handed → List ℕ) → Handed → Call
call_of room e = record { event = event_of e.coming; frame = order.octets_of e.coming; out = e.out; room = room e }

abbrev pub called_for : List ℕ → (Handed → List ℕ) → List ℕ → Handed → List ℕ × Told
called_for ss room xs e = called ss xs (call_of room e)

abbrev pub OrderFreeOctets : List ℕ → Type 0
OrderFreeOctets ss =
    (xs : List ℕ) (room : Handed → List ℕ) (l₁ l₂ : List Handed) (to from : ℕ → ℕ)
    → role_answers (settings_in ss).role ≡ true → all_octets xs ≡ true → is_table xs ≡ true → well_formed (settings_in ss) (records_of xs) ≡ true
    → ((e : Handed) → 24 ≤ length (room e))
    → Named free_of address_of (peer_named (settings_in ss) (records_of xs)) (records_of xs) l₁
    → Moved (peer_named (settings_in ss) (records_of xs)) l₁ l₂ to from
    → SameOutcome (called_for ss room) xs l₁ l₂ to
