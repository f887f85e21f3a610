-- One event over records that are lent. 01: "The host lends the table as thirty-two records in a row". Any other number of records is
-- refusal 2, "table not well formed"; refusal 1 comes before it.
-- Assumes nothing.
use Rattle.std.specs.Prelude.{ℕ, List, ltb, eqb, length}
use Rattle.octets.specs.Pick.{pick}
use Rattle.octets.specs.Frame.{longest}
use Rattle.peer.specs.declared.settings.Settings.{Settings}
use Rattle.peer.specs.declared.record.Record.{Record}
use Rattle.table.specs.Answer.{refusal_answer}
use Rattle.table.specs.Step.{step_of, step_in}
use Rattle.table.specs.declared.rules.answer.Answer.{Answer}
use Rattle.table.specs.declared.rules.event.Event.{Event}
use Rattle.table.specs.declared.rules.event.Event.TheVariants as event

-- 1: the buffer is under 37 octets (02, K5), "(256 for a clock step)".
abbrev pub room_of : Event → ℕ
room_of event.Frame = longest
room_of (event.Ask q a c) = longest
room_of event.Links = longest
room_of (event.Clock d) = 256

-- What is answered where not 32 records are lent, and n octets of buffer.
abbrev pub malformed_of : Event → ℕ → Answer
malformed_of e n = pick (ltb n (room_of e)) (refusal_answer 1) (refusal_answer 2)

-- The records t lent, the frame xs and the buffer l: the answer, the records after the event, and the buffer.
abbrev pub lent_answer : List Record → Settings → Event → List ℕ → List ℕ → Answer
lent_answer t s e xs l = pick (eqb (length t) 32) (step_of s t e xs (length l)).answer (malformed_of e (length l))

abbrev pub lent_table : List Record → Settings → Event → List ℕ → List ℕ → List Record
lent_table t s e xs l = pick (eqb (length t) 32) (step_of s t e xs (length l)).table t

abbrev pub lent_in : List Record → Settings → Event → List ℕ → List ℕ → List ℕ
lent_in t s e xs l = pick (eqb (length t) 32) (step_in s t e xs l) l
