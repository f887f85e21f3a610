-- One event by the rules alone, over every table: as the step (Step.antt), but refusal 2, "settings or table not well formed", is not looked
-- for. Where settings and table are well formed it is the step: proofs/Octets/RuledLaws.antt proves `ruled_is_step`.
-- Assumes nothing.
use Rattle.std.specs.Prelude.{ℕ, Bool, false, true, List, eqb, ltb, get_or, length, Option}
use Rattle.std.proofs.lemmas.List.Edits.{sets}
use Rattle.octets.specs.Pick.{pick}
use Rattle.peer.specs.Record.{free_of}
use Rattle.peer.specs.Settings.{role_associates}
use Rattle.peer.specs.declared.record.Record.{Record}
use Rattle.peer.specs.declared.settings.Settings.{Settings}
use Rattle.table.specs.Answer.{count_answer, refusal_answer, refused_of, said_in, stepped_of}
use Rattle.table.specs.Ask.{asked_at}
use Rattle.table.specs.Lent.{malformed_of, room_of}
use Rattle.table.specs.Link.{linked_at}
use Rattle.table.specs.Pass.{clocked_of, reports_of}
use Rattle.table.specs.Places.{addresses_of, on_found}
use Rattle.table.specs.Read.{read_of}
use Rattle.table.specs.Receive.{heard_at}
use Rattle.table.specs.declared.rules.answer.Answer.{Answer}
use Rattle.table.specs.declared.rules.answer.Met.{Met}
use Rattle.table.specs.declared.rules.answer.Stepped.{Stepped}
use Rattle.table.specs.declared.rules.event.Event.{Event}
use Rattle.table.specs.declared.rules.event.Event.TheVariants as event

-- A clock step of d TU: "3 .. clock step 0"; else every time falls, and the reports go to the front of the buffer.
unfoldable pub ticked_of : Settings → List Record → ℕ → Stepped
ticked_of s t d =
    pick (eqb d 0)
    (record { table = t; answer = refusal_answer 3 })
    (record { table = (clocked_of s t d).table; answer = count_answer (refusal_answer 0) (clocked_of s t d).written })

unfoldable pub ticked_in : Settings → List Record → ℕ → List ℕ → List ℕ
ticked_in s t d l = pick (eqb d 0) l (sets l 0 (reports_of s d 0 t))

-- Whether a place is free, as its address tells. (A change that names no links changes none but at such a place.)
unfoldable pub new_at : List Record → Option ℕ → Bool
new_at t at = on_found at false (λ i. eqb (get_or t i free_of).address 0)

-- Whether an event is a primitive: what it asks of the whole table (Others.antt) no other event asks.
abbrev pub asking : Event → Bool
asking event.Frame = false
asking (event.Ask q a c) = true
asking event.Links = false
asking (event.Clock d) = false

-- Whether an event is a clock step, and of how many TU; whether it names links.
abbrev pub ticking : Event → Bool
ticking event.Frame = false
ticking (event.Ask q a c) = false
ticking event.Links = false
ticking (event.Clock d) = true

abbrev pub tu_of : Event → ℕ
tu_of event.Frame = 0
tu_of (event.Ask q a c) = 0
tu_of event.Links = 0
tu_of (event.Clock d) = d

abbrev pub naming : Event → Bool
naming event.Frame = false
naming (event.Ask q a c) = false
naming event.Links = true
naming (event.Clock d) = false

-- What a frame, a primitive or links make of the table, refusals 3 and on among it. (A clock step is no such change.)
abbrev pub change_of : Settings → List Record → Event → List ℕ → Met
change_of s t event.Frame xs = heard_at s t (addresses_of t) (read_of s.own (role_associates s.role) xs)
change_of s t (event.Ask q a c) xs = asked_at s t (addresses_of t) q a c
change_of s t event.Links xs = linked_at s t (addresses_of t) xs
change_of s t (event.Clock d) xs = refused_of t 0

-- With room in the buffer: table and answer, lent a buffer of n octets; the buffer l after it.
abbrev pub roomy_of : Settings → List Record → Event → List ℕ → ℕ → Stepped
roomy_of s t event.Frame xs n = stepped_of (change_of s t event.Frame xs) n
roomy_of s t (event.Ask q a c) xs n = stepped_of (change_of s t (event.Ask q a c) xs) n
roomy_of s t event.Links xs n = stepped_of (change_of s t event.Links xs) n
roomy_of s t (event.Clock d) xs n = ticked_of s t d

abbrev pub roomy_in : Settings → List Record → Event → List ℕ → List ℕ → List ℕ
roomy_in s t event.Frame xs l = said_in (change_of s t event.Frame xs).reply l
roomy_in s t (event.Ask q a c) xs l = said_in (change_of s t (event.Ask q a c) xs).reply l
roomy_in s t event.Links xs l = said_in (change_of s t event.Links xs).reply l
roomy_in s t (event.Clock d) xs l = ticked_in s t d l

-- Refusal 1, where the buffer is shorter than the event's call needs.
unfoldable pub ruled_of : Settings → List Record → Event → List ℕ → ℕ → Stepped
ruled_of s t e xs n = pick (ltb n (room_of e)) (record { table = t; answer = refusal_answer 1 }) (roomy_of s t e xs n)

unfoldable pub ruled_in : Settings → List Record → Event → List ℕ → List ℕ → List ℕ
ruled_in s t e xs l = pick (ltb (length l) (room_of e)) l (roomy_in s t e xs l)

-- The same over the records t lent, as Lent.antt has the step: the answer, the records after the event, and the buffer.
abbrev pub ruled_lent_answer : List Record → Settings → Event → List ℕ → List ℕ → Answer
ruled_lent_answer t s e xs l = pick (eqb (length t) 32) (ruled_of s t e xs (length l)).answer (malformed_of e (length l))

abbrev pub ruled_lent_table : List Record → Settings → Event → List ℕ → List ℕ → List Record
ruled_lent_table t s e xs l = pick (eqb (length t) 32) (ruled_of s t e xs (length l)).table t

abbrev pub ruled_lent_in : List Record → Settings → Event → List ℕ → List ℕ → List ℕ
ruled_lent_in t s e xs l = pick (eqb (length t) 32) (ruled_in s t e xs l) l
