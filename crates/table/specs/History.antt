-- 02, K9: a history of events "from an empty table", each event with the table that it met.
-- Assumes nothing.
use Rattle.std.specs.Prelude.{ℕ, List, [], ◌∷◌, replicate}
use Rattle.peer.specs.Record.{free_of}
use Rattle.peer.specs.declared.record.Record.{Record}
use Rattle.peer.specs.declared.settings.Settings.{Settings}
use Rattle.table.specs.Step.{step_of}
use Rattle.table.specs.declared.rules.answer.Stepped.{Stepped}
use Rattle.table.specs.declared.rules.event.Event.{Event}

-- "any events and clock steps": an event, the octets of a frame or of links beside it, and the length of the buffer that is lent, enough or not.
pub record Happening : Type 0 where
  pub event : Event
  pub octets : List ℕ
  pub room : ℕ

-- An event of a run: what happened, and the table that it met.
pub record Moment : Type 0 where
  pub table : List Record
  pub event : Event
  pub octets : List ℕ
  pub room : ℕ

abbrev pub met : List Record → Happening → Moment
met t e = record { table = t; event = e.event; octets = e.octets; room = e.room }

-- What the code is proved to give for it.
abbrev pub given : Settings → Moment → Stepped
given s m = step_of s m.table m.event m.octets m.room

-- "From an empty table": 32 free places.
abbrev pub empty_table : List Record
empty_table = replicate 32 free_of

-- The events of a history, one after the other, the first first, each with its table; and the table that they leave. "Settings stay fixed".
abbrev pub run_from : Settings → List Record → List Happening → List Moment
run_from s t [] = []
run_from s t (e ∷ l) = met t e ∷ run_from s (given s (met t e)).table l

abbrev pub left_by : Settings → List Record → List Happening → List Record
left_by s t [] = t
left_by s t (e ∷ l) = left_by s (given s (met t e)).table l
