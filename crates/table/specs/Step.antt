-- One event: a frame, a primitive, a device's links or a clock step. The octets xs of a frame, or of links, stand beside the event.
-- Assumes nothing.
use Rattle.std.specs.Prelude.{ℕ, List, length}
use Rattle.peer.specs.declared.settings.Settings.{Settings}
use Rattle.peer.specs.declared.record.Record.{Record}
use Rattle.table.specs.Answer.{said_in, stepped_of}
use Rattle.table.specs.Receive.{received_of}
use Rattle.table.specs.Ask.{asked_of}
use Rattle.table.specs.Link.{linked_of}
use Rattle.table.specs.Pass.{passed_of, passed_in}
use Rattle.table.specs.declared.rules.answer.Stepped.{Stepped}
use Rattle.table.specs.declared.rules.event.Event.{Event}
use Rattle.table.specs.declared.rules.event.Event.TheVariants as event

-- Table and answer, lent a buffer of n octets.
abbrev pub step_of : Settings → List Record → Event → List ℕ → ℕ → Stepped
step_of s t event.Frame xs n = stepped_of (received_of s t xs n) n
step_of s t (event.Ask q a c) xs n = stepped_of (asked_of s t q a c n) n
step_of s t event.Links xs n = stepped_of (linked_of s t xs n) n
step_of s t (event.Clock d) xs n = passed_of s t d n

-- The buffer l after the event.
abbrev pub step_in : Settings → List Record → Event → List ℕ → List ℕ → List ℕ
step_in s t event.Frame xs l = said_in (received_of s t xs (length l)).reply l
step_in s t (event.Ask q a c) xs l = said_in (asked_of s t q a c (length l)).reply l
step_in s t event.Links xs l = said_in (linked_of s t xs (length l)).reply l
step_in s t (event.Clock d) xs l = passed_in s t d l
