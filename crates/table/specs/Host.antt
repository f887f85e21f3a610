-- One event over the octets of a table, as a host lends them: 32 rows of 48, or refusal 2; refusal 1 comes before it. The answer, the table
-- and the buffer are those of the step over records, through octets to records and back.
-- Assumes nothing.
use Rattle.std.specs.Prelude.{ℕ, List, length}
use Rattle.octets.specs.Pick.{pick}
use Rattle.peer.specs.declared.settings.Settings.{Settings}
use Rattle.table.specs.Lent.{malformed_of}
use Rattle.table.specs.Rows.{records_of, octets_of, is_table}
use Rattle.table.specs.Step.{step_of, step_in}
use Rattle.table.specs.declared.rules.answer.Answer.{Answer}
use Rattle.table.specs.declared.rules.event.Event.{Event}

-- The octets xs lent, the frame fs and the buffer l: the answer, the octets after the event, and the buffer.
unfoldable pub host_answer : List ℕ → Settings → Event → List ℕ → List ℕ → Answer
host_answer xs s e fs l = pick (is_table xs) (step_of s (records_of xs) e fs (length l)).answer (malformed_of e (length l))

unfoldable pub host_table : List ℕ → Settings → Event → List ℕ → List ℕ → List ℕ
host_table xs s e fs l = pick (is_table xs) (octets_of (step_of s (records_of xs) e fs (length l)).table) xs

unfoldable pub host_in : List ℕ → Settings → Event → List ℕ → List ℕ → List ℕ
host_in xs s e fs l = pick (is_table xs) (step_in s (records_of xs) e fs l) l
