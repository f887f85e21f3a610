-- What the program prints for an input, from its first octet to its last: the one definition of it. 01, "The bench program".
-- proofs/Whole.antt proves `whole_output`: however the input comes in pieces, this is what the program writes.
-- Assumes nothing.
use Rattle.std.specs.Prelude.{ℕ, zero, suc, ◌+◌, Bool, true, false, List, [], ◌∷◌, ◌++◌, replicate}
use Rattle.octets.specs.Field.{field}
use Rattle.peer.specs.Record.{free_of}
use Rattle.peer.specs.declared.record.Record.{Record}
use Rattle.peer.specs.declared.settings.Settings.{Settings}
use Rattle.table.specs.Boundary.{no_settings}
use Rattle.table.specs.Step.{step_of, step_in}
use Rattle.table.specs.Why.{reason_number, why_of}
use Rattle.table.specs.declared.rules.answer.Answer.{Answer}
use Rattle.table.specs.declared.rules.event.Event.{Event}
use Rattle.table.specs.Input.{body_of, taken_of}
use Rattle.bench.specs.Changes.{changes_lines}
use Rattle.bench.specs.Facts.{facts_of, on_counts}
use Rattle.bench.specs.Line.{line_of, stop_line}
use Rattle.bench.specs.Output.{Line, short, said}
use Rattle.bench.specs.Play.{zeros, number_after}
use Rattle.bench.specs.Trace.{trace_lines}
use Rattle.bench.specs.Why.{why_line}
use Rattle.table.specs.declared.host.input.Taken.{Taken}
use Rattle.table.specs.declared.host.input.Taken.TheVariants.{Cut, Fault, First, Next}
use Rattle.bench.specs.declared.run.Prints.TheVariants as prints
use Rattle.bench.specs.declared.run.Prints.{Prints}

-- What is printed of an event: its lines, by its number, the settings, the table before it, the event, and the octets beside it.
abbrev pub Shown : Type 0
Shown = ℕ → Settings → List Record → Event → List ℕ → List Line

-- 02, K12: what is counted of an event.
abbrev pub counted : {A : Type 0} → (Answer → ℕ → List ℕ → Bool → ℕ → A) → Settings → List Record → Event → List ℕ → A
counted f s t e xs = on_counts f s.role e xs (step_of s t e xs 256).answer (reason_number (why_of s t e xs 256).reason) (step_in s t e xs zeros)

-- "one line an event"; "the output scratch is 256 zero bytes for each event". Behind it, where it is traced, the lines of the trace, or of these only what
-- changed. 02, K4: or why it came to that, in place of its line. K12: or what is counted of it, as octets.
unfoldable pub shown_by : Prints → Shown
shown_by prints.Lines n s t e xs = short (line_of n (step_of s t e xs 256).answer) ∷ []
shown_by prints.Trace n s t e xs =
    short (line_of n (step_of s t e xs 256).answer) ∷
    trace_lines (step_of s t e xs 256).answer (step_in s t e xs zeros) (step_of s t e xs 256).table
shown_by prints.Changes n s t e xs =
    short (line_of n (step_of s t e xs 256).answer) ∷
    changes_lines (step_of s t e xs 256).answer (step_in s t e xs zeros) (why_of s t e xs 256) t (step_of s t e xs 256).table
shown_by prints.Why n s t e xs = short (why_line n (why_of s t e xs 256)) ∷ []
shown_by prints.Facts n s t e xs = short (counted facts_of s t e xs) ∷ []

-- Between two records: the settings, the table, the number of the last event; and whether no record came yet.
pub record Standing : Type 0 where
  pub settings : Settings
  pub table : List Record
  pub number : ℕ
  pub first : Bool

-- "The table starts empty"; "event number from 1".
abbrev pub at_start : Standing
at_start = record { settings = no_settings; table = replicate 32 free_of; number = 0; first = true }

abbrev pub begun_with : Standing → Settings → Standing
begun_with s t = record { settings = t; table = s.table; number = s.number; first = false }

abbrev pub played_on : Standing → Event → List ℕ → Standing
played_on s e xs =
    record {
      settings = s.settings;
      table = (step_of s.settings s.table e xs 256).table;
      number = number_after s.number;
      first = s.first;
    }

-- By what stands at the front: "A fault in mark, kind or length, or a cut record" is one case, settings and an event are the others.
abbrev pub on_taken : {A : Type 0} → Taken → A → (Settings → A) → (Event → A) → A
on_taken Cut z f g = z
on_taken Fault z f g = z
on_taken (First t) z f g = f t
on_taken (Next e) z f g = g e

-- The octets of a record behind its first: the rest of the head, and the body.
abbrev pub behind_first : List ℕ → ℕ
behind_first xs = field 2 3 xs + 4

-- What is printed from there on, with k octets of the record before still to pass. A fault or a cut record "prints `stop` and ends; empty input
-- prints nothing".
unfoldable pub printed_from : Shown → ℕ → Standing → List ℕ → List ℕ
printed_from w (suc k) s [] = []
printed_from w (suc k) s (x ∷ xs) = printed_from w k s xs
printed_from w zero s [] = []
printed_from w zero s (x ∷ xs) =
    on_taken (taken_of (x ∷ xs) s.first) stop_line
    (λ t. printed_from w (behind_first (x ∷ xs)) (begun_with s t) xs)
    (λ e.
    said (w (number_after s.number) s.settings s.table e (body_of (x ∷ xs)))
    ++ printed_from w (behind_first (x ∷ xs)) (played_on s e (body_of (x ∷ xs))) xs)

-- The output of `bench`, of `bench trace`, of `bench changes`, and of `bench why`.
abbrev pub output_of : Shown → List ℕ → List ℕ
output_of w xs = printed_from w 0 at_start xs

abbrev pub bench_output : List ℕ → List ℕ
bench_output xs = output_of (shown_by prints.Lines) xs

abbrev pub trace_output : List ℕ → List ℕ
trace_output xs = output_of (shown_by prints.Trace) xs

abbrev pub changes_output : List ℕ → List ℕ
changes_output xs = output_of (shown_by prints.Changes) xs

abbrev pub why_output : List ℕ → List ℕ
why_output xs = output_of (shown_by prints.Why) xs
