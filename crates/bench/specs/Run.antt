-- Where a run stands, and what a record makes of it and of the output buffer.
-- Assumes nothing.
use Rattle.std.specs.Prelude.{ℕ, ◌+◌, ◌-◌, Bool, true, false, ◌&&◌, List, ◌++◌, eqb, leb, length, take, drop}
use Rattle.octets.specs.Pick.{pick}
use Rattle.peer.specs.Settings.{settings_fit}
use Rattle.peer.specs.declared.record.Record.{Record}
use Rattle.peer.specs.declared.settings.Settings.{Settings}
use Rattle.table.specs.Step.{step_of, step_in}
use Rattle.table.specs.declared.rules.answer.Stepped.{Stepped}
use Rattle.table.specs.declared.rules.event.Event.{Event}
use Rattle.bench.specs.Line.{stop_line}
use Rattle.bench.specs.Output.{Output, Line, short, up_to, put_of, put_all}
use Rattle.bench.specs.Play.{zeros, number_after}
use Rattle.bench.specs.Printed.{shown_by}
use Rattle.bench.specs.declared.run.Prints.{Prints}
use Rattle.bench.specs.declared.run.Run.{Run}

-- No event yet, both buffers empty.
unfoldable pub start_of : Prints → Run
start_of prints =
    record {
      settings = record { own = 0; network = 0; authentication = 0; association = 0; role = 0; rsna = 0; edition = 0; protection = 0; retry = 0; maximum = 0 };
      fit = false;
      number = 0;
      at = 0;
      have = 0;
      out = 0;
      first = true;
      over = false;
      done = false;
      prints = prints;
    }

-- Where one stands n octets behind `at`, of `have`; never past the end.
unfoldable pub behind_of : ℕ → ℕ → ℕ → ℕ
behind_of at n have = pick (leb (at + n) have) (at + n) have

-- The settings record was taken: whether they fit is looked at here, its `size` octets are passed, the rest stays.
unfoldable pub begun_of : Run → Settings → ℕ → Run
begun_of r s size =
    record {
      settings = s;
      fit = settings_fit s;
      number = r.number;
      at = behind_of r.at size r.have;
      have = r.have;
      out = r.out;
      first = false;
      over = r.over;
      done = r.done;
      prints = r.prints;
    }

-- An event, played on the records t: the step of the table, lent 256 octets. "the output scratch is 256 zero bytes for each event"
abbrev pub played_of : Run → List Record → Event → List ℕ → Stepped
played_of r t e frame = step_of r.settings t e frame 256

abbrev pub scratch_of : Run → List Record → Event → List ℕ → List ℕ
scratch_of r t e frame = step_in r.settings t e frame zeros

-- The lines of an event (Printed.antt), which has the next number, on the records t.
unfoldable pub event_lines : Run → List Record → Event → List ℕ → List Line
event_lines r t e frame = shown_by r.prints (number_after r.number) r.settings t e frame

-- The output buffer l after it: its lines behind those that are there.
unfoldable pub event_output : Run → List Record → Event → List ℕ → List ℕ → Output
event_output r t e frame l = put_all (event_lines r t e frame) (up_to l r.out)

-- The run after it: the next number, `size` octets of input passed, the output as far as it is filled.
unfoldable pub event_of : Run → List Record → Event → List ℕ → ℕ → List ℕ → Run
event_of r t e frame size l =
    record {
      settings = r.settings;
      fit = r.fit;
      number = number_after r.number;
      at = behind_of r.at size r.have;
      have = r.have;
      out = (event_output r t e frame l).filled;
      first = r.first;
      over = r.over;
      done = r.done;
      prints = r.prints;
    }

-- The lines were handed on to be written, and the run goes on or is done; nothing else changes.
unfoldable pub flushed_of : Run → Bool → Run
flushed_of r done =
    record {
      settings = r.settings;
      fit = r.fit;
      number = r.number;
      at = r.at;
      have = r.have;
      out = 0;
      first = r.first;
      over = r.over;
      done = done;
      prints = r.prints;
    }

-- The run is done; the first n octets of the output buffer are still to be written.
unfoldable pub done_of : Run → ℕ → Run
done_of r n =
    record {
      settings = r.settings;
      fit = r.fit;
      number = r.number;
      at = r.at;
      have = r.have;
      out = n;
      first = r.first;
      over = r.over;
      done = true;
      prints = r.prints;
    }

-- "prints `stop` and ends": the output buffer l after it. At the end of the input it is so where an octet is left: "a cut record".
abbrev pub stop_output : Run → List ℕ → Output
stop_output r l = put_of (short stop_line) (up_to l r.out)

unfoldable pub end_output : Run → List ℕ → Output
end_output r l = pick (eqb r.at r.have) (up_to l r.out) (stop_output r l)

-- The octets of the input buffer that are still to be taken, at the front of it; how many. Where `at` and `have` are no places of the buffer it
-- stays, and there are none.
abbrev pub within : ℕ → ℕ → ℕ → Bool
within at have n = leb at have && leb have n

abbrev pub ahead_of : ℕ → ℕ → List ℕ → List ℕ
ahead_of at have xs = take (have - at) (drop at xs)

unfoldable pub left_of : ℕ → ℕ → ℕ → ℕ
left_of at have n = pick (within at have n) (have - at) 0

unfoldable pub shifted_of : ℕ → ℕ → List ℕ → List ℕ
shifted_of at have xs = pick (within at have (length xs)) (ahead_of at have xs ++ drop (have - at) xs) xs
