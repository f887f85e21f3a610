-- A turn of the run: one record, or more input. What is read and whether a write went well is the reader's and the writer's affair; all else is said.
-- Assumes nothing.
use Rattle.std.specs.Prelude.{ℕ, ◌+◌, ◌≤◌, ◌<◌, true, false, List, ◌≡◌, eqb, leb, length, get_or, take}
use Rattle.peer.specs.Settings.{settings_fit}
use Rattle.table.specs.Host.{host_table}
use Rattle.table.specs.Rows.{records_of}
use Rattle.table.specs.Run.{Sound}
use Rattle.table.specs.Input.{size_of, body_of, taken_of}
use Rattle.bench.specs.Play.{zeros}
use Rattle.bench.specs.Run.{behind_of, begun_of, done_of, end_output, event_of, event_output, flushed_of, stop_output, ahead_of, left_of, shifted_of}
use Rattle.table.specs.declared.host.input.Taken.{Taken}
use Rattle.table.specs.declared.host.input.Taken.TheVariants.{Cut, Fault, First, Next}
use Rattle.bench.specs.declared.run.Run.{Run}

-- Each is an octet.
abbrev pub Made : List ℕ → Type 0
Made xs = (i : ℕ) → get_or xs i 0 < 256

-- n octets were read behind those left, into a buffer of `len`; none is the end of the input.
unfoldable pub refilled_of : Run → ℕ → ℕ → Run
refilled_of r len n =
    record {
      settings = r.settings;
      fit = r.fit;
      number = r.number;
      at = 0;
      have = behind_of (left_of r.at r.have len) n len;
      out = r.out;
      first = r.first;
      over = eqb n 0;
      done = r.done;
      prints = r.prints;
    }

-- A read: it failed, and the run is done; or some octets stand behind those left, which moved to the front of the input buffer.
pub data Refilled (xs : List ℕ) (r : Run) (ys : List ℕ) (q : Run) : Type 0 where
  failed : q ≡ done_of r r.out → Refilled xs r ys q
  more : (n : ℕ) → q ≡ refilled_of r (length xs) n → take (left_of r.at r.have (length xs)) ys ≡ take (left_of r.at r.have (length xs)) (shifted_of r.at r.have xs) → Refilled xs r ys q

-- What an event is played on, without a check: octets that are `Sound` (table/specs/Run.antt), as they are from the empty table on, in a run that
-- says rightly whether its settings fit.
pub record Ready (r : Run) (ts : List ℕ) : Type 0 where
  pub sound : Sound r.settings ts
  pub fit : r.fit ≡ settings_fit r.settings

-- What stands at the front of the octets ahead, taken: the table's octets ts, the output buffer o and the run r become us, k and q. Where no
-- record is there whole, at the end of the input, "a cut record" is a fault, and no octet left there is the input's end. An event's own octets
-- and the table's are octets, as those of every slice are.
abbrev pub Took : Taken → List ℕ → List ℕ → List ℕ → Run → List ℕ → List ℕ → Run → Type 0
Took Cut ahead ts o r us k q = (us ≡ ts) × (r.over ≡ true) × (q ≡ done_of r (end_output r o).filled) × (k ≡ (end_output r o).octets)
Took Fault ahead ts o r us k q = (us ≡ ts) × (q ≡ done_of r (stop_output r o).filled) × (k ≡ (stop_output r o).octets)
Took (First s) ahead ts o r us k q = (us ≡ ts) × (q ≡ begun_of r s (size_of ahead)) × (k ≡ o)
Took (Next e) ahead ts o r us k q =
    (Ready r ts →
    (us ≡ host_table ts r.settings e (body_of ahead) zeros) ×
    (q ≡ event_of r (records_of ts) e (body_of ahead) (size_of ahead) o) ×
    (k ≡ (event_output r (records_of ts) e (body_of ahead) o).octets)) ×
    Made ts ×
    Made (body_of ahead)

-- What a turn makes of the table's octets ts, input buffer xs, output buffer o and run r: us, ys, k and q, by what stands at the front of the
-- octets ahead.
pub data Turned (t : Taken) (ts xs o : List ℕ) (r : Run) (us ys k : List ℕ) (q : Run) : Type 0 where
  took : Took t (ahead_of r.at r.have xs) ts o r us k q → ys ≡ xs → Turned t ts xs o r us ys k q
  wanted : t ≡ Cut → r.over ≡ false → Refilled xs r ys q → us ≡ ts → k ≡ o → Turned t ts xs o r us ys k q

-- The same of a run whose octets ahead lie in the input buffer.
abbrev pub TurnOf : List ℕ → List ℕ → List ℕ → Run → List ℕ → List ℕ → List ℕ → Run → Type 0
TurnOf ts xs o r us ys k q =
    r.at ≤ r.have → r.have ≤ length xs → Turned (taken_of (ahead_of r.at r.have xs) r.first) ts xs o r us ys k q

-- The lines handed to be written: they were, or that failed, and the run is done.
pub data Flushed (o : List ℕ) (r q : Run) : Type 0 where
  written : r.out ≤ length o → q ≡ flushed_of r r.done → Flushed o r q
  unwritten : q ≡ flushed_of r true → Flushed o r q

-- A turn, behind which the lines are written out where the run is done or little room is left.
pub data Rounded (ts xs o : List ℕ) (r : Run) (us ys k : List ℕ) (q : Run) : Type 0 where
  on : TurnOf ts xs o r us ys k q → q.done ≡ false → leb (q.out + 8192) (length k) ≡ true → Rounded ts xs o r us ys k q
  out : (t : Run) → TurnOf ts xs o r us ys k t → Flushed k t q → Rounded ts xs o r us ys k q
