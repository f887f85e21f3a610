-- The answer to an event. 01: "A refusal returns its number with everything else zero, verdict none, table and buffer unchanged."
-- Assumes nothing.
use Rattle.std.specs.Prelude.{ℕ, List, Option, None, Some}
use Rattle.octets.specs.Frame.{length_of, written_of}
use Rattle.octets.specs.declared.frame.Frame.{Frame}
use Rattle.peer.specs.declared.record.Record.{Record}
use Rattle.peer.specs.declared.turn.Turn.{Turn}
use Rattle.table.specs.declared.rules.answer.Answer.{Answer}
use Rattle.table.specs.declared.rules.answer.Met.{Met}
use Rattle.table.specs.declared.rules.answer.Stepped.{Stepped}

abbrev pub refusal_answer : ℕ → Answer
refusal_answer n =
    record { current = 0; code = 0; written = 0; refusal = n; verdict = 0; notice = 0; ds = 0; state = 0 }

abbrev pub verdict_answer : ℕ → Answer
verdict_answer v =
    record { current = 0; code = 0; written = 0; refusal = 0; verdict = v; notice = 0; ds = 0; state = 0 }

-- What a turn tells, with the state to show; nothing is written yet.
abbrev pub turn_answer : Turn → ℕ → Answer
turn_answer t state =
    record {
      current = t.told.current;
      code = t.told.code;
      written = 0;
      refusal = 0;
      verdict = t.verdict;
      notice = t.told.notice;
      ds = t.ds;
      state = state;
    }

abbrev pub count_answer : Answer → ℕ → Answer
count_answer a written =
    record {
      current = a.current;
      code = a.code;
      written = written;
      refusal = a.refusal;
      verdict = a.verdict;
      notice = a.notice;
      ds = a.ds;
      state = a.state;
    }

-- The table stays, and nothing is said.
unfoldable pub settled_of : List Record → Answer → Met
settled_of t a = record { table = t; answer = a; reply = None }

unfoldable pub refused_of : List Record → ℕ → Met
refused_of t n = settled_of t (refusal_answer n)

-- How many octets a reply writes into a buffer of n octets, and what it leaves in a buffer.
abbrev pub said_length : Option Frame → ℕ → ℕ
said_length None n = 0
said_length (Some f) n = length_of f n

abbrev pub said_in : Option Frame → List ℕ → List ℕ
said_in None l = l
said_in (Some f) l = written_of f l

-- Table and answer once the reply is written.
unfoldable pub stepped_of : Met → ℕ → Stepped
stepped_of m n = record { table = m.table; answer = count_answer m.answer (said_length m.reply n) }
