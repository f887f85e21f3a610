-- What a case is: events one after the other with what must come out of each; and the test of a case, `comes_out`. The cases: Marked.antt.
-- Assumes nothing.
use Rattle.std.specs.Prelude.{ℕ, ◌-◌, Bool, true, false, ◌&&◌, List, [], ◌∷◌, ◌++◌, eqb, length, replicate}
use Rattle.peer.specs.Query.{query_left, query_number}
use Rattle.peer.specs.Record.{asked_of, awaiting_of, free_of, sent_of}
use Rattle.peer.specs.declared.record.Record.{Record}
use Rattle.peer.specs.declared.settings.Settings.{Settings}
use Rattle.table.specs.Step.{step_in, step_of}
use Rattle.table.specs.declared.rules.answer.Answer.{Answer}
use Rattle.table.specs.declared.rules.event.Event.{Event}

-- A line of a case: an event with its frame's octets (none where it is no frame) and a buffer of zeros of a length;
-- then what must come out: the answer, and the octets at the buffer's front, after which it stays zero.
pub record Line : Type 0 where
  pub event : Event
  pub frame : List ℕ
  pub room : ℕ
  pub answer : Answer
  pub said : List ℕ

-- A case: settings, the records of the table before, one event after the other, and the records of the table after. Both tables are filled up
-- to 32 with free places.
pub record Case : Type 0 where
  pub settings : Settings
  pub before : List Record
  pub lines : List Line
  pub after : List Record

-- The test

unfoldable pub same : List ℕ → List ℕ → Bool
same [] [] = true
same [] (y ∷ ys) = false
same (x ∷ xs) [] = false
same (x ∷ xs) (y ∷ ys) = eqb x y && same xs ys

-- All fields of an answer.
unfoldable pub answer_fields : Answer → List ℕ
answer_fields a =
    a.refusal ∷ a.verdict ∷ a.notice ∷ a.code ∷ a.written ∷ a.ds ∷ a.state ∷ a.current ∷ []

-- Address, state, the exchange under way (by the number of its kind), its time left, hold; the query by its number, its time left, its identifier.
unfoldable pub record_fields : Record → List ℕ
record_fields p =
    p.address ∷ p.state ∷ asked_of p.exchange ∷ awaiting_of p.exchange ∷ sent_of p.exchange ∷ p.left ∷ p.hold
    ∷ query_number p.query ∷ query_left p.query ∷ p.identifier ∷ []

unfoldable pub same_table : List Record → List Record → Bool
same_table [] [] = true
same_table [] (q ∷ qs) = false
same_table (p ∷ ps) [] = false
same_table (p ∷ ps) (q ∷ qs) = same (record_fields p) (record_fields q) && same_table ps qs

-- Octets followed by zeros, n in all; records followed by free places, 32 in all.
unfoldable pub zeros_after : ℕ → List ℕ → List ℕ
zeros_after n xs = xs ++ replicate (n - length xs) 0

unfoldable pub table_of : List Record → List Record
table_of ps = ps ++ replicate (32 - length ps) free_of

-- One line, in a table: its answer and its buffer are as stated.
unfoldable pub line_comes_out : Settings → List Record → Line → Bool
line_comes_out s t l =
    same (answer_fields (step_of s t l.event l.frame l.room).answer) (answer_fields l.answer)
    && same (step_in s t l.event l.frame (zeros_after l.room [])) (zeros_after l.room l.said)

-- Each line in the table that the lines before it left, and the table at the end.
unfoldable pub lines_come_out : Settings → List Record → List Line → List Record → Bool
lines_come_out s t [] after = same_table t after
lines_come_out s t (l ∷ ls) after =
    line_comes_out s t l && lines_come_out s (step_of s t l.event l.frame l.room).table ls after

unfoldable pub comes_out : Case → Bool
comes_out c = lines_come_out c.settings (table_of c.before) c.lines (table_of c.after)
