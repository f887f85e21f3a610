-- 01, "The bench program": "No heading. Fields: event number from 1; refusal; verdict A, D or -; notice; its code; bytes written; DS J, L or
-- -; peer's state after". One blank between fields, one LF at the end.
-- Assumes nothing.
use Rattle.std.specs.Prelude.{ℕ, List, [], ◌∷◌, ◌++◌, eqb}
use Rattle.octets.specs.Pick.{pick}
use Rattle.table.specs.declared.rules.answer.Answer.{Answer}
use Rattle.bench.specs.Text.{tens, field_of, letter_of}

-- 'A' admit, 'D' discard, '-' none
unfoldable pub verdict_letter : ℕ → ℕ
verdict_letter v = pick (eqb v 1) 65 (pick (eqb v 2) 68 45)

-- 'J' joined, 'L' left, '-' nothing
unfoldable pub ds_letter : ℕ → ℕ
ds_letter d = pick (eqb d 1) 74 (pick (eqb d 2) 76 45)

-- event number, refusal, verdict, notice
unfoldable pub front_of : ℕ → Answer → List ℕ
front_of number a =
    field_of 20 number ++ field_of 3 a.refusal ++ letter_of (verdict_letter a.verdict) ++ field_of 3 a.notice

-- its code, bytes written, DS, state, LF
unfoldable pub back_of : Answer → List ℕ
back_of a =
    field_of 5 a.code ++ field_of 5 a.written ++ letter_of (ds_letter a.ds) ++ tens 3 a.state ++ (10 ∷ [])

unfoldable pub line_of : ℕ → Answer → List ℕ
line_of number a = front_of number a ++ back_of a

-- "prints `stop` and ends"
abbrev pub stop_line : List ℕ
stop_line = 115 ∷ 116 ∷ 111 ∷ 112 ∷ 10 ∷ []
