-- 02, K4: why an event came to what it did, as a line: its number, the reason's word, the value beside it; one blank between, one LF at the end.
-- Assumes nothing.
use Rattle.std.specs.Prelude.{ℕ, List, [], ◌∷◌, ◌++◌}
use Rattle.table.specs.declared.rules.why.Reason.{Reason}
use Rattle.table.specs.declared.rules.why.Reason.TheVariants.{None, Refusal, NoClass, ClassFilter, GroupRule, NothingToDo}
use Rattle.table.specs.declared.rules.why.Why.{Why}
use Rattle.bench.specs.Text.{field_of, tens}

-- "refusal-" and its number, 1 to 9
unfoldable pub refusal_word : ℕ → List ℕ
refusal_word n = (114 ∷ 101 ∷ 102 ∷ 117 ∷ 115 ∷ 97 ∷ 108 ∷ 45 ∷ []) ++ field_of 3 n

-- The word of each reason, and a blank.
abbrev pub word_of : Reason → List ℕ
-- "none"
word_of None = 110 ∷ 111 ∷ 110 ∷ 101 ∷ 32 ∷ []
word_of (Refusal n) = refusal_word n
-- "no-class"
word_of NoClass = 110 ∷ 111 ∷ 45 ∷ 99 ∷ 108 ∷ 97 ∷ 115 ∷ 115 ∷ 32 ∷ []
-- "class-filter"
word_of ClassFilter = 99 ∷ 108 ∷ 97 ∷ 115 ∷ 115 ∷ 45 ∷ 102 ∷ 105 ∷ 108 ∷ 116 ∷ 101 ∷ 114 ∷ 32 ∷ []
-- "group-rule"
word_of GroupRule = 103 ∷ 114 ∷ 111 ∷ 117 ∷ 112 ∷ 45 ∷ 114 ∷ 117 ∷ 108 ∷ 101 ∷ 32 ∷ []
-- "nothing-to-do"
word_of NothingToDo = 110 ∷ 111 ∷ 116 ∷ 104 ∷ 105 ∷ 110 ∷ 103 ∷ 45 ∷ 116 ∷ 111 ∷ 45 ∷ 100 ∷ 111 ∷ 32 ∷ []

-- The reason's word, the value beside it, and the end of the line.
unfoldable pub reasoned_text : Reason → ℕ → List ℕ
reasoned_text reason value = word_of reason ++ tens 20 value ++ (10 ∷ [])

unfoldable pub why_text : ℕ → Reason → ℕ → List ℕ
why_text number reason value = field_of 20 number ++ word_of reason ++ tens 20 value ++ (10 ∷ [])

abbrev pub why_line : ℕ → Why → List ℕ
why_line number w = why_text number w.reason w.value
