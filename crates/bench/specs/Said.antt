-- 02, K13: the line that `bench check` prints of a log.
-- Assumes nothing.
use Rattle.std.specs.Prelude.{ℕ, List, [], ◌∷◌, ◌++◌, eqb}
use Rattle.octets.specs.Pick.{pick}
use Rattle.rival.specs.declared.Said.{Said}
use Rattle.rival.specs.declared.Said.TheVariants.{Right, Differs, Short, Long}
use Rattle.bench.specs.Text.{field_of, tens}

-- "number", "refusal", "verdict", "notice", "code", "written", "ds", "state"; "form" is none of the eight.
unfoldable pub field_name : ℕ → List ℕ
field_name f =
    pick (eqb f 0) (110 ∷ 117 ∷ 109 ∷ 98 ∷ 101 ∷ 114 ∷ [])
    (pick (eqb f 1) (114 ∷ 101 ∷ 102 ∷ 117 ∷ 115 ∷ 97 ∷ 108 ∷ [])
    (pick (eqb f 2) (118 ∷ 101 ∷ 114 ∷ 100 ∷ 105 ∷ 99 ∷ 116 ∷ [])
    (pick (eqb f 3) (110 ∷ 111 ∷ 116 ∷ 105 ∷ 99 ∷ 101 ∷ [])
    (pick (eqb f 4) (99 ∷ 111 ∷ 100 ∷ 101 ∷ [])
    (pick (eqb f 5) (119 ∷ 114 ∷ 105 ∷ 116 ∷ 116 ∷ 101 ∷ 110 ∷ [])
    (pick (eqb f 6) (100 ∷ 115 ∷ [])
    (pick (eqb f 7) (115 ∷ 116 ∷ 97 ∷ 116 ∷ 101 ∷ [])
    (102 ∷ 111 ∷ 114 ∷ 109 ∷ []))))))))

-- A word and the event's number.
unfoldable pub event_line : List ℕ → ℕ → List ℕ
event_line word event = word ++ tens 20 event ++ (10 ∷ [])

-- "differs "
unfoldable pub differs_line : ℕ → ℕ → List ℕ
differs_line event field = (100 ∷ 105 ∷ 102 ∷ 102 ∷ 101 ∷ 114 ∷ 115 ∷ 32 ∷ []) ++ field_of 20 event ++ field_name field ++ (10 ∷ [])

-- "right", "short ", "long "
abbrev pub said_line : Said → List ℕ
said_line Right = 114 ∷ 105 ∷ 103 ∷ 104 ∷ 116 ∷ 10 ∷ []
said_line (Differs event field) = differs_line event field
said_line (Short event) = event_line (115 ∷ 104 ∷ 111 ∷ 114 ∷ 116 ∷ 32 ∷ []) event
said_line (Long event) = event_line (108 ∷ 111 ∷ 110 ∷ 103 ∷ 32 ∷ []) event
