-- The answer to an event as it crosses to a host: 24 octets, little-endian. Current AP 8, the notice's code 2, octets written 2; refusal, verdict,
-- notice, word to the distribution system 1 each; state 8 (so seven zeros end it).
-- Assumes nothing.
use Rattle.std.specs.Prelude.{ℕ, List, ◌∷◌, ◌++◌, ltb, length}
use Rattle.std.proofs.lemmas.List.Edits.{sets}
use Rattle.octets.specs.Pick.{pick}
use Rattle.octets.specs.Field.{octets}

unfoldable pub answer_bytes : ℕ → ℕ → ℕ → ℕ → ℕ → ℕ → ℕ → ℕ → List ℕ
answer_bytes current code written refusal verdict notice ds state =
    octets 8 current ++ octets 2 code ++ octets 2 written ++ refusal ∷ verdict ∷ notice ∷ ds ∷ octets 8 state

-- The octets lent for an answer after it is written at their front; where they are too few, as they were.
unfoldable pub answer_written : List ℕ → ℕ → ℕ → ℕ → ℕ → ℕ → ℕ → ℕ → ℕ → List ℕ
answer_written l current code written refusal verdict notice ds state =
    pick (ltb (length l) 24) l (sets l 0 (answer_bytes current code written refusal verdict notice ds state))

-- 02, K4: the value beside a reason, as it crosses: 8 octets, little-endian, at the front of those lent for it; where they are too few, they stay.
unfoldable pub value_written : List ℕ → ℕ → List ℕ
value_written l value = pick (ltb (length l) 8) l (sets l 0 (octets 8 value))
