-- What is said of a log beside our lines. 02, K13: "say whether each line is the one document 01 gives, and if not, the first event that differs and which
-- field." Written over whole lines and their pieces; the code goes octet by octet, and proofs/Lines.antt proves that it says the same.
-- Assumes nothing.
use Rattle.std.specs.Prelude.{ℕ, suc, ◌+◌, List, [], ◌∷◌, eqb, leb, ltb}
use Rattle.octets.specs.Pick.{pick}
use Rattle.rival.specs.Alike.{Meeting, alike, longer, met_from, other, shorter}
use Rattle.rival.specs.declared.Said.{Said}
use Rattle.rival.specs.declared.Said.TheVariants.{Right, Differs, Short, Long}

-- One more, as far as `most`; and n, as far as `most`.
unfoldable pub one_more : ℕ → ℕ → ℕ
one_more most n = pick (ltb n most) (n + 1) most

unfoldable pub up_to : ℕ → ℕ → ℕ
up_to most n = pick (leb n most) n most

-- An octet before the first element of a list of octet lists.
abbrev pub onto : ℕ → List (List ℕ) → List (List ℕ)
onto x [] = (x ∷ []) ∷ []
onto x (l ∷ ls) = (x ∷ l) ∷ ls

-- The lines, each with its line feed (10), which ends it; the last one may lack it.
unfoldable pub lines_of : List ℕ → List (List ℕ)
lines_of [] = []
lines_of (x ∷ xs) = pick (eqb x 10) ((x ∷ []) ∷ lines_of xs) (onto x (lines_of xs))

-- A line's pieces between blanks (32). The line feed is none of them.
unfoldable pub pieces_of : List ℕ → List (List ℕ)
pieces_of [] = [] ∷ []
pieces_of (x ∷ xs) = pick (eqb x 10) ([] ∷ []) (pick (eqb x 32) ([] ∷ pieces_of xs) (onto x (pieces_of xs)))

-- "which field": number, refusal, verdict, notice, code, written, ds, state are 0 to 7. The first piece of ours that is other in the log's line, or missing
-- there; 8, the form, where none of the eight is.
abbrev pub form : ℕ
form = 8

unfoldable pub field_at : Meeting (List ℕ) → ℕ
field_at alike = form
field_at (longer k) = form
field_at (shorter k) = up_to form k
field_at (other k a b) = up_to form k

unfoldable pub field_of : List ℕ → List ℕ → ℕ
field_of a b = field_at (met_from 0 (pieces_of a) (pieces_of b))

-- An event's number is its line's, from 1; the highest number of 64 bits stays.
abbrev pub event_of : ℕ → ℕ
event_of n = up_to 18446744073709551615 n

-- "the first event that differs and which field"; "If no line differs, a log too short or too long is named as such, at the event where it ends."
unfoldable pub say_of : Meeting (List ℕ) → Said
say_of alike = Right
say_of (longer n) = Long (event_of n)
say_of (shorter n) = Short (event_of n)
say_of (other n a b) = Differs (event_of (suc n)) (field_of a b)

abbrev pub said_of : List ℕ → List ℕ → Said
said_of ours log = say_of (met_from 0 (lines_of ours) (lines_of log))
