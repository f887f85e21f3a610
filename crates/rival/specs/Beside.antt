-- The comparison octet by octet, of two lists of which more may follow.
-- Assumes nothing.
use Rattle.std.specs.Prelude.{ℕ, suc, true, false, List, [], ◌∷◌, eqb}
use Rattle.octets.specs.Pick.{pick}
use Rattle.rival.specs.Log.{form, one_more}
use Rattle.rival.specs.declared.Passed.{Passed}
use Rattle.rival.specs.declared.Said.{Said}
use Rattle.rival.specs.declared.Said.TheVariants.{Right, Differs, Short, Long}
use Rattle.rival.specs.declared.Standing.{Standing}

-- No octet yet.
unfoldable pub standing_at_first : Standing
standing_at_first = record { lines = 0; field = 0; inside = false; apart = false }

abbrev pub next_line : ℕ → ℕ
next_line n = one_more 18446744073709551615 n

-- Two octets that differ, in that field of our line, or an end, which is as a line feed: the field in which the two lines differ. Behind our last piece only the form is left;
-- where the log's line ends behind a whole piece, the next one is missing.
unfoldable pub other_field : ℕ → ℕ → ℕ → ℕ
other_field f x y =
    pick (eqb x 10) (pick (eqb y 10) form (pick (eqb y 32) form f))
    (pick (eqb y 10) (pick (eqb x 32) (one_more form f) f) f)

unfoldable pub field_after : ℕ → ℕ → ℕ
field_after f x = pick (eqb x 32) (one_more form f) f

-- An octet of each.
unfoldable pub beside_of : Standing → ℕ → ℕ → Standing
beside_of s x y =
    pick (eqb x y)
    (pick (eqb x 10)
    (record { lines = next_line s.lines; field = 0; inside = false; apart = false })
    (record { lines = s.lines; field = field_after s.field x; inside = true; apart = false }))
    (record { lines = s.lines; field = other_field s.field x y; inside = s.inside; apart = true })

-- One octet more was taken.
abbrev pub and_one : Passed → Passed
and_one p = record { standing = p.standing; taken = suc p.taken }

-- As many as both have, to the first two that differ.
unfoldable pub compared_of : Standing → List ℕ → List ℕ → Passed
compared_of s [] ys = record { standing = s; taken = 0 }
compared_of s (x ∷ xs) [] = record { standing = s; taken = 0 }
compared_of s (x ∷ xs) (y ∷ ys) = pick s.apart (record { standing = s; taken = 0 }) (and_one (compared_of (beside_of s x y) xs ys))

-- The two came apart in that field; or one of them has ended, and the other, where it goes on, does so in a line that both began, or in a new one.
abbrev pub differs_in : Standing → ℕ → Said
differs_in s f = Differs (next_line s.lines) f

unfoldable pub alone_of : Standing → ℕ → Said → Said
alone_of s f new = pick s.inside (differs_in s f) new

abbrev pub ended_of : Standing → ℕ → Said → Said
ended_of s f new = pick s.apart (differs_in s s.field) (alone_of s f new)

unfoldable pub said_by : Standing → List ℕ → List ℕ → Said
said_by s [] [] = pick s.apart (differs_in s s.field) Right
said_by s [] (y ∷ ys) = ended_of s (other_field s.field 10 y) (Long s.lines)
said_by s (x ∷ xs) [] = ended_of s (other_field s.field x 10) (Short s.lines)
said_by s (x ∷ xs) (y ∷ ys) = pick s.apart (differs_in s s.field) (said_by (beside_of s x y) xs ys)
