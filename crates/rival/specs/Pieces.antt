-- Both streams in pieces: what the calls of `compare` lead to, whichever piece of ours or of the log comes next, and however long it is.
-- Assumes nothing.
use Rattle.std.specs.Prelude.{ℕ, Bool, true, false, ◌&&◌, not, List, [], ◌∷◌, ◌++◌, ◌≡◌, drop}
use Rattle.octets.specs.Pick.{pick}
use Rattle.rival.specs.Beside.{compared_of, standing_at_first}
use Rattle.rival.specs.declared.Passed.{Passed}
use Rattle.rival.specs.declared.Standing.{Standing}

-- The standing s behind calls in which `ours` and `log` came in, of which p and q are still to be compared.
pub data Went : Standing → List ℕ → List ℕ → List ℕ → List ℕ → Type 0 where
  begun : Went standing_at_first [] [] [] []
  ours_came : {s : Standing} {p q ours log : List ℕ} (xs : List ℕ) → Went s p q ours log → Went s (p ++ xs) q (ours ++ xs) log
  log_came : {s : Standing} {p q ours log : List ℕ} (ys : List ℕ) → Went s p q ours log → Went s p (q ++ ys) ours (log ++ ys)
  -- what `compare` promises of its result
  compared : {s : Standing} {p q ours log : List ℕ} {r : Passed} → Went s p q ours log → r ≡ compared_of s p q →
      Went r.standing (drop r.taken p) (drop r.taken q) ours log

abbrev pub is_none : List ℕ → Bool
is_none [] = true
is_none (x ∷ xs) = false

-- One of the two is at its end and the other goes on, or both are at their ends: `none` is left of ours and, where it is `done`, nothing more comes of it;
-- the same of the log, `empty` and `over`.
abbrev pub ends_of : Bool → Bool → Bool → Bool → Bool
ends_of none true empty true = true
ends_of none true empty false = none && not empty
ends_of none false empty true = empty && not none
ends_of none false empty false = false

-- Nothing that may follow changes what is said: the two came apart, or it is so.
unfoldable pub settled_of : Standing → Bool → Bool → Bool → Bool → Bool
settled_of s none done empty over = pick s.apart true (ends_of none done empty over)
