-- What is meant by each of the four lines that `bench check` prints, said of whole lines. 02, K13. proofs/Exact.antt proves that each is said exactly where it holds.
-- Assumes nothing.
use Rattle.std.specs.Prelude.{ℕ, suc, ◌<◌, ◌≤◌, List, [], ◌≡◌, length, get_or, take}
use Rattle.rival.specs.Log.{event_of, form, lines_of, pieces_of}
use Rattle.rival.specs.declared.Said.{Said}
use Rattle.rival.specs.declared.Said.TheVariants.{Right, Differs, Short, Long}

-- The first n of both are alike, both have one more, and these two are not alike.
pub record Parted (p q : List (List ℕ)) (n : ℕ) : Type 0 where
  pub ours : n < length p
  pub theirs : n < length q
  pub before : take n p ≡ take n q
  pub differ : get_or p n [] ≡ get_or q n [] → ⊥

-- p has n, the first n of q, and q goes on.
pub record Longer (p q : List (List ℕ)) (n : ℕ) : Type 0 where
  pub has : length p ≡ n
  pub goes_on : n < length q
  pub begins : take n q ≡ p

-- "which field": of the pieces p of our line and q of the log's, piece k is the first that is other there, or missing; or none of the first eight is, and
-- the lines differ in their form.
pub data Field (p q : List (List ℕ)) : ℕ → Type 0 where
  piece : {k : ℕ} → k < form → k < length p → take k p ≡ take k q → (k < length q → get_or p k [] ≡ get_or q k [] → ⊥) → Field p q k
  whole : ((k : ℕ) → k ≤ form → k ≤ length p → take k p ≡ take k q) → Field p q form

-- "the first event that differs and which field": the lines before it are alike.
pub record Differing (ours log : List ℕ) (event f : ℕ) : Type 0 where
  pub lines : ℕ
  pub named : event ≡ event_of (suc lines)
  pub parted : Parted (lines_of ours) (lines_of log) lines
  pub field : Field (pieces_of (get_or (lines_of ours) lines [])) (pieces_of (get_or (lines_of log) lines [])) f

-- "If no line differs, a log too short or too long is named as such, at the event where it ends": the last event that both have.
pub record Ending (p q : List (List ℕ)) (event : ℕ) : Type 0 where
  pub lines : ℕ
  pub named : event ≡ event_of lines
  pub longer : Longer p q lines

-- "All lines right is said exactly when the log is the bench program's output."
abbrev pub Says : List ℕ → List ℕ → Said → Type 0
Says ours log Right = log ≡ ours
Says ours log (Differs event f) = Differing ours log event f
Says ours log (Short event) = Ending (lines_of log) (lines_of ours) event
Says ours log (Long event) = Ending (lines_of ours) (lines_of log) event
