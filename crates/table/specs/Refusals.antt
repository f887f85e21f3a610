-- 01, "Refusal numbers": "First that applies".
-- Assumes nothing.
use Rattle.std.specs.Prelude.{ℕ, Bool, List, [], ◌∷◌, eqb}
use Rattle.octets.specs.Pick.{pick}
use Rattle.peer.specs.declared.record.Record.{Record}
use Rattle.table.specs.Answer.{refused_of}
use Rattle.table.specs.declared.rules.answer.Met.{Met}

-- The number of the first condition that holds, of a list of numbers and conditions; "0 means done".
unfoldable pub first_of : List (ℕ × Bool) → ℕ
first_of [] = 0
first_of (r ∷ rest) = pick r.1 r.0 (first_of rest)

-- What an event gives, by its refusal.
unfoldable pub unless : ℕ → List Record → Met → Met
unless n t m = pick (eqb n 0) m (refused_of t n)
