-- 01: "For each, in rising place, 8 bytes: place, kind (1 authentication, 2 association, 3 reassociation), address."
-- Assumes nothing.
use Rattle.std.specs.Prelude.{ℕ, ◌+◌, List, ◌∷◌, leb, length}
use Rattle.std.proofs.lemmas.List.Edits.{sets}
use Rattle.octets.specs.Pick.{pick}
use Rattle.octets.specs.Field.{octets}

unfoldable pub report_bytes : ℕ → ℕ → ℕ → List ℕ
report_bytes place kind address = place ∷ kind ∷ octets 6 address

-- The buffer after a report is written at a position; where it does not fit, as it was.
unfoldable pub report_written : List ℕ → ℕ → ℕ → ℕ → ℕ → List ℕ
report_written l at place kind address = pick (leb (at + 8) (length l)) (sets l at (report_bytes place kind address)) l
