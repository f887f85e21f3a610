-- What the laws of the importer speak of: packets kept and left out, the latest time, and the frames and clock steps among what is written.
-- Assumes nothing.
use Rattle.std.specs.Prelude.{ℕ, suc, ◌+◌, List, [], ◌∷◌, ltb}
use Rattle.octets.specs.Pick.{pick}
use Rattle.bench.specs.Capture.{Packet, kept_of}
use Rattle.bench.specs.Import.{Item, step, frame}

-- The octets of the packets that are kept, in order; how many are left out.
unfoldable pub kept_in : List Packet → List (List ℕ)
kept_in [] = []
kept_in (p ∷ ps) = pick (kept_of p) (p.octets ∷ kept_in ps) (kept_in ps)

unfoldable pub left_in : List Packet → ℕ
left_in [] = 0
left_in (p ∷ ps) = pick (kept_of p) (left_in ps) (suc (left_in ps))

-- The latest time seen, of t and those of packets.
unfoldable pub latest_from : ℕ → List Packet → ℕ
latest_from t [] = t
latest_from t (p ∷ ps) = latest_from (pick (ltb t p.time) p.time t) ps

-- The frames among what is written, in order; the TU of all clock steps.
unfoldable pub frames_in : List Item → List (List ℕ)
frames_in [] = []
frames_in (step n ∷ is) = frames_in is
frames_in (frame vs ∷ is) = vs ∷ frames_in is

unfoldable pub steps_in : List Item → ℕ
steps_in [] = 0
steps_in (step n ∷ is) = n + steps_in is
steps_in (frame vs ∷ is) = steps_in is
