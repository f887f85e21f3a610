-- 02, K8: "Read such files into bench records, each packet a frame with a clock step before it for whole TU passed, if any". What is written
-- for a whole capture, how many packets it has and how many are left out, and the importer's refusal.
-- Assumes nothing.
use Rattle.std.specs.Prelude.{ℕ, zero, suc, ◌+◌, ◌-◌, ◌*◌, ◌/◌, ◌%◌, Bool, true, false, not, ◌&&◌, List, [], ◌∷◌, ◌++◌, ltb, eqb, length, drop}
use Rattle.octets.specs.Pick.{pick}
use Rattle.octets.specs.Field.{octets}
use Rattle.table.specs.Input.{size_of, taken_of}
use Rattle.bench.specs.Play.{number_after}
use Rattle.bench.specs.Capture.{Packet, Walk, big_of, numbered, linked, kept_of, walk_from}
use Rattle.table.specs.declared.host.input.Taken.{Taken}
use Rattle.table.specs.declared.host.input.Taken.TheVariants.{Cut, Fault, First, Next}
use Rattle.bench.specs.declared.passed.Clock.{Clock}
use Rattle.bench.specs.declared.passed.Counts.{Counts}

-- What is written: a clock step of so many TU, or a frame.
pub data Item : Type 0 where
  step : ℕ → Item
  frame : List ℕ → Item

-- Its record: mark, kind, length, body. Kind 3 is a clock step, kind 2 a frame.
unfoldable pub head_of : ℕ → ℕ → List ℕ
head_of kind size = 0x0b ∷ 0x03 ∷ kind ∷ octets 2 size

unfoldable pub record_of : Item → List ℕ
record_of (step n) = head_of 3 2 ++ octets 2 n
record_of (frame vs) = head_of 2 (length vs) ++ vs

unfoldable pub written_of : List Item → List ℕ
written_of [] = []
written_of (i ∷ is) = record_of i ++ written_of is

-- "Longer gaps become steps of 65,535, the rest last."
unfoldable pub full_steps : ℕ → List Item → List Item
full_steps zero is = is
full_steps (suc k) is = step 65535 ∷ full_steps k is

unfoldable pub rest_of : ℕ → List Item → List Item
rest_of n is = pick (eqb n 0) is (step n ∷ is)

unfoldable pub steps_then : ℕ → List Item → List Item
steps_then n is = full_steps (n / 65535) (rest_of (n % 65535) is)

-- Two times, in microseconds: the latest seen, and that up to which clock steps were written. "(none before the first)": the first packet's
-- time is both. "Time that goes back counts as none, and the latest time seen stays the one to count from".
unfoldable pub moved_of : Clock → ℕ → Clock
moved_of c t =
    pick c.started
    (record { started = true; latest = pick (ltb c.latest t) t c.latest; since = c.since })
    (record { started = true; latest = t; since = t })

-- "whole TU passed", a TU being 1,024 microseconds; "microseconds over are carried to the next".
unfoldable pub due_of : Clock → ℕ
due_of c = (c.latest - c.since) / 1024

-- n TU were written.
unfoldable pub paid_of : Clock → ℕ → Clock
paid_of c n = record { started = c.started; latest = c.latest; since = c.since + 1024 * n }

-- "a packet left out still counts for time" and writes nothing: what it adds is in the steps before the next frame.
unfoldable pub items_from : Clock → List Packet → List Item
items_from c [] = []
items_from c (p ∷ ps) =
    pick (kept_of p)
    (steps_then (due_of (moved_of c p.time)) (frame p.octets ∷ items_from (paid_of (moved_of c p.time) (due_of (moved_of c p.time))) ps))
    (items_from (moved_of c p.time) ps)

-- "left out and counted": packets, and those left out among them. (The highest number of 64 bits stays.)
unfoldable pub counted_of : Bool → Counts → Counts
counted_of kept k = record { packets = number_after k.packets; left = pick kept k.left (number_after k.left) }

unfoldable pub counts_from : Counts → List Packet → Counts
counts_from k [] = k
counts_from k (p ∷ ps) = counts_from (counted_of (kept_of p) k) ps

-- All that comes of a capture. Refusal 0 is none.
pub record Imported : Type 0 where
  pub items : List Item
  pub counts : Counts
  pub refusal : ℕ

abbrev pub stops_at : Counts → ℕ → Imported
stops_at k refusal = record { items = []; counts = k; refusal = refusal }

-- "Refusals of the importer: 3 cut header or packet, else 1 other number, 2 other link type; earlier records stand."
unfoldable pub walked_of : Clock → Counts → Walk → Imported
walked_of c k w = record { items = items_from c w.packets; counts = counts_from k w.packets; refusal = pick w.cut 3 0 }

unfoldable pub file_of : Clock → Counts → List ℕ → Imported
file_of c k xs =
    pick (ltb (length xs) 24) (stops_at k 3)
    (pick (not (numbered xs)) (stops_at k 1)
    (pick (not (linked xs)) (stops_at k 2)
    (walked_of c k (walk_from (big_of xs) 0 (drop 24 xs)))))

-- The whole importer: nothing seen, nothing counted.
abbrev pub unstarted : Clock
unstarted = record { started = false; latest = 0; since = 0 }

abbrev pub none : Counts
none = record { packets = 0; left = 0 }

abbrev pub imported_of : List ℕ → Imported
imported_of xs = file_of unstarted none xs

-- "The installer supplies the settings record that comes first.": one such record, of a length that the bench takes, and nothing behind it.
abbrev pub is_first : Taken → Bool
is_first (First s) = true
is_first Cut = false
is_first Fault = false
is_first (Next e) = false

unfoldable pub one_settings : List ℕ → Bool
one_settings xs = is_first (taken_of xs true) && eqb (size_of xs) (length xs)

abbrev pub output_of : List ℕ → List ℕ → List ℕ
output_of settings xs = settings ++ written_of (imported_of xs).items
