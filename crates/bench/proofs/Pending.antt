-- Where there is room for all lines, what is pending is what was pending before and then the lines; and an event asks for 6,912 octets.
-- Assumes nothing.
use Prim.Native.Nat.{ℕ, ◌+◌, ◌*◌, ◌≤◌}
use mathlib.Core.Path.{◌≡◌, sym, ap, ◌∙◌}
use mathlib.Core.List.{List, [], ◌∷◌, ◌++◌, append_assoc, append-nil}
use native.Mathlib.Omega.{arith}
use lib.Dec.{ltb, eqb}
use lib.ListN.{length, take, drop, length-append, length-drop}
use lib.Seq.{length-take-le, take_at}
use borrow.Author.Tests.{le-leb, ltb-false}
use Rattle.octets.proofs.Branch.{pick_by}
use Rattle.octets.specs.Links.{no_links}
use Rattle.peer.specs.Record.{is_free}
use Rattle.peer.specs.declared.record.Record.{Record}
use Rattle.table.specs.Why.{reason_number, why_of}
use Rattle.table.specs.declared.rules.answer.Answer.{Answer}
use Rattle.table.specs.declared.rules.event.Event.{Event}
use Rattle.table.specs.declared.rules.why.Why.{Why}
use Rattle.bench.specs.Changes.{because_line, because_lines, changed_lines, changes_lines, free_line, moved_lines, same_record}
use Rattle.bench.specs.Line.{line_of, stop_line}
use Rattle.bench.specs.Output.{Output, Line, up_to, put_of, put_all, pending, said, room_for, short}
use Rattle.bench.specs.Play.{number_after}
use Rattle.bench.specs.Printed.{shown_by}
use Rattle.bench.specs.Run.{played_of, scratch_of, event_lines, event_output}
use Rattle.bench.specs.Trace.{current_lines, has_query, links_line, links_lines, octets_lines, place_line, place_lines, query_line, query_lines, table_lines, trace_lines}
use Rattle.bench.specs.declared.run.Prints.TheVariants as prints
use Rattle.bench.specs.declared.run.Prints.{Prints}
use Rattle.bench.specs.declared.run.Run.{Run}
use Rattle.bench.proofs.Counting.{facts_short}
use Rattle.bench.proofs.Lines.{front_length, back_length, why_length, because_length, free_length}
use Rattle.bench.proofs.TraceLines.{octets_line_length, current_line_length, name_length, times_length, query_name_length, query_times_length, links_line_length}

-- No line is longer than the room that it asks for.
pub data Fitting : List Line → Type 0 where
  none : Fitting []
  next : {v : Line} {vs : List Line} → length v.text ≤ v.room → Fitting vs → Fitting (v ∷ vs)

module _ (v : Line) (o : Output) (f : length v.text ≤ v.room) (h : o.filled + v.room ≤ length o.octets) where
  put_is : put_of v o ≡ up_to (take o.filled o.octets ++ v.text ++ drop (o.filled + length v.text) o.octets) (o.filled + length v.text)
  unfolding put_of
  put_is = rw (le-leb (o.filled + v.room) (length o.octets) h)

  front_long : length (take o.filled o.octets ++ v.text) ≡ o.filled + length v.text
  front_long =
      let t : length (take o.filled o.octets) ≡ o.filled = length-take-le o.filled o.octets (omega arith) in
      simp length-append (omega arith)

  put_pending : pending (put_of v o) ≡ pending o ++ v.text
  put_pending =
      ap pending put_is ∙ take_at (take o.filled o.octets ++ v.text) (drop (o.filled + length v.text) o.octets) (o.filled + length v.text) front_long

  pub put_filled : (put_of v o).filled ≡ o.filled + length v.text
  put_filled = ap (λ (p : Output). p.filled) put_is

  put_length : length (put_of v o).octets ≡ length o.octets
  put_length =
      ap (λ (p : Output). length p.octets) put_is ∙
      (length-append (take o.filled o.octets ++ v.text) (drop (o.filled + length v.text) o.octets) ∙
      omega (arith, front_long, length-drop (o.filled + length v.text) o.octets))

pub pending_all : (vs : List Line) (o : Output) → Fitting vs → o.filled + room_for vs ≤ length o.octets → pending (put_all vs o) ≡ pending o ++ said vs
unfolding put_all said room_for
pending_all [] o none h = sym (append-nil (pending o))
pending_all (v ∷ vs) o (next f g) h =
    let a : o.filled + v.room ≤ length o.octets = omega arith in
    let b : (put_of v o).filled + room_for vs ≤ length (put_of v o).octets = omega (arith, put_filled v o f a, put_length v o f a) in
    pending_all vs (put_of v o) g b ∙ (ap (λ (l : List ℕ). l ++ said vs) (put_pending v o f a) ∙ append_assoc (pending o) v.text (said vs))

-- the same of lists of lines, one behind the other
fitting_append : {vs ws : List Line} → Fitting vs → Fitting ws → Fitting (vs ++ ws)
fitting_append none g = g
fitting_append (next f h) g = next f (fitting_append h g)

room_append : (vs ws : List Line) → room_for (vs ++ ws) ≡ room_for vs + room_for ws
unfolding room_for
room_append [] ws = omega arith
room_append (v ∷ vs) ws = let e = room_append vs ws in omega arith

-- Lines that fit, and ask for n octets at most.
pub record Within (n : ℕ) (vs : List Line) : Type 0 where
  pub fits : Fitting vs
  pub asks : room_for vs ≤ n

no_line : {n : ℕ} → Within n []
unfolding room_for
no_line = record { fits = none; asks = omega arith }

one_line : {n : ℕ} (v : Line) → length v.text ≤ v.room → v.room ≤ n → Within n (v ∷ [])
unfolding room_for
one_line v f h = record { fits = next f none; asks = omega arith }

both : {m n : ℕ} {vs ws : List Line} → Within m vs → Within n ws → Within (m + n) (vs ++ ws)
both {m} {n} {vs} {ws} p q = record { fits = fitting_append p.fits q.fits; asks = omega (arith, room_append vs ws, p.asks, q.asks) }

octets_within : (n : ℕ) (s : List ℕ) → length s ≡ 256 → Within 576 (octets_lines n s)
unfolding octets_lines
octets_within n s h =
    pick_by (Within 576) (eqb n 0) (λ e. no_line)
    (λ e. pick_by (Within 576) (ltb 256 n) (λ f. no_line)
    (λ f. let t : length (take n s) ≡ n = length-take-le n s (omega (arith, ltb-false 256 n f)) in
    one_line _ (octets_line_length (take n s)) (omega (arith, ltb-false 256 n f))))

current_within : (a : Answer) → Within 64 (current_lines a)
unfolding current_lines
current_within a = pick_by (Within 64) (eqb a.notice 7) (λ e. one_line _ (current_line_length a.current) (omega arith)) (λ e. no_line)

place_length : (i : ℕ) (p : Record) → length (place_line i p) ≤ 64
unfolding place_line
place_length i p = simp length-append (omega (arith, name_length i p, times_length p))

query_length : (i : ℕ) (p : Record) → length (query_line i p) ≤ 64
unfolding query_line
query_length i p = simp length-append (omega (arith, query_name_length i p, query_times_length p))

query_within : (i : ℕ) (p : Record) → Within 64 (query_lines i p)
unfolding query_lines
query_within i p = pick_by (Within 64) (has_query p) (λ e. one_line _ (query_length i p) (omega arith)) (λ e. no_line)

links_within : (i : ℕ) (p : Record) → Within 64 (links_lines i p)
unfolding links_lines
links_within i p = pick_by (Within 64) (no_links p.links) (λ e. no_line) (λ e. one_line (short (links_line i p)) (links_line_length i p) (omega arith))

place_within : (i : ℕ) (p : Record) → Within 192 (place_lines i p)
unfolding place_lines
place_within i p =
    pick_by (Within 192) (is_free p) (λ e. no_line)
    (λ e. both {m = 64} (one_line (short (place_line i p)) (place_length i p) (omega arith)) (both {m = 64} (links_within i p) (query_within i p)))

table_within : (i : ℕ) (t : List Record) → Within (192 * length t) (table_lines i t)
unfolding table_lines
table_within i [] = no_line
table_within i (p ∷ t) =
    let w = both (place_within i p) (table_within (i + 1) t) in
    record { fits = w.fits; asks = omega (arith, w.asks) }

line_length : (n : ℕ) (a : Answer) → length (line_of n a) ≤ 64
unfolding line_of
line_length n a = simp length-append (omega (arith, front_length n a, back_length a))

trace_within : (a : Answer) (s : List ℕ) (t : List Record) → length s ≡ 256 → length t ≡ 32 → Within 6784 (trace_lines a s t)
unfolding trace_lines
trace_within a s t h g =
    let w = both (both (octets_within a.written s h) (current_within a)) (table_within 0 t) in
    record { fits = w.fits; asks = omega (arith, w.asks) }

because_within : (w : Why) → Within 64 (because_lines w)
unfolding because_lines
because_within w =
    pick_by (Within 64) (eqb (reason_number w.reason) 0) (λ e. no_line) (λ e. one_line (short (because_line w)) (because_length w.reason w.value) (omega arith))

moved_within : (i : ℕ) (p q : Record) → Within 192 (moved_lines i p q)
unfolding moved_lines
moved_within i p q =
    pick_by (Within 192) (same_record p q) (λ e. no_line)
    (λ e. pick_by (Within 192) (is_free q) (λ f. one_line (short (free_line i)) (free_length i) (omega arith)) (λ f. place_within i q))

changed_within : (i : ℕ) (t u : List Record) → Within (192 * length u) (changed_lines i t u)
unfolding changed_lines
changed_within i [] u = no_line
changed_within i (p ∷ t) [] = no_line
changed_within i (p ∷ t) (q ∷ u) =
    let w = both (moved_within i p q) (changed_within (i + 1) t u) in
    record { fits = w.fits; asks = omega (arith, w.asks) }

changes_within : (a : Answer) (s : List ℕ) (w : Why) (t u : List Record) → length s ≡ 256 → length u ≡ 32 → Within 6848 (changes_lines a s w t u)
unfolding changes_lines
changes_within a s w t u h g =
    let v = both (both (both (octets_within a.written s h) (current_within a)) (because_within w)) (changed_within 0 t u) in
    record { fits = v.fits; asks = omega (arith, v.asks) }

-- An event of a table of 32 records.
module _ (r : Run) (t : List Record) (e : Event) (xs : List ℕ) (h : length (scratch_of r t e xs) ≡ 256) (g : length (played_of r t e xs).table ≡ 32) where
  shown_within : (way : Prints) → Within 6912 (shown_by way (number_after r.number) r.settings t e xs)
  unfolding shown_by
  shown_within prints.Lines = one_line _ (line_length (number_after r.number) (played_of r t e xs).answer) (omega arith)
  shown_within prints.Trace =
      let w = both {m = 64} (one_line _ (line_length (number_after r.number) (played_of r t e xs).answer) (omega arith))
      (trace_within (played_of r t e xs).answer (scratch_of r t e xs) (played_of r t e xs).table h g) in
      record { fits = w.fits; asks = omega (arith, w.asks) }
  shown_within prints.Changes =
      both {m = 64} (one_line _ (line_length (number_after r.number) (played_of r t e xs).answer) (omega arith))
      (changes_within (played_of r t e xs).answer (scratch_of r t e xs) (why_of r.settings t e xs 256) t (played_of r t e xs).table h g)
  shown_within prints.Why = one_line _ (why_length (number_after r.number) (why_of r.settings t e xs 256)) (omega arith)
  shown_within prints.Facts = one_line _ (facts_short _ _ _ _ _) (omega arith)

  pub event_within : Within 6912 (event_lines r t e xs)
  unfolding event_lines
  event_within = shown_within r.prints

  -- What an event adds to the octets to be written out: its lines, whole.
  pub event_pending : (l : List ℕ) → r.out + 6912 ≤ length l → pending (event_output r t e xs l) ≡ take r.out l ++ said (event_lines r t e xs)
  unfolding event_output
  event_pending l k = let w = event_within in pending_all (event_lines r t e xs) (up_to l r.out) w.fits (omega (arith, w.asks))

-- The line `stop` behind what is there.
pub stop_pending : (l : List ℕ) (n : ℕ) → n + 64 ≤ length l → pending (put_of (short stop_line) (up_to l n)) ≡ take n l ++ stop_line
stop_pending l n h = put_pending (short stop_line) (up_to l n) (omega arith) h
