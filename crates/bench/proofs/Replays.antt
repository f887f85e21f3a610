-- The bench takes every record that was imported: each one, read back, is the clock step or the frame that was meant, and none is a fault.
-- Assumes nothing.
use Prim.Native.Nat.{ℕ, zero, suc, ◌+◌, ◌-◌, ◌*◌, ◌/◌, ◌%◌, ◌≤◌, ◌<◌}
use mathlib.Core.Path.{◌≡◌, refl}
use mathlib.Core.Bool.{true, false, not}
use mathlib.Core.List.{List, [], ◌∷◌, ◌++◌}
use native.Mathlib.Omega.{arith}
use lib.Dec.{ltb, leb, eqb}
use lib.ListN.{length, take, drop, length-append, length-drop}
use lib.Seq.{take-append-le, take-append_seam, drop-append-le, drop-append_seam}
use borrow.Author.Tests.{le-ltb, le-leb, eqb-true}
use Rattle.octets.specs.Field.{field, octets}
use Rattle.octets.proofs.Branch.{and_left, and_right, pick_both, pick_by}
use Rattle.table.specs.declared.rules.event.Event.{Event}
use Rattle.table.specs.declared.rules.event.Event.TheVariants.{Frame, Clock as Tick}
use Rattle.bench.specs.Capture.{Packet, kept_of, big_of, numbered, linked, walk_from}
use Rattle.bench.specs.Import.{Item, Imported, step, frame, head_of, record_of, written_of, full_steps, rest_of, steps_then, moved_of, due_of, paid_of, items_from, walked_of, file_of, imported_of, unstarted, none, is_first, one_settings}
use Rattle.table.specs.Input.{marked, length_allowed, miscounted, event_at, size_of, body_of, taken_of}
use Rattle.bench.specs.declared.passed.Clock.{Clock}
use Rattle.bench.specs.declared.passed.Counts.{Counts}
use Rattle.table.specs.declared.host.input.Taken.TheVariants.{Next}
use Rattle.bench.proofs.Fronts.{kept_short}
use Rattle.bench.proofs.Packets.{field_more}

-- The event that is meant, and its octets.
abbrev pub event_of : Item → Event
event_of (step n) = Tick n
event_of (frame vs) = Frame

abbrev pub body_in : Item → List ℕ
body_in (step n) = octets 2 n
body_in (frame vs) = vs

-- Reading a list of records is to meet these events, one after the other, up to the end.
pub data Plays : List ℕ → List Item → Type 0 where
  end : Plays [] []
  next : (xs : List ℕ) (i : Item) {is : List Item} → taken_of xs false ≡ Next (event_of i) → body_of xs ≡ body_in i → Plays (drop (size_of xs) xs) is → Plays xs (i ∷ is)

-- what fits into a record
abbrev Fits : Item → Type 0
Fits (step n) = n < 65536
Fits (frame vs) = length vs ≤ 4096

data AllFit : List Item → Type 0 where
  none_left : AllFit []
  more : {i : Item} {is : List Item} → Fits i → AllFit is → AllFit (i ∷ is)

-- a number of two octets
two : (n : ℕ) → n < 65536 → n % 256 + 256 * (n / 256 % 256 + 256 * 0) ≡ n
two n h = omega arith

step_taken : (n : ℕ) (rest : List ℕ) → n < 65536 → taken_of (record_of (step n) ++ rest) false ≡ Next (Tick n)
unfolding taken_of marked length_allowed miscounted event_at record_of head_of octets
step_taken n rest h =
    let a : ltb (length (record_of (step n) ++ rest)) 5 ≡ false = le-ltb (length (record_of (step n) ++ rest)) 5 (omega arith) in
    let b : ltb (length (record_of (step n) ++ rest) - 5) 2 ≡ false = le-ltb (length (record_of (step n) ++ rest) - 5) 2 (omega arith) in
    rw (a, b, two n h)

frame_taken : (vs rest : List ℕ) → length vs ≤ 4096 → taken_of (record_of (frame vs) ++ rest) false ≡ Next Frame
unfolding taken_of marked length_allowed miscounted event_at record_of head_of octets
frame_taken vs rest h =
    let l = length-append vs rest in
    let a : ltb (length (record_of (frame vs) ++ rest)) 5 ≡ false = le-ltb (length (record_of (frame vs) ++ rest)) 5 (omega arith) in
    let b : ltb (length (record_of (frame vs) ++ rest) - 5) (length vs) ≡ false = le-ltb (length (record_of (frame vs) ++ rest) - 5) (length vs) (omega arith) in
    rw (a, two (length vs) (omega arith), le-leb (length vs) 4096 h, b)

step_body : (n : ℕ) (rest : List ℕ) → body_of (record_of (step n) ++ rest) ≡ octets 2 n
unfolding body_of record_of head_of octets
step_body n rest =
    let a : leb 7 (length (record_of (step n) ++ rest)) ≡ true = le-leb 7 (length (record_of (step n) ++ rest)) (omega arith) in
    rw a

frame_body : (vs rest : List ℕ) → length vs ≤ 4096 → body_of (record_of (frame vs) ++ rest) ≡ vs
unfolding body_of record_of head_of octets
frame_body vs rest h =
    let l = length-append vs rest in
    let a : leb (length vs + 5) (length (record_of (frame vs) ++ rest)) ≡ true = le-leb (length vs + 5) (length (record_of (frame vs) ++ rest)) (omega arith) in
    rw (two (length vs) (omega arith), a) (take-append_seam vs rest)

size_is : (i : Item) (rest : List ℕ) → Fits i → size_of (record_of i ++ rest) ≡ length (record_of i)
unfolding record_of head_of octets
size_is (step n) rest h = refl
size_is (frame vs) rest h = rw (two (length vs) (omega arith)) (omega arith)

item_taken : (i : Item) (rest : List ℕ) → Fits i → taken_of (record_of i ++ rest) false ≡ Next (event_of i)
item_taken (step n) rest h = step_taken n rest h
item_taken (frame vs) rest h = frame_taken vs rest h

item_body : (i : Item) (rest : List ℕ) → Fits i → body_of (record_of i ++ rest) ≡ body_in i
item_body (step n) rest h = step_body n rest
item_body (frame vs) rest h = frame_body vs rest h

plays : {is : List Item} → AllFit is → Plays (written_of is) is
unfolding written_of
plays none_left = end
plays (more {i} {is} f fs) =
    let d : drop (size_of (record_of i ++ written_of is)) (record_of i ++ written_of is) ≡ written_of is = rw (size_is i (written_of is) f) (drop-append_seam (record_of i) (written_of is)) in
    next (record_of i ++ written_of is) i {is = is} (item_taken i (written_of is) f) (item_body i (written_of is) f) (rw d (plays fs))

-- all that is imported fits
full_fit : (k : ℕ) {is : List Item} → AllFit is → AllFit (full_steps k is)
unfolding full_steps
full_fit zero f = f
full_fit (suc k) f = let h : 65535 < 65536 = omega arith in more {i = step 65535} h (full_fit k f)

steps_fit : (n : ℕ) {is : List Item} → AllFit is → AllFit (steps_then n is)
unfolding steps_then rest_of
steps_fit n {is} f = full_fit (n / 65535) (pick_both AllFit (eqb (n % 65535) 0) f (more {i = step (n % 65535)} (omega arith) f))

items_fit : (c : Clock) (ps : List Packet) → AllFit (items_from c ps)
unfolding items_from
items_fit c [] = none_left
items_fit c (p ∷ ps) =
    let m = moved_of c p.time in
    pick_by AllFit (kept_of p)
    (λ h. steps_fit (due_of m) (more {i = frame p.octets} (kept_short (length p.octets) p.original h) (items_fit (paid_of m (due_of m)) ps)))
    (λ h. items_fit m ps)

file_fit : (c : Clock) (k : Counts) (xs : List ℕ) → AllFit (file_of c k xs).items
unfolding file_of walked_of
file_fit c k xs =
    pick_both fit (ltb (length xs) 24) none_left (pick_both fit (not (numbered xs)) none_left (pick_both fit (not (linked xs)) none_left (items_fit c (walk_from (big_of xs) 0 (drop 24 xs)).packets)))
  where
    fit : Imported → Type 0
    fit m = AllFit m.items

-- THE STATEMENT: whatever the capture, the bench reads every record that comes of it.
pub imported_plays : (xs : List ℕ) → Plays (written_of (imported_of xs).items) (imported_of xs).items
imported_plays xs = plays (file_fit unstarted none xs)

-- And the settings record before them: what the importer takes for one is taken, whatever follows, and what follows is read next.
module _ (s rest : List ℕ) (e : size_of s ≡ length s) where
  settings_body : body_of (s ++ rest) ≡ body_of s
  unfolding body_of
  settings_body =
      let l = length-append s rest in
      let f : field 2 3 (s ++ rest) ≡ field 2 3 s = field_more 2 3 s rest (omega (arith, e)) in
      let d : drop 5 (s ++ rest) ≡ drop 5 s ++ rest = drop-append-le 5 s rest (omega (arith, e)) in
      let t : take (field 2 3 s) (drop 5 s ++ rest) ≡ take (field 2 3 s) (drop 5 s) = take-append-le (field 2 3 s) (drop 5 s) rest (omega (arith, e, length-drop 5 s)) in
      rw (f, d, t, le-leb (size_of s) (length (s ++ rest)) (omega (arith, e)), le-leb (size_of s) (length s) (omega (arith, e)))

  settings_taken : taken_of (s ++ rest) true ≡ taken_of s true
  unfolding taken_of marked
  settings_taken =
      let l = length-append s rest in
      let f : field 2 3 (s ++ rest) ≡ field 2 3 s = field_more 2 3 s rest (omega (arith, e)) in
      let g : field 1 2 (s ++ rest) ≡ field 1 2 s = field_more 1 2 s rest (omega (arith, e)) in
      let h : field 2 0 (s ++ rest) ≡ field 2 0 s = field_more 2 0 s rest (omega (arith, e)) in
      rw (settings_body, h, g, f, le-ltb (length (s ++ rest)) 5 (omega (arith, e)), le-ltb (length s) 5 (omega (arith, e)), le-ltb (length (s ++ rest) - 5) (field 2 3 s) (omega (arith, e)), le-ltb (length s - 5) (field 2 3 s) (omega (arith, e)))

  settings_passed : drop (size_of (s ++ rest)) (s ++ rest) ≡ rest
  settings_passed =
      let f : field 2 3 (s ++ rest) ≡ field 2 3 s = field_more 2 3 s rest (omega (arith, e)) in
      rw (f, e) (drop-append_seam s rest)

pub settings_first : (s rest : List ℕ) → one_settings s ≡ true → (taken_of (s ++ rest) true ≡ taken_of s true) × (is_first (taken_of s true) ≡ true) × (drop (size_of (s ++ rest)) (s ++ rest) ≡ rest)
unfolding one_settings
settings_first s rest h =
    let e : size_of s ≡ length s = eqb-true (size_of s) (length s) (and_right (is_first (taken_of s true)) (eqb (size_of s) (length s)) h) in
    (settings_taken s rest e, and_left (is_first (taken_of s true)) (eqb (size_of s) (length s)) h, settings_passed s rest e)
