-- One turn of the importer, whatever follows: what it writes, and then what is still to come of the octets that it left, is what was to come.
-- Assumes nothing.
use Prim.Native.Nat.{ℕ, ◌+◌, ◌-◌, ◌≤◌, ◌<◌}
use mathlib.Core.Path.{◌≡◌, refl, sym, ap, ◌∙◌}
use mathlib.Core.Bool.{Bool, true, false}
use mathlib.Core.List.{List, [], ◌∷◌, ◌++◌}
use native.Mathlib.Omega.{arith}
use lib.Dec.{ltb, leb}
use lib.ListN.{length, take, drop, length-append, length-drop}
use lib.Seq.{drop-append-le, drop-append-add, drop-length, drop-drop}
use borrow.Author.Tests.{lt-ltb, le-ltb, le-leb, lt-leb, ltb-true, ltb-false, leb-true, leb-false}
use Rattle.octets.specs.Pick.{pick}
use Rattle.octets.proofs.Branch.{by_bool}
use Rattle.bench.specs.Capture.{Packet, Walk, behind, captured_at, ended, keeps_of, kept_of, linked, numbered, original_at, packet_at, time_at, walk_from, whole_at}
use Rattle.bench.specs.Import.{step, frame, steps_then, moved_of, due_of, paid_of, items_from, counted_of, counts_from, stops_at, walked_of, file_of}
use Rattle.bench.specs.Importer.{Front, before, coming_from, state_of, head_front, kept_front, between_front, passing_front, front_at, turn_of}
use Rattle.bench.specs.declared.passed.Clock.{Clock}
use Rattle.bench.specs.declared.passed.Counts.{Counts}
use Rattle.bench.specs.declared.importer.Stage.{Stage}
use Rattle.bench.specs.declared.importer.Stage.TheVariants.{Head, Between, Passing, Over}
use Rattle.bench.specs.declared.importer.State.{State}
use Rattle.bench.proofs.Packets.{big_more, numbered_more, linked_more, time_more, captured_more, original_more, whole_fits, fits_whole, not_whole, octets_length, packet_more, skip, walk_whole, walk_cut}
use Rattle.bench.proofs.Gaps.{steps_append, steps_few, steps_many, moved_again, due_less, paid_twice}

-- A packet at the front: left out, or kept.
module _ (c : Clock) (k : Counts) (p : Packet) (w : Walk) where
  counts_by : (kept : Bool) → kept_of p ≡ kept → counts_from k (p ∷ w.packets) ≡ counts_from (counted_of kept k) w.packets
  unfolding counts_from
  counts_by kept h = rw h

  items_left : kept_of p ≡ false → items_from c (p ∷ w.packets) ≡ items_from (moved_of c p.time) w.packets
  unfolding items_from
  items_left h = rw h

  items_kept : kept_of p ≡ true →
      items_from c (p ∷ w.packets) ≡ steps_then (due_of (moved_of c p.time)) (frame p.octets ∷ []) ++ items_from (paid_of (moved_of c p.time) (due_of (moved_of c p.time))) w.packets
  unfolding items_from
  items_kept h =
      let m = moved_of c p.time in
      rw h (steps_append (due_of m) (frame p.octets ∷ []) (items_from (paid_of m (due_of m)) w.packets))

  walked_left : kept_of p ≡ false → walked_of c k (behind p w) ≡ walked_of (moved_of c p.time) (counted_of false k) w
  unfolding walked_of
  walked_left h = rw (items_left h, counts_by false h)

  walked_kept : kept_of p ≡ true →
      walked_of c k (behind p w) ≡
      before (steps_then (due_of (moved_of c p.time)) (frame p.octets ∷ [])) (walked_of (paid_of (moved_of c p.time) (due_of (moved_of c p.time))) (counted_of true k) w)
  unfolding walked_of
  walked_kept h = rw (items_kept h, counts_by true h)

-- Over 65,535 TU due: a step of them, and the same packet again.
walked_owing : (c : Clock) (k : Counts) (p : Packet) (w : Walk) → kept_of p ≡ true → 65535 < due_of (moved_of c p.time) →
    walked_of c k (behind p w) ≡ before (step 65535 ∷ []) (walked_of (paid_of (moved_of c p.time) 65535) k (behind p w))
walked_owing c k p w h l =
    let m = moved_of c p.time in
    let a = moved_again c p.time 65535 in
    let d = due_less m in
    walked_kept c k p w h ∙ rw (steps_many (due_of m) (frame p.octets ∷ []) l, walked_kept (paid_of m 65535) k p w h, a) (rw d (rw (paid_twice m (due_of m) l)))

-- No packet more.
walked_end : (c : Clock) (k : Counts) (cut : Bool) → walked_of c k (ended cut) ≡ stops_at k (pick cut 3 0)
unfolding walked_of items_from counts_from
walked_end c k cut = refl

-- A packet that is left out, by its header alone.
module _ (big : Bool) (c : Clock) (k : Counts) (xs : List ℕ) (l : 16 ≤ length xs) where
  abbrev Passed : Type 0
  Passed = walked_of c k (walk_from big 0 xs) ≡ coming_from (state_of (Passing (captured_at big xs)) big (moved_of c (time_at big xs)) k) (drop 16 xs)

  left_whole : keeps_of (captured_at big xs) (original_at big xs) ≡ false → whole_at big xs ≡ true → Passed
  left_whole h e =
      let f = whole_fits big xs e in
      let n = length-drop 16 xs in
      let z : 16 + captured_at big xs ≡ captured_at big xs + 16 = omega arith in
      let o : kept_of (packet_at big xs) ≡ false = rw (octets_length big xs f) h in
      let s : walk_from big (captured_at big xs) (drop 16 xs) ≡ walk_from big 0 (drop (captured_at big xs + 16) xs) =
      skip big (drop 16 xs) (captured_at big xs) (omega arith) ∙ rw (drop-drop (captured_at big xs) 16 xs, z) in
      ap (walked_of c k) (walk_whole big xs e)
      ∙ walked_left c k (packet_at big xs) (walk_from big 0 (drop (captured_at big xs + 16) xs)) o
      ∙ rw (le-leb (captured_at big xs) (length (drop 16 xs)) (omega arith), s)

  left_cut : whole_at big xs ≡ false → Passed
  left_cut e =
      ap (walked_of c k) (walk_cut big xs (omega arith) e)
      ∙ walked_end c k true
      ∙ rw (lt-leb (captured_at big xs) (length (drop 16 xs)) (omega (arith, length-drop 16 xs, not_whole big xs e)))

  left_later : keeps_of (captured_at big xs) (original_at big xs) ≡ false → Passed
  left_later h = by_bool (whole_at big xs) (left_whole h) left_cut

-- What a turn owes of a stage: with any octets behind those at hand.
abbrev Later : State → List ℕ → List ℕ → Front → Type 0
Later s xs ys f = coming_from s (xs ++ ys) ≡ before f.items (coming_from f.after (drop f.taken xs ++ ys))

module _ (big : Bool) (c : Clock) (k : Counts) (xs ys : List ℕ) where
  head_there : 24 ≤ length xs → ltb (length xs) 24 ≡ false → Later (state_of Head big c k) xs ys (head_front (state_of Head big c k) xs)
  unfolding head_front file_of
  head_there l h =
      let a : ltb (length (xs ++ ys)) 24 ≡ false = le-ltb (length (xs ++ ys)) 24 (omega (arith, length-append xs ys)) in
      by_bool (numbered xs)
      (λ n.
      by_bool (linked xs)
      (λ m. rw (a, h, numbered_more xs ys l, n, linked_more xs ys l, m, big_more xs ys l, drop-append-le 24 xs ys l))
      (λ m. rw (a, h, numbered_more xs ys l, n, linked_more xs ys l, m)))
      (λ n. rw (a, h, numbered_more xs ys l, n))

  head_short : ltb (length xs) 24 ≡ true → Later (state_of Head big c k) xs ys (head_front (state_of Head big c k) xs)
  unfolding head_front
  head_short h = rw h

  head_later : Later (state_of Head big c k) xs ys (head_front (state_of Head big c k) xs)
  head_later = by_bool (ltb (length xs) 24) head_short (λ h. head_there (ltb-false (length xs) 24 h) h)

  -- a packet that is kept, whole
  abbrev seen : Clock
  seen = moved_of c (time_at big xs)

  abbrev there : List ℕ
  there = take (captured_at big xs) (drop 16 xs)

  module _ (f : captured_at big xs + 16 ≤ length xs) (o : keeps_of (captured_at big xs) (original_at big xs) ≡ true) where
    kept_there : kept_of (packet_at big xs) ≡ true
    kept_there = rw (octets_length big xs f) o

    walk_there : walk_from big 0 (xs ++ ys) ≡ behind (packet_at big xs) (walk_from big 0 (drop (captured_at big xs + 16) xs ++ ys))
    walk_there =
        let l : 16 ≤ length xs = omega arith in
        let e = captured_more big xs ys l in
        walk_whole big (xs ++ ys) (fits_whole big (xs ++ ys) (rw e (omega (arith, length-append xs ys))))
        ∙ rw (packet_more big xs ys f, e, drop-append-le (captured_at big xs + 16) xs ys f)

    owing_later : 65535 < due_of seen → Later (state_of Between big c k) xs ys (kept_front (state_of Between big c k) seen there (due_of seen))
    unfolding kept_front
    owing_later l =
        rw (lt-ltb 65535 (due_of seen) l)
        (ap (walked_of c k) walk_there
        ∙ walked_owing c k (packet_at big xs) (walk_from big 0 (drop (captured_at big xs + 16) xs ++ ys)) kept_there l
        ∙ rw walk_there)

    settled_later : due_of seen ≤ 65535 → Later (state_of Between big c k) xs ys (kept_front (state_of Between big c k) seen there (due_of seen))
    unfolding kept_front
    settled_later l =
        rw (le-ltb 65535 (due_of seen) l)
        (ap (walked_of c k) walk_there
        ∙ walked_kept c k (packet_at big xs) (walk_from big 0 (drop (captured_at big xs + 16) xs ++ ys)) kept_there
        ∙ rw (steps_few (due_of seen) (frame there ∷ []) l, octets_length big xs f))

    kept_later : Later (state_of Between big c k) xs ys (kept_front (state_of Between big c k) seen there (due_of seen))
    kept_later =
        by_bool (ltb 65535 (due_of seen)) (λ h. owing_later (ltb-true 65535 (due_of seen) h)) (λ h. settled_later (ltb-false 65535 (due_of seen) h))

  between_there : 16 ≤ length xs → ltb (length xs) 16 ≡ false → Later (state_of Between big c k) xs ys (between_front (state_of Between big c k) xs)
  unfolding between_front
  between_there l h =
      by_bool (keeps_of (captured_at big xs) (original_at big xs))
      (λ o.
      by_bool (ltb (length xs - 16) (captured_at big xs))
      (λ m. rw (h, o, m))
      (λ m. rw (h, o, m) (kept_later (omega (arith, ltb-false (length xs - 16) (captured_at big xs) m)) o)))
      (λ o.
      let e = captured_more big xs ys l in
      let g = original_more big xs ys l in
      let t = time_more big xs ys l in
      let p = left_later big c k (xs ++ ys) (omega (arith, length-append xs ys)) (rw (e, g) o) in
      rw (h, o) (rw (e, t, drop-append-le 16 xs ys l) at p))

  between_short : ltb (length xs) 16 ≡ true → Later (state_of Between big c k) xs ys (between_front (state_of Between big c k) xs)
  unfolding between_front
  between_short h = rw h

  between_later : Later (state_of Between big c k) xs ys (between_front (state_of Between big c k) xs)
  between_later = by_bool (ltb (length xs) 16) between_short (λ h. between_there (ltb-false (length xs) 16 h) h)

  passing_there : (n : ℕ) → leb n (length xs) ≡ true → Later (state_of (Passing n) big c k) xs ys (passing_front (state_of (Passing n) big c k) n xs)
  unfolding passing_front
  passing_there n h =
      let f = leb-true n (length xs) h in
      let a = length-append xs ys in
      rw (h, le-leb n (length (xs ++ ys)) (omega arith), skip big (xs ++ ys) n (omega arith), drop-append-le n xs ys f)

  passing_on : (n : ℕ) → leb n (length xs) ≡ false → Later (state_of (Passing n) big c k) xs ys (passing_front (state_of (Passing n) big c k) n xs)
  unfolding passing_front
  passing_on n h =
      let f = leb-false n (length xs) h in
      let a = length-append xs ys in
      let z : length xs + (n - length xs) ≡ n = omega arith in
      let d : drop n (xs ++ ys) ≡ drop (n - length xs) ys = ap (λ (j : ℕ). drop j (xs ++ ys)) (sym z) ∙ drop-append-add xs ys (n - length xs) in
      by_bool (leb n (length (xs ++ ys)))
      (λ e.
      let g = leb-true n (length (xs ++ ys)) e in
      let q : walk_from big n (xs ++ ys) ≡ walk_from big (n - length xs) ys = skip big (xs ++ ys) n g ∙ rw d (sym (skip big ys (n - length xs) (omega arith))) in
      rw (h, e, drop-length xs, le-leb (n - length xs) (length ys) (omega arith), q))
      (λ e.
      let g = leb-false n (length (xs ++ ys)) e in
      rw (h, e, drop-length xs, lt-leb (n - length xs) (length ys) (omega arith)))

  stage_later : (g : Stage) → Later (state_of g big c k) xs ys (front_at g (state_of g big c k) xs)
  stage_later Head = head_later
  stage_later Between = between_later
  stage_later (Passing n) = by_bool (leb n (length xs)) (passing_there n) (passing_on n)
  stage_later (Over r) = refl

-- THE LAW of one turn.
pub turn_later : (room : Bool) (s : State) (xs ys : List ℕ) → Later s xs ys (turn_of room s xs)
unfolding turn_of
turn_later true s xs ys = stage_later s.big s.clock s.counts xs ys s.stage
turn_later false s xs ys = refl
