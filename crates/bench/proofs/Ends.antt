-- The importer at the end of its input: where a turn wants more octets and none come, nothing more is written.
-- Assumes nothing.
use Prim.Native.Nat.{ℕ, suc, ◌+◌, ◌-◌, ◌<◌}
use mathlib.Core.Path.{◌≡◌, refl, sym, ap, ◌∙◌}
use mathlib.Core.Bool.{Bool, true, false}
use mathlib.Core.List.{List, [], ◌∷◌}
use native.Mathlib.Omega.{arith}
use lib.Dec.{ltb, leb}
use lib.ListN.{length, take, drop}
use borrow.Author.Tests.{ne_eqb, ltb-true, ltb-false}
use Rattle.octets.specs.Pick.{pick}
use Rattle.octets.proofs.Branch.{by_bool}
use Rattle.bench.specs.Capture.{captured_at, keeps_of, linked, numbered, original_at, time_at, walk_from}
use Rattle.bench.specs.Import.{moved_of, due_of, items_from, counts_from, stops_at, walked_of, file_of}
use Rattle.bench.specs.Importer.{Front, coming_from, state_of, head_front, kept_front, between_front, passing_front, front_at, turn_of, end_at}
use Rattle.bench.specs.declared.passed.Clock.{Clock}
use Rattle.bench.specs.declared.passed.Counts.{Counts}
use Rattle.bench.specs.declared.importer.Stage.{Stage}
use Rattle.bench.specs.declared.importer.Stage.TheVariants.{Head, Between, Passing, Over}
use Rattle.bench.specs.declared.importer.State.{State}
use Rattle.bench.proofs.Packets.{short_cut, walk_cut}

-- Where a turn wants more octets and none come: nothing more is written, and the refusal is that of the end.
abbrev Ends : State → List ℕ → Front → Type 0
Ends s xs f = f.wants ≡ true → coming_from s xs ≡ stops_at f.after.counts (end_at f.after.stage (length (drop f.taken xs)))

never : {P : Type 0} → ◌≡◌ {A = Bool} false true → P
never h = let z : ◌≡◌ {A = ℕ} 0 1 = ap (λ (b : Bool). pick b 1 0) h in absurd (omega arith)

-- a packet that is kept is no end
kept_wants : (s : State) (c : Clock) (vs : List ℕ) (n : ℕ) → (kept_front s c vs n).wants ≡ false
unfolding kept_front
kept_wants s c vs n = by_bool (ltb 65535 n) (λ h. rw h) (λ h. rw h)

-- nothing held, or a part of a packet
held_ends : (big : Bool) (c : Clock) (k : Counts) (xs : List ℕ) → length xs < captured_at big xs + 16 → walked_of c k (walk_from big 0 xs) ≡ stops_at k (end_at Between (length xs))
unfolding walk_from walked_of items_from counts_from end_at
held_ends big c k [] l = refl
held_ends big c k (x ∷ xs) l = rw (ne_eqb (suc (length xs)) 0 (λ e. omega arith)) (ap (walked_of c k) (walk_cut big (x ∷ xs) (omega arith) (short_cut big (x ∷ xs) l)))

module _ (big : Bool) (c : Clock) (k : Counts) (xs : List ℕ) where
  head_ends : Ends (state_of Head big c k) xs (head_front (state_of Head big c k) xs)
  unfolding head_front file_of end_at
  head_ends =
      by_bool (ltb (length xs) 24)
      (λ h. rw h (λ w. refl))
      (λ h.
      by_bool (numbered xs)
      (λ n. by_bool (linked xs) (λ l. rw (h, n, l) never) (λ l. rw (h, n, l) never))
      (λ n. rw (h, n) never))

  between_ends : Ends (state_of Between big c k) xs (between_front (state_of Between big c k) xs)
  unfolding between_front
  between_ends =
      by_bool (ltb (length xs) 16)
      (λ h. rw h (λ w. held_ends big c k xs (omega (arith, ltb-true (length xs) 16 h))))
      (λ h.
      by_bool (keeps_of (captured_at big xs) (original_at big xs))
      (λ o.
      by_bool (ltb (length xs - 16) (captured_at big xs))
      (λ m. rw (h, o, m) (λ w. held_ends big c k xs (omega (arith, ltb-true (length xs - 16) (captured_at big xs) m, ltb-false (length xs) 16 h))))
      (λ m. rw (h, o, m) (kept_goes (due_of (moved_of c (time_at big xs))))))
      (λ o. rw (h, o) never))
    where
      kept_goes : (n : ℕ) → Ends (state_of Between big c k) xs (kept_front (state_of Between big c k) (moved_of c (time_at big xs)) (take (captured_at big xs) (drop 16 xs)) n)
      kept_goes n w = never (sym (kept_wants (state_of Between big c k) (moved_of c (time_at big xs)) (take (captured_at big xs) (drop 16 xs)) n) ∙ w)

  passing_ends : (n : ℕ) → Ends (state_of (Passing n) big c k) xs (passing_front (state_of (Passing n) big c k) n xs)
  unfolding passing_front end_at
  passing_ends n = by_bool (leb n (length xs)) (λ h. rw h never) (λ h. rw h (λ w. refl))

  stage_ends : (g : Stage) → Ends (state_of g big c k) xs (front_at g (state_of g big c k) xs)
  unfolding end_at
  stage_ends Head = head_ends
  stage_ends Between = between_ends
  stage_ends (Passing n) = passing_ends n
  stage_ends (Over r) = λ w. refl

pub turn_ends : (s : State) (xs : List ℕ) → Ends s xs (turn_of true s xs)
unfolding turn_of
turn_ends s xs = stage_ends s.big s.clock s.counts xs s.stage
