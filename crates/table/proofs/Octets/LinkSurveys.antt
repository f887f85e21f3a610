-- Whether any place of a table's octets has links, four places at a time from the last to the first.
-- Assumes nothing.
use mathlib.Core.Path.{◌≡◌, refl, sym, ◌∙◌}
use mathlib.Core.Bool.{Bool, true, false, not, ◌&&◌, ◌||◌}
use mathlib.Core.List.{List, [], ◌∷◌}
use Prim.Native.Nat.{ℕ, zero, suc, ◌+◌, ◌*◌, ◌≤◌, ◌<◌}
use native.Mathlib.Omega.{arith}
use lib.Dec.{leb}
use lib.ListN.{length, drop}
use Rattle.octets.proofs.Branch.{and_left, and_right, by_bool}
use Rattle.octets.specs.Row.{blank_at, empty_at, linkless_at}
use Rattle.peer.specs.Record.{free_of}
use Rattle.table.specs.Places.{some_of}
use Rattle.table.specs.Rows.{linked_in, record_of, records_of}
use Rattle.table.proofs.Octets.LinkStandings.{linkless_links}
use Rattle.table.proofs.Octets.RowLaws.{at_place, length_records}
use Rattle.table.proofs.Passes.Loops.{left_end, left_step}

some_behind : {A : Type 0} (f : A → Bool) (t : List A) (k : ℕ) → some_of f (drop k t) ≡ true → some_of f t ≡ true
unfolding some_of
some_behind f t zero e = e
some_behind f [] (suc k) e = e
some_behind f (x ∷ xs) (suc k) e = by_bool (f x) (λ h. rw h) (λ h. rw h (some_behind f xs k e))

by_fours : (a b c d r : Bool) → (not a || (not b || (not c || (not d || r)))) ≡ (not (d && (c && (b && a))) || r)
by_fours true true true true r = refl
by_fours true true true false r = refl
by_fours true true false true r = refl
by_fours true true false false r = refl
by_fours true false c true r = by_bool c (λ e. rw e) (λ e. rw e)
by_fours true false c false r = refl
by_fours false b c true r = by_bool c (λ e. by_bool b (λ f. rw (e, f)) (λ f. rw (e, f))) (λ e. rw e)
by_fours false b c false r = refl

module _ (xs : List ℕ) (long : length xs ≡ 1536) where
  -- one place
  one_place : (k : ℕ) → k < 32 → linked_in (drop k (records_of xs)) ≡ (not (linkless_at (48 * k) xs) || linked_in (drop (k + 1) (records_of xs)))
  unfolding some_of record_of
  one_place k h =
      left_step linked_in (records_of xs) k free_of (rw (length_records 32 0 xs) h)
      ∙ rw (← at_place k xs h, ← linkless_links (48 * k) xs (rw long (omega arith)))

  -- four
  pub four_places : (k : ℕ) → k + 4 ≤ 32
      → linked_in (drop k (records_of xs)) ≡ (not (linkless_at (48 * k + 144) xs && (linkless_at (48 * k + 96) xs && (linkless_at (48 * k + 48) xs && linkless_at (48 * k) xs))) || linked_in (drop (k + 4) (records_of xs)))
  four_places k h =
      let one : 48 * (k + 1) ≡ 48 * k + 48 = omega arith in
      let two : 48 * (k + 1 + 1) ≡ 48 * k + 96 = omega arith in
      let three : 48 * (k + 1 + 1 + 1) ≡ 48 * k + 144 = omega arith in
      let four : k + 1 + 1 + 1 + 1 ≡ k + 4 = omega arith in
      one_place k (omega arith) ∙ rw (one_place (k + 1) (omega arith), one_place (k + 1 + 1) (omega arith), one_place (k + 1 + 1 + 1) (omega arith), one, two, three, four)
      (by_fours (linkless_at (48 * k) xs) (linkless_at (48 * k + 48) xs) (linkless_at (48 * k + 96) xs) (linkless_at (48 * k + 144) xs) (linked_in (drop (k + 4) (records_of xs))))

  blank_linkless : (k : ℕ) → blank_at k xs ≡ true → linkless_at k xs ≡ true
  unfolding blank_at linkless_at
  blank_linkless k b =
      let e = and_right (leb (k + 48) (length xs)) _ b in
      rw (and_left (leb (k + 48) (length xs)) _ b, and_right (empty_at k xs) _ e)

  -- none behind the last place in use
  pub none_behind : (j k : ℕ) → k + j ≡ 32 → ((i : ℕ) → k ≤ i → i < 32 → blank_at (48 * i) xs ≡ true) → linked_in (drop k (records_of xs)) ≡ false
  unfolding some_of
  none_behind zero k e b = left_end linked_in (records_of xs) k (rw (length_records 32 0 xs) (omega arith))
  none_behind (suc j) k e b = one_place k (omega arith) ∙ rw (blank_linkless (48 * k) (b k (omega arith) (omega arith))) (none_behind j (k + 1) (omega arith) (λ i l h. b i (omega arith) h))

  -- one that is found is one of all
  pub one_found : (k : ℕ) → k + 4 ≤ 32 → (linkless_at (48 * k + 144) xs && (linkless_at (48 * k + 96) xs && (linkless_at (48 * k + 48) xs && linkless_at (48 * k) xs))) ≡ false → true ≡ linked_in (records_of xs)
  one_found k h e = sym (some_behind _ (records_of xs) k (four_places k h ∙ rw e))
