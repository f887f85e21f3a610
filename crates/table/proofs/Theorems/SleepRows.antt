-- 02, K6, "One long step or two short", over the records: what two steps make of them one after the other, and their reports as a list, sorted by place.
-- Assumes nothing.
use Prim.Native.Nat.{ℕ, suc, ◌+◌, ◌*◌}
use mathlib.Core.Path.{◌≡◌, refl, ap, ◌∙◌}
use mathlib.Core.Bool.{true, false}
use mathlib.Core.List.{List, [], ◌∷◌, ◌++◌, append_assoc, map}
use native.Mathlib.Omega.{arith}
use lib.Dec.{eqb}
use lib.ListN.{length, length-append}
use lib.Seq.{drop_at, take_at}
use Rattle.octets.proofs.Branch.{by_bool}
use Rattle.octets.specs.Pick.{pick}
use Rattle.octets.specs.Report.{report_bytes}
use Rattle.peer.proofs.Fits.{both, or_left}
use Rattle.peer.proofs.Sleep.{Parts, first, second, tick_parts, tick_twice, tick_unretried}
use Rattle.peer.specs.Fit.{place_fits}
use Rattle.peer.specs.Query.{query_retried}
use Rattle.peer.specs.Tick.{tick_of}
use Rattle.peer.specs.declared.record.Record.{Record}
use Rattle.peer.specs.declared.settings.Settings.{Settings}
use Rattle.table.specs.Pass.{after_of, report_for, reports_of}
use Rattle.table.specs.Places.{all_of, all_tails, some_of}
use Rattle.table.specs.Sleep.{reports_in, retried_of, sorted_of}
use Rattle.table.proofs.Passes.Ticks.{report_length}
use Rattle.table.proofs.Theorems.Sorted.{Above, One, above_append, above_less, above_one, none, put, some}

-- ---- the reports of a step as a list

row_for : ℕ → ℕ → ℕ → List (List ℕ)
row_for place kind address = pick (eqb kind 0) [] (report_bytes place kind address ∷ [])

row_one : (n k a : ℕ) → One n (row_for n k a)
unfolding row_for report_bytes
row_one n k a = by_bool (eqb k 0) (λ e. none (rw e)) (λ e. some (report_bytes n k a) (rw e) refl)

row_count : (n k a : ℕ) → length (report_for n k a) ≡ 8 * length (row_for n k a)
unfolding row_for report_for
row_count n k a = by_bool (eqb k 0) (λ e. rw e) (λ e. rw e (rw e at (report_length n k a e)))

-- what stands in a buffer before other octets is read from it
row_read :
    (n k a m : ℕ) (rest : List ℕ) → reports_in (length (row_for n k a) + m) (report_for n k a ++ rest) ≡ row_for n k a ++ reports_in m rest
unfolding row_for report_for reports_in
row_read n k a m rest = by_bool (eqb k 0)
    (λ e. let zero : 0 + m ≡ m = omega arith in rw (e, zero))
    (λ e.
    let l : length (report_bytes n k a) ≡ 8 = rw e at (report_length n k a e) in
    let one : 1 + m ≡ suc m = omega arith in
    rw (e, one, take_at (report_bytes n k a) rest 8 l, drop_at (report_bytes n k a) rest 8 l))

module _ (s : Settings) where
  pub rows_of : ℕ → ℕ → List Record → List (List ℕ)
  rows_of d n [] = []
  rows_of d n (p ∷ ps) = row_for n (tick_of s p d).report p.address ++ rows_of d (n + 1) ps

  pub rows_count : (d n : ℕ) (t : List Record) → length (reports_of s d n t) ≡ 8 * length (rows_of d n t)
  unfolding rows_of reports_of
  rows_count d n [] = refl
  rows_count d n (p ∷ t) =
      simp length-append (omega (arith, row_count n (tick_of s p d).report p.address, rows_count d (n + 1) t))

  pub rows_read : (d n : ℕ) (t : List Record) (rest : List ℕ) → reports_in (length (rows_of d n t)) (reports_of s d n t ++ rest) ≡ rows_of d n t
  unfolding rows_of reports_of reports_in
  rows_read d n [] rest = refl
  rows_read d n (p ∷ t) rest =
      let k = (tick_of s p d).report in
      rw (
        length-append (row_for n k p.address) (rows_of d (n + 1) t),
        append_assoc (report_for n k p.address) (reports_of s d (n + 1) t) rest,
        row_read n k p.address (length (rows_of d (n + 1) t)) (reports_of s d (n + 1) t ++ rest),
        rows_read d (n + 1) t rest,
      )

  above_rows : (d n : ℕ) (t : List Record) → Above n (rows_of d n t)
  unfolding rows_of
  above_rows d n [] = tt
  above_rows d n (p ∷ t) =
      let r = row_for n (tick_of s p d).report p.address in
      above_append n r (rows_of d (n + 1) t) (above_one n r (row_one n (tick_of s p d).report p.address))
      (above_less n (n + 1) (rows_of d (n + 1) t) (omega arith) (above_rows d (n + 1) t))

  pub sorted_rows : (d n : ℕ) (t : List Record) → sorted_of (rows_of d n t) ≡ rows_of d n t
  unfolding rows_of sorted_of
  sorted_rows d n [] = refl
  sorted_rows d n (p ∷ t) =
      let k = (tick_of s p d).report in
      put n (row_for n k p.address) [] (rows_of d (n + 1) t) (row_one n k p.address) tt (above_rows d (n + 1) t)
      ∙ ap (λ (x : List (List ℕ)). row_for n k p.address ++ x) (sorted_rows d (n + 1) t)

  -- ---- two steps over the records

  pub table_twice : (d e : ℕ) (t : List Record) → all_of (place_fits s) t ≡ true → map (after_of s e) (map (after_of s d) t) ≡ map (after_of s (d + e)) t
  unfolding all_tails
  table_twice d e [] h = refl
  table_twice d e (p ∷ t) h =
      let k = both (place_fits s p) _ h in
      rw (tick_twice s p k.0 d e, table_twice d e t k.1)

  pub rows_twice :
      (d e n : ℕ) (t : List Record) → all_of (place_fits s) t ≡ true → retried_of s (d + e) t ≡ false
      → sorted_of (rows_of d n t ++ rows_of e n (map (after_of s d) t)) ≡ rows_of (d + e) n t
  unfolding all_tails row_for rows_of retried_of some_of sorted_of
  rows_twice d e n [] h r = refl
  rows_twice d e n (p ∷ t) h r = go (tick_parts s p k.0 d e q.0) (rows_twice d e (n + 1) t k.1 q.1)
    where
      k : (place_fits s p ≡ true) × (all_of (place_fits s) t ≡ true)
      k = both (place_fits s p) _ h

      q : (query_retried s (d + e) p.query ≡ false) × (retried_of s (d + e) t ≡ false)
      q = or_left (query_retried s (d + e) p.query) _ r

      a : List (List ℕ)
      a = rows_of d (n + 1) t

      b : List (List ℕ)
      b = rows_of e (n + 1) (map (after_of s d) t)

      long : List (List ℕ)
      long = row_for n (tick_of s p (d + e)).report p.address

      one : One n long
      one = row_one n (tick_of s p (d + e)).report p.address

      low : Above (n + 1) a
      low = above_rows d (n + 1) t

      high : Above (n + 1) b
      high = above_rows e (n + 1) (map (after_of s d) t)

      go :
          Parts s p d e → sorted_of (a ++ b) ≡ rows_of (d + e) (n + 1) t
          → sorted_of ((row_for n (tick_of s p d).report p.address ++ a) ++ (row_for n (tick_of s (after_of s d p) e).report (after_of s d p).address ++ b))
          ≡ long ++ rows_of (d + e) (n + 1) t
      go (first x y) ih =
          rw (x, y, append_assoc long a b, ← ih) (put n long [] (a ++ b) one tt (above_append (n + 1) a b low high))
      go (second x y z) ih = rw (x, y, z, ← ih) (put n long a b one low high)

  pub unretried_after : (d e : ℕ) (t : List Record) → all_of (place_fits s) t ≡ true → retried_of s (d + e) t ≡ false → retried_of s e (map (after_of s d) t) ≡ false
  unfolding all_tails retried_of some_of
  unretried_after d e [] h r = refl
  unretried_after d e (p ∷ t) h r =
      let k = both (place_fits s p) _ h in
      let q = or_left (query_retried s (d + e) p.query) _ r in
      rw (tick_unretried s p k.0 d e q.0) (unretried_after d e t k.1 q.1)
