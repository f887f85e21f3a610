-- 02, K6, "One long step or two short": steps of d and e leave the table of one of d + e, and report together what it reports (`one_or_two`); so do
-- steps of any number (`one_or_many`), and two lists of steps with one sum do the same (`same_sum`). None of them is refused (`sleep_taken`).
-- Assumes nothing.
use Prim.Native.Nat.{ℕ, ◌+◌, ◌/◌}
use mathlib.Core.Path.{◌≡◌, refl, ap, sym, ◌∙◌}
use mathlib.Core.Bool.{true, false, not}
use mathlib.Core.List.{List, [], ◌∷◌, ◌++◌, append-nil, flatten, map}
use native.Mathlib.Nat.{add-zero, mul-div_right}
use native.Mathlib.Omega.{arith}
use lib.Dec.{eqb}
use lib.ListN.{drop, length, take, take-append-drop}
use borrow.Author.Tests.{eqb-false, eqb-true, le-ltb, leb-true, not-true}
use Rattle.octets.proofs.Branch.{by_bool}
use Rattle.peer.proofs.Fits.{both}
use Rattle.peer.specs.Fit.{place_fits}
use Rattle.peer.specs.Settings.{time_fits}
use Rattle.peer.specs.declared.record.Record.{Record}
use Rattle.peer.specs.declared.settings.Settings.{Settings}
use Rattle.table.specs.Order.{Whole, end}
use Rattle.table.specs.Pass.{after_of, clocked_of, pass_refusals, passed_of, reports_of}
use Rattle.table.specs.Places.{all_of, all_tails}
use Rattle.table.specs.Refusals.{first_of}
use Rattle.table.specs.Sleep.{Lapse, OneOrMany, OneOrTwo, SameSum, SleepTaken, lapse_fits, lapsed, reports_got, retried_of, sorted_of, sum_of, together}
use Rattle.table.specs.declared.rules.event.Event.TheVariants as event
use Rattle.table.proofs.Theorems.SleepRows.{rows_count, rows_read, rows_twice, rows_of, sorted_rows, table_twice, unretried_after}
use Rattle.table.proofs.Theorems.Sorted.{sorted_after}
use Rattle.table.proofs.Theorems.StepKeeps.{step_keeps}
use Rattle.table.proofs.Theorems.Well.{well_of}
use Rattle.table.proofs.Theorems.WrittenCount.{written_count}

some_time : (l : Lapse) → lapse_fits l ≡ true → eqb l.tu 0 ≡ false
unfolding lapse_fits time_fits
some_time l f = not-true (eqb l.tu 0) (both (not (eqb l.tu 0)) _ (both (time_fits l.tu) _ f).0).0

-- ---- the code's step

module _ (s : Settings) (t : List Record) (w : Whole s t) where
  places : all_of (place_fits s) t ≡ true
  places = (well_of s t w.0 w.1).places

  module _ (l : Lapse) (f : lapse_fits l ≡ true) where
    -- it is not refused
    taken : first_of (pass_refusals s t l.tu (length l.out)) ≡ 0
    unfolding first_of lapse_fits
    taken = rw (le-ltb (length l.out) 256 (leb-true 256 (length l.out) (both (time_fits l.tu) _ f).1), w.0, some_time l f)

    unrefused : (lapsed s t l).1.answer.refusal ≡ 0
    unfolding passed_of
    unrefused = rw taken

    -- each record's own step, and what is read from the buffer is its reports
    lapsed_table : (lapsed s t l).0 ≡ map (after_of s l.tu) t
    unfolding passed_of clocked_of
    lapsed_table = rw taken

    lapsed_rows : reports_got (lapsed s t l).1 ≡ rows_of s l.tu 0 t
    lapsed_rows =
        let n = (lapsed s t l).1.answer.written in
        let k = (lapsed s t l).1.bytes in
        let h = written_count s t (event.Clock l.tu) [] l.out w.1 in
        let front : take n k ≡ reports_of s l.tu 0 t = rw taken at h.front in
        let bytes : k ≡ reports_of s l.tu 0 t ++ drop n k = sym (take-append-drop n k) ∙ ap (λ x. x ++ drop n k) front in
        let count : n / 8 ≡ length (rows_of s l.tu 0 t) = rw (h.count, taken, rows_count s l.tu 0 t) (mul-div_right _ (omega arith)) in
        rw (count, bytes) (rows_read s l.tu 0 t (drop n k))

    pub kept : Whole s (lapsed s t l).0
    kept = step_keeps s t w.0 w.1 (event.Clock l.tu) [] refl (length l.out)

-- ---- steps one after the other

abbrev tu_of : Lapse → ℕ
tu_of l = l.tu

module _ (s : Settings) where
  -- what steps leave and report, in terms of their sum
  record Many (t : List Record) (ls : List Lapse) (n : ℕ) : Type 0 where
    table : end (lapsed s) t ls ≡ map (after_of s n) t
    reported : retried_of s n t ≡ false → sorted_of (together (lapsed s) reports_got t ls) ≡ rows_of s n 0 t

  many : (l : Lapse) (ls : List Lapse) (t : List Record) → Whole s t → lapse_fits l ≡ true → all_of lapse_fits ls ≡ true → Many t (l ∷ ls) (l.tu + sum_of tu_of ls)
  unfolding together flatten sum_of all_tails
  many l [] t w f fs =
      let r = lapsed_rows s t w l f in
      record {
        table = rw add-zero (lapsed_table s t w l f);
        reported = λ h. rw (add-zero, r, append-nil (rows_of s l.tu 0 t)) (sorted_rows s l.tu 0 t);
      }
  many l (m ∷ ls) t w f fs =
      let g = both (lapse_fits m) _ fs in
      let t' = (lapsed s t l).0 in
      let is = lapsed_table s t w l f in
      let ok = places s t w in
      let n = m.tu + sum_of tu_of ls in
      let rest = many m ls t' (kept s t w l f) g.0 g.1 in
      record {
        table = rest.table ∙ rw is (table_twice s l.tu n t ok);
        reported = λ h.
            let later = rest.reported (rw is (unretried_after s l.tu n t ok h)) in
            rw (lapsed_rows s t w l f) (sorted_after (rows_of s l.tu 0 t) (together (lapsed s) reports_got t' (m ∷ ls)) (rows_of s n 0 t')
            (later ∙ sym (sorted_rows s n 0 t')) ∙ rw is (rows_twice s l.tu n 0 t ok h));
      }

  many_of : (ls : List Lapse) (t : List Record) (n : ℕ) → Whole s t → all_of lapse_fits ls ≡ true → eqb n 0 ≡ false → n ≡ sum_of tu_of ls → Many t ls n
  unfolding sum_of all_tails
  many_of [] t n w fs z e = let y = eqb-false n 0 z in absurd (y e)
  many_of (l ∷ ls) t n w fs z e = let g = both (lapse_fits l) _ fs in rw e (many l ls t w g.0 g.1)

-- ---- the theorems

pub one_or_many : (s : Settings) → OneOrMany s
one_or_many s t ls one w fs f e =
    let m = many_of s ls t one.tu w fs (some_time one f) e in
    record {
      table = m.table ∙ sym (lapsed_table s t w one f);
      reported = λ h. m.reported h ∙ sym (lapsed_rows s t w one f);
    }

pub one_or_two : (s : Settings) → OneOrTwo s
unfolding together flatten sum_of all_tails
one_or_two s t first second one w f g k e =
    let a = one_or_many s t (first ∷ second ∷ []) one w (rw (f, g)) k (rw add-zero e) in
    record { table = a.table; reported = λ h. rw append-nil at (a.reported h) }

-- a sum of 0 is a list without a step
no_step : (ls : List Lapse) → all_of lapse_fits ls ≡ true → sum_of tu_of ls ≡ 0 → ls ≡ []
unfolding sum_of all_tails
no_step [] f h = refl
no_step (l ∷ ls) f h = let y = eqb-false l.tu 0 (some_time l (both (lapse_fits l) _ f).0) in absurd (y (omega arith))

pub same_sum : (s : Settings) → SameSum s
same_sum s t ls₁ ls₂ w f₁ f₂ e = by_bool (eqb (sum_of tu_of ls₁) 0)
    (λ z.
    let y = eqb-true (sum_of tu_of ls₁) 0 z in
    rw (no_step ls₁ f₁ y, no_step ls₂ f₂ (sym e ∙ y)) (record { table = refl; reported = λ h. refl }))
    (λ z.
    let a = many_of s ls₁ t (sum_of tu_of ls₁) w f₁ z refl in
    let b = many_of s ls₂ t (sum_of tu_of ls₁) w f₂ z e in
    record { table = a.table ∙ sym b.table; reported = λ h. a.reported h ∙ sym (b.reported h) })

pub sleep_taken : (s : Settings) → SleepTaken s
unfolding all_tails
sleep_taken s t [] w fs = refl
sleep_taken s t (l ∷ ls) w fs =
    let g = both (lapse_fits l) _ fs in
    rw (unrefused s t w l g.0) (sleep_taken s (lapsed s t l).0 ls (kept s t w l g.0) g.1)
