-- 02, K5: "A query is due at its start and at each multiple of the retry time": a step of d reaches a retry exactly if it reaches or passes a multiple
-- of the retry time, counted from the query's start, that had not been reached before (`reached_multiple`, `multiple_reached`). 02, K6, "sums that reach
-- no retry": so many TU reach one exactly if such a multiple lies before the maximum (`retried_multiple`, `multiple_retried`).
-- Assumes nothing.
use Rattle.std.proofs.Common.{◌≡◌, ℕ, ◌+◌, ◌-◌, ◌*◌, ◌/◌, ◌<◌, ◌≤◌, true, false, not, ◌||◌, eqb, leb, sym, refl, ◌∙◌, le_trans, lt_of_lt_of_le, lt_of_le_of_lt, div-lt_iff_lt-mul, le-div_iff_mul-le, arith, ltb-true, lt-ltb, ne_eqb, le-leb, leb-false, leb-true}
use borrow.Author.Tests.{eqb-false, lt-leb, not-true}
use Rattle.octets.proofs.Branch.{and_left, and_right, by_bool}
use Rattle.peer.specs.Query.{reaches, running_retried}
use Rattle.peer.specs.declared.settings.Settings.{Settings}
use Rattle.peer.proofs.Queries.{site}

-- TU since the query started, where so much of it is left
abbrev pub since : Settings → ℕ → ℕ
since s left = s.maximum - left

-- the n-th multiple of the retry time lies behind what had passed before the step, and not behind what has passed after it
abbrev pub Between : Settings → ℕ → ℕ → ℕ → Type 0
Between s left d n = (since s left < n * s.retry) × (n * s.retry ≤ since s left + d)

module _ (s : Settings) (left d : ℕ) where
  pub reached_multiple : reaches s left d ≡ true → Between s left d ((since s left + d) / s.retry)
  unfolding reaches
  reached_multiple h =
      let some = eqb-false s.retry 0 (not-true (eqb s.retry 0) (and_left (not (eqb s.retry 0)) _ h)) in
      let positive : 0 < s.retry = omega arith in
      let fewer = ltb-true (since s left / s.retry) ((since s left + d) / s.retry) (and_right (not (eqb s.retry 0)) _ h) in (
        (div-lt_iff_lt-mul {k = s.retry} {x = since s left} {y = (since s left + d) / s.retry} positive).0 fewer,
        (le-div_iff_mul-le {k = s.retry} {x = (since s left + d) / s.retry} {y = since s left + d} positive).0 (omega arith),
      )

  pub multiple_reached : (n : ℕ) → 0 < s.retry → Between s left d n → reaches s left d ≡ true
  unfolding reaches
  multiple_reached n positive b =
      let before = (div-lt_iff_lt-mul {k = s.retry} {x = since s left} {y = n} positive).1 b.0 in
      let after = (le-div_iff_mul-le {k = s.retry} {x = n} {y = since s left + d} positive).1 b.1 in
      rw (ne_eqb s.retry 0 (λ (z : s.retry ≡ 0). omega arith))
      (lt-ltb (since s left / s.retry) ((since s left + d) / s.retry) (lt_of_lt_of_le before after))

module _ (s : Settings) (left d : ℕ) where
  -- what a query runs on, of so many TU: it ends at its maximum
  runs : (left ≤ d → running_retried s left d ≡ reaches s left (left - 1)) × (d < left → running_retried s left d ≡ reaches s left d)
  unfolding running_retried
  runs = (λ l. rw (le-leb left d l), λ l. rw (lt-leb left d l))

  module _ (some : 0 < left) (top : left ≤ s.maximum) where
    pub retried_multiple : running_retried s left d ≡ true → (n : ℕ) × Between s left d n × (n * s.retry < s.maximum)
    retried_multiple h = by_bool (leb left d)
        (λ l.
        let k = leb-true left d l in
        let b = reached_multiple s left (left - 1) (sym (runs.0 k) ∙ h) in
        (_, (b.0, le_trans b.1 (omega arith)), lt_of_le_of_lt b.1 (omega arith)))
        (λ l.
        let k = leb-false left d l in
        let b = reached_multiple s left d (sym (runs.1 k) ∙ h) in
        (_, b, lt_of_le_of_lt b.1 (omega arith)))

    pub multiple_retried : (n : ℕ) → 0 < s.retry → Between s left d n → n * s.retry < s.maximum → running_retried s left d ≡ true
    multiple_retried n positive b early = by_bool (leb left d)
        (λ l. runs.0 (leb-true left d l) ∙ multiple_reached s left (left - 1) n positive (b.0, omega (arith, early)))
        (λ l. runs.1 (leb-false left d l) ∙ multiple_reached s left d n positive b)

-- ---- The hypotheses are met: a retry at 201 TU, and at 402.

abbrev half : Settings
half = record { own = site.own; network = site.network; authentication = site.authentication; association = site.association; role = site.role; rsna = site.rsna; edition = site.edition; protection = site.protection; retry = 500; maximum = 1000 }

early : (reaches site 1000 200 || reaches site 799 200) ≡ false
unfolding reaches
early = refl

at_402 : reaches site 799 201 ≡ true
at_402 = multiple_reached site 799 201 2 (omega arith) (omega arith, omega arith)

at_201 : Between site 1000 201 1
unfolding reaches
at_201 = reached_multiple site 1000 201 refl

-- after the fourth retry, at 804 TU, no sum reaches one: the fifth would come at 1,005 TU, behind the maximum
after_fourth : running_retried site 196 65535 ≡ false
unfolding running_retried reaches
after_fourth = refl

-- where the retry time is half the maximum, the second retry is the maximum and no retry
at_half : (n : ℕ) × Between half 1000 1000 n × (n * 500 < 1000)
unfolding running_retried reaches
at_half = retried_multiple half 1000 1000 (omega arith) (omega arith) refl

second_is_maximum : running_retried half 500 500 ≡ false
unfolding running_retried reaches
second_is_maximum = refl
