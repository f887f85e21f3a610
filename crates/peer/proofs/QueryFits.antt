-- 02, K5: what becomes of a query, by a state, a request, a primitive or the clock, is a query that fits where it stood; and its numbers give it
-- back.
-- Assumes nothing.
use Rattle.std.proofs.Common.{◌≡◌, ℕ, ◌-◌, ◌<◌, ◌≤◌, true, false, not, eqb, leb, sym, refl, arith, ne_eqb, eqb-true, le-leb, leb-false, leb-true}
use borrow.Author.Tests.{eqb-false}
use Rattle.octets.proofs.Branch.{and_left, and_right, by_bool, pick_both}
use Rattle.peer.specs.Fit.{query_fits, query_stands, running_fits}
use Rattle.peer.specs.Query.{is_running, query_in, query_left, query_number, query_of, query_timed, running_number, running_of, running_timed, sent_query, stepped_of, unmarked_of}
use Rattle.peer.specs.Settings.{ap, query_times_fit, settings_fit, time_fits}
use Rattle.peer.specs.declared.query.Query.TheVariants.{None, Running, TimedOut}
use Rattle.peer.specs.declared.query.Query.{Query}
use Rattle.peer.specs.declared.settings.Settings.{Settings}

-- the times of a query are in range
pub times_fit : (s : Settings) → settings_fit s ≡ true → query_times_fit s ≡ true
unfolding settings_fit
times_fit s h =
    and_left (query_times_fit s) _
    (and_right (leb s.edition 2) _
    (and_right (not (eqb s.edition 0)) _
    (and_right (leb s.protection 1) _
    (and_right (time_fits s.association) _
    (and_right (time_fits s.authentication) _
    (and_right (leb s.rsna 1) _
    (and_right (leb s.role 3) _
    (and_right (not (eqb s.role 0)) _ h))))))))

pub maximum_some : (s : Settings) → settings_fit s ≡ true → not (eqb s.maximum 0) ≡ true
unfolding query_times_fit time_fits
maximum_some s h = and_left (not (eqb s.maximum 0)) _ (and_right (time_fits s.retry) _ (times_fit s h))

pub maximum_short : (s : Settings) → settings_fit s ≡ true → s.maximum ≤ 65535
unfolding query_times_fit time_fits
maximum_short s h = leb-true s.maximum 65535 (and_right (not (eqb s.maximum 0)) _ (and_right (time_fits s.retry) _ (times_fit s h)))

module _ (s : Settings) (state : ℕ) where
  -- a query that stands, stands in State 4
  four : (q : Query) (state' : ℕ) → query_fits s state q ≡ true → eqb state' 4 ≡ true → query_fits s state' q ≡ true
  unfolding running_fits query_stands
  four None state' h e = refl
  four (Running left due) state' h e =
      let a = and_right (not (eqb left 0)) _ h in
      rw (and_left (not (eqb left 0)) _ h, and_left (leb left s.maximum) _ a, and_left (eqb s.role ap) _ (and_right (leb left s.maximum) _ a), e)
  four TimedOut state' h e = rw (and_left (eqb s.role ap) _ h, e)

  -- and does not outlive it
  pub in_fits : (q : Query) (state' : ℕ) → query_fits s state q ≡ true → query_fits s state' (query_in state' q) ≡ true
  unfolding query_in
  in_fits q state' h = by_bool (eqb state' 4) (λ e. rw e (four q state' h e)) (λ e. rw e)

  -- a query that starts at an access point in State 4
  started_fits : not (eqb s.maximum 0) ≡ true → eqb s.role ap ≡ true → eqb state 4 ≡ true → running_fits s state s.maximum ≡ true
  unfolding running_fits query_stands
  started_fits m a e = rw (m, le-leb s.maximum s.maximum (omega arith), a, e)

  pub running_fits_lem :
      (q : Query) → not (eqb s.maximum 0) ≡ true → eqb s.role ap ≡ true → eqb state 4 ≡ true → query_fits s state q ≡ true
      → query_fits s state (running_of s q) ≡ true
  unfolding running_of
  running_fits_lem None m a e h = started_fits m a e
  running_fits_lem (Running left due) m a e h = h
  running_fits_lem TimedOut m a e h = started_fits m a e

  pub unmarked_fits : (q : Query) → query_fits s state q ≡ true → query_fits s state (unmarked_of q) ≡ true
  unfolding unmarked_of
  unmarked_fits None h = refl
  unmarked_fits (Running left due) h = h
  unmarked_fits TimedOut h = refl

  -- whether its request is due or sent
  pub sent_fits_lem : (q : Query) → query_fits s state q ≡ true → query_fits s state (sent_query q) ≡ true
  sent_fits_lem None h = h
  sent_fits_lem (Running left due) h = h
  sent_fits_lem TimedOut h = h

  -- its time falls, but not to 0
  pub timed_fits : (q : Query) (d : ℕ) → query_fits s state q ≡ true → query_fits s state (query_timed s q d) ≡ true
  unfolding running_timed running_fits
  timed_fits None d h = h
  timed_fits (Running left due) d h =
      let a = and_right (not (eqb left 0)) _ h in
      let top : left ≤ s.maximum = leb-true left s.maximum (and_left (leb left s.maximum) _ a) in
      let stands = and_right (leb left s.maximum) _ a in
      by_bool (leb left d)
      (λ e. rw e stands)
      (λ e.
      let more : d < left = leb-false left d e in
      rw (e, ne_eqb (left - d) 0 (λ (z : left - d ≡ 0). omega arith), le-leb (left - d) s.maximum (omega arith)) stands)
  timed_fits TimedOut d h = h

  -- what is left is no more than the maximum
  pub left_short : (q : Query) → query_fits s state q ≡ true → query_left q ≤ s.maximum
  unfolding running_fits
  left_short None h = omega arith
  left_short (Running left due) h = leb-true left s.maximum (and_left (leb left s.maximum) _ (and_right (not (eqb left 0)) _ h))
  left_short TimedOut h = omega arith

-- what is left of the query that a request meets
pub running_short : (s : Settings) (q : Query) → query_left q ≤ 65535 → s.maximum ≤ 65535 → query_left (running_of s q) ≤ 65535
unfolding running_of
running_short s None l m = m
running_short s (Running left due) l m = l
running_short s TimedOut l m = m

-- an identifier has two octets
pub stepped_short : (q : Query) (i : ℕ) → i ≤ 65535 → stepped_of q i ≤ 65535
unfolding stepped_of
stepped_short q i l =
    pick_both (λ (n : ℕ). n ≤ 65535) (is_running q) l (omega arith)

-- no query stays none, in any state and by any step
pub none_stays :
    (s : Settings) (state d : ℕ) (q : Query) → eqb (query_number q) 0 ≡ true → eqb (query_number (query_timed s (query_in state q) d)) 0 ≡ true
unfolding query_in running_number
none_stays s state d None h = pick_both (λ q. eqb (query_number (query_timed s q d)) 0 ≡ true) (eqb state 4) refl refl
none_stays s state d (Running left true) h = let z : ◌≡◌ {A = ℕ} 0 1 = cc in absurd (omega arith)
none_stays s state d (Running left false) h = let z : ◌≡◌ {A = ℕ} 0 1 = cc in absurd (omega arith)
none_stays s state d TimedOut h = let z : ◌≡◌ {A = ℕ} 0 1 = cc in absurd (omega arith)

-- ---- the numbers of a query, where a table is shown

-- they give it back
pub query_back : (q : Query) → query_of (query_number q) (query_left q) ≡ q
unfolding query_of running_number
query_back None = refl
query_back (Running left true) = refl
query_back (Running left false) = refl
query_back TimedOut = refl

pub query_number_small : (q : Query) → query_number q ≤ 3
unfolding running_number
query_number_small None = omega arith
query_number_small (Running left true) = omega arith
query_number_small (Running left false) = omega arith
query_number_small TimedOut = omega arith

-- and are given back, where there is a query of that number, and a time left only of one that runs
pub number_back : (n left : ℕ) → n ≤ 3 → (eqb n 1 ≡ false → eqb n 2 ≡ false → left ≡ 0) → (query_number (query_of n left) ≡ n) × (query_left (query_of n left) ≡ left)
unfolding query_of running_number
number_back n left small only =
    by_bool (eqb n 1) (λ e. rw e (sym (eqb-true n 1 e), refl)) (λ e1.
    by_bool (eqb n 2) (λ e. rw (e1, e) (sym (eqb-true n 2 e), refl)) (λ e2.
    let none : left ≡ 0 = only e1 e2 in
    by_bool (eqb n 3) (λ e. rw (e1, e2, e) (sym (eqb-true n 3 e), sym none))
    (λ e3.
    let n1 = eqb-false n 1 e1 in
    let n2 = eqb-false n 2 e2 in
    let n3 = eqb-false n 3 e3 in
    let zero : n ≡ 0 = omega arith in
    rw (e1, e2, e3) (sym zero, sym none))))
