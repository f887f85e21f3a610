-- 02, K6, "One long step or two short", of an SA Query: what two steps make of it is what their sum makes of it; and where the sum reaches no retry,
-- one of the two reports what the sum does, the other nothing.
-- Assumes nothing.
use Rattle.std.proofs.Common.{◌≡◌, ℕ, ◌+◌, ◌-◌, ◌/◌, ◌<◌, ◌≤◌, false, ◌||◌, eqb, ltb, leb, refl, ◌∙◌, le_trans, le-div_iff_mul-le, div-mul-le_self, arith, ltb-false, ltb-true, lt-ltb, le-leb, leb-false, leb-true}
use Rattle.std.proofs.Math.Bool.{or_assoc}
use borrow.Author.Tests.{eqb-false, lt-leb}
use Rattle.octets.proofs.Branch.{by_bool}
use Rattle.peer.specs.Query.{query_in, query_report, query_retried, query_timed, reaches, running_report, running_retried, running_timed}
use Rattle.peer.specs.declared.query.Query.TheVariants as query
use Rattle.peer.specs.declared.query.Query.{Query}
use Rattle.peer.specs.declared.settings.Settings.{Settings}
use Rattle.peer.proofs.Fits.{or_left}

-- of numbers that rise, the first is below the last exactly if one of them is below the next
between : (x y z : ℕ) → x ≤ y → y ≤ z → (ltb x y || ltb y z) ≡ ltb x z
between x y z a b = by_bool (ltb x y)
    (λ h. rw (h, lt-ltb x z (omega (arith, ltb-true x y h))))
    (λ h. let e : y ≡ x = omega (arith, ltb-false x y h) in rw (h, e))

quotients : (a b k : ℕ) → 0 < k → a ≤ b → a / k ≤ b / k
quotients a b k h l = (le-div_iff_mul-le {k = k} {x = a / k} {y = b} h).1 (le_trans (div-mul-le_self a k) l)

module _ (s : Settings) (left d : ℕ) (top : left ≤ s.maximum) (on : d < left) where
  -- a retry is reached by two steps if by one of them
  reaches_twice : (e : ℕ) → (reaches s left d || reaches s (left - d) e) ≡ reaches s left (d + e)
  unfolding reaches
  reaches_twice e = by_bool (eqb s.retry 0)
      (λ z. rw z)
      (λ z.
      let some : 0 < s.retry = let n = eqb-false s.retry 0 z in omega arith in
      let since : s.maximum - (left - d) ≡ s.maximum - left + d = omega arith in
      let sum : s.maximum - left + (d + e) ≡ s.maximum - left + d + e = omega arith in
      rw (z, since, sum) (between _ _ _
      (quotients (s.maximum - left) (s.maximum - left + d) s.retry some (omega arith))
      (quotients (s.maximum - left + d) (s.maximum - left + d + e) s.retry some (omega arith))))

  -- where the sum reaches none, the first step does not, nor does the second where the first left the query
  unretried : (e : ℕ) → running_retried s left (d + e) ≡ false → (reaches s left d ≡ false) × (running_retried s (left - d) e ≡ false)
  unfolding running_retried
  unretried e h = by_bool (leb (left - d) e)
      (λ l.
      let m : left - 1 ≡ d + (left - d - 1) = omega arith in
      let r : reaches s left (d + (left - d - 1)) ≡ false = rw (le-leb left (d + e) (let k = leb-true (left - d) e l in omega arith), m) at h in
      rw l (or_left (reaches s left d) _ (reaches_twice (left - d - 1) ∙ r)))
      (λ l.
      let r : reaches s left (d + e) ≡ false = rw (lt-leb left (d + e) (let k = leb-false (left - d) e l in omega arith)) at h in
      rw l (or_left (reaches s left d) _ (reaches_twice e ∙ r)))

-- in a state a second time; and none
pub in_in : (state : ℕ) (q : Query) → query_in state (query_in state q) ≡ query_in state q
unfolding query_in
in_in state q = by_bool (eqb state 4) (λ e. rw e) (λ e. rw e)

pub in_none : (state : ℕ) → query_in state query.None ≡ query.None
unfolding query_in
in_none state = by_bool (eqb state 4) (λ e. rw e) (λ e. rw e)

-- what a query has left is at most the maximum
abbrev pub Bounded : Settings → Query → Type 0
Bounded s query.None = Unit
Bounded s (query.Running left due) = left ≤ s.maximum
Bounded s query.TimedOut = Unit

-- of two steps, one reports what the long one reports, and the other nothing
pub data Shared (one two long : ℕ) : Type 0 where
  early : one ≡ long → two ≡ 0 → Shared one two long
  late : one ≡ 0 → two ≡ long → Shared one two long

module _ (s : Settings) where
  pub timed_twice : (q : Query) (d e : ℕ) → Bounded s q → query_timed s (query_timed s q d) e ≡ query_timed s q (d + e)
  unfolding running_timed
  timed_twice query.None d e b = refl
  timed_twice query.TimedOut d e b = refl
  timed_twice (query.Running left due) d e b = by_bool (leb left d)
      (λ l. rw (l, le-leb left (d + e) (let k = leb-true left d l in omega arith)))
      (λ l. by_bool (leb (left - d) e)
      (λ r. rw (l, r, le-leb left (d + e) (let k = leb-true (left - d) e r in omega arith)))
      (λ r.
      let less : left - d - e ≡ left - (d + e) = omega arith in
      rw (
        l,
        r,
        lt-leb left (d + e) (let k = leb-false (left - d) e r in omega arith),
        less,
        or_assoc due (reaches s left d) (reaches s (left - d) e),
        reaches_twice s left d b (leb-false left d l) e,
      )))

  pub query_shared :
      (q : Query) (d e : ℕ) → Bounded s q → query_retried s (d + e) q ≡ false
      → Shared (query_report s q d) (query_report s (query_timed s q d) e) (query_report s q (d + e))
  unfolding running_timed running_report running_retried
  query_shared query.None d e b h = early refl refl
  query_shared query.TimedOut d e b h = early refl refl
  query_shared (query.Running left due) d e b h = by_bool (leb left d)
      (λ l. rw (l, le-leb left (d + e) (let k = leb-true left d l in omega arith)) (early refl refl))
      (λ l.
      let u = unretried s left d b (leb-false left d l) e h in
      by_bool (leb (left - d) e)
      (λ r. rw (l, u.0, r, le-leb left (d + e) (let k = leb-true (left - d) e r in omega arith)) (late refl refl))
      (λ r.
      let none : reaches s left (d + e) ≡ false = rw (lt-leb left (d + e) (let k = leb-false (left - d) e r in omega arith)) at h in
      rw (l, u.0, r, lt-leb left (d + e) (let k = leb-false (left - d) e r in omega arith), none, rw r at u.1) (late refl refl)))

  pub query_unretried : (q : Query) (d e : ℕ) → Bounded s q → query_retried s (d + e) q ≡ false → query_retried s e (query_timed s q d) ≡ false
  unfolding running_timed
  query_unretried query.None d e b h = refl
  query_unretried query.TimedOut d e b h = refl
  query_unretried (query.Running left due) d e b h = by_bool (leb left d)
      (λ l. rw l)
      (λ l. rw l (unretried s left d b (leb-false left d l) e h).1)

  -- Leaving State 4 takes a query away before the step or after it: the same.
  pub in_timed : (state : ℕ) (q : Query) (d : ℕ) → query_in state (query_timed s q d) ≡ query_timed s (query_in state q) d
  unfolding query_in
  in_timed state q d = by_bool (eqb state 4) (λ e. rw e) (λ e. rw e)

  pub in_bounded : (state : ℕ) (q : Query) → Bounded s q → Bounded s (query_in state q)
  unfolding query_in
  in_bounded state q b = by_bool (eqb state 4) (λ e. rw e b) (λ e. rw e tt)

  pub in_unretried : (state : ℕ) (q : Query) (n : ℕ) → query_retried s n q ≡ false → query_retried s n (query_in state q) ≡ false
  unfolding query_in
  in_unretried state q n h = by_bool (eqb state 4) (λ e. rw e h) (λ e. rw e)

  pub timed_bounded : (q : Query) (d : ℕ) → Bounded s q → Bounded s (query_timed s q d)
  unfolding running_timed
  timed_bounded query.None d b = tt
  timed_bounded (query.Running left due) d b = by_bool (leb left d) (λ l. rw l tt) (λ l. rw l (omega arith))
  timed_bounded query.TimedOut d b = tt
