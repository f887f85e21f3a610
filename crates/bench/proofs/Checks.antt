-- A check keeps to the run and to the comparison, round by round; and what it says in the end is what is said of the whole input and the whole log.
-- Assumes nothing.
use Prim.Native.Nat.{ℕ, ◌+◌, ◌-◌, ◌≤◌, ◌<◌}
use mathlib.Core.Path.{◌≡◌, refl, sym, ◌∙◌}
use mathlib.Core.Bool.{true, false}
use mathlib.Core.List.{List, [], ◌∷◌, ◌++◌, append_assoc}
use mathlib.Core.Logic.{◌↔◌}
use native.Mathlib.Nat.{sub-zero}
use native.Mathlib.Omega.{arith}
use lib.Dec.{leb}
use lib.ListN.{length, replicate, take}
use borrow.Author.Tests.{eq-eqb, le-leb, leb-false, leb-true}
use Rattle.octets.proofs.Branch.{by_bool, pick_by}
use Rattle.peer.proofs.Fits.{clash}
use Rattle.rival.proofs.Exact.{exactly}
use Rattle.rival.proofs.Passing.{taken_ours, taken_theirs}
use Rattle.rival.proofs.Piecemeal.{settled_said}
use Rattle.rival.specs.Beside.{compared_of, said_by}
use Rattle.rival.specs.Log.{said_of}
use Rattle.rival.specs.Pieces.{begun, compared, is_none, log_came, ours_came}
use Rattle.rival.specs.Says.{Says}
use Rattle.rival.specs.declared.Said.{Said}
use Rattle.bench.specs.Check.{CheckRound, Checking, Held, Logged, Ours, beside_on, broke, came, check_at_first, held, is_settled, is_unread, lost, off, on, part_of, read_on, same, stayed, turned, unread, with_run}
use Rattle.bench.specs.Printed.{bench_output}
use Rattle.bench.specs.Rounds.{ahead, start, went}
use Rattle.bench.specs.Run.{ahead_of, behind_of, flushed_of, start_of}
use Rattle.bench.specs.declared.checker.Check.{Check}
use Rattle.bench.specs.declared.run.Prints.TheVariants.{Lines}
use Rattle.bench.specs.declared.run.Run.{Run}
use Rattle.bench.proofs.Ahead.{ahead_behind, ahead_length}
use Rattle.bench.proofs.Reached as reached
use Rattle.bench.proofs.Reached.{Turns, failed_then, went_on}
use Rattle.bench.proofs.Whole.{kept, to_come}

-- the octets at hand
at_hand : (at have : ℕ) (xs : List ℕ) → at ≤ have → have ≤ length xs → part_of at have xs ≡ ahead_of at have xs
unfolding part_of
at_hand at have xs h g = rw (le-leb at have h, le-leb have (length xs) g)

none_ahead : (at have : ℕ) (xs : List ℕ) → have ≤ at → ahead_of at have xs ≡ []
none_ahead at have xs h =
    let z : have - at ≡ 0 = omega arith in
    rw z

all_ahead : (have : ℕ) (xs : List ℕ) → ahead_of 0 have xs ≡ take have xs
all_ahead have xs = rw sub-zero

some_left : (l : List ℕ) → 0 < length l → is_none l ≡ false
some_left [] h = absurd (omega arith)
some_left (x ∷ l) h = refl

none_is : (at have : ℕ) (xs : List ℕ) → at ≤ have → have ≤ length xs → is_none (ahead_of at have xs) ≡ leb have at
none_is at have xs h g =
    by_bool (leb have at)
    (λ e. rw (none_ahead at have xs (leb-true have at e), e))
    (λ e. rw e (some_left (ahead_of at have xs) (omega (arith, ahead_length at have xs h g, leb-false have at e))))

behind_inside : (at n have : ℕ) → at ≤ have → behind_of at n have ≤ have
unfolding behind_of
behind_inside at n have h = pick_by (λ (m : ℕ). m ≤ have) (leb (at + n) have) (λ e. leb-true (at + n) have e) (λ e. omega arith)

-- More of our lines.
unread_is : (t : Run) → t.done ≡ true → t.over ≡ false → t.out ≡ 0 → is_unread t ≡ true
unfolding is_unread
unread_is t d v z = rw (d, v, eq-eqb t.out 0 z)

module _ {ts xs o log : List ℕ} {c : Check} {read wrote theirs : List ℕ} (h : Checking ts xs o log c read wrote theirs) where
  turn_kept : {us ys k : List ℕ} (t : Run) → c.run.out ≤ c.mark → is_unread t ≡ false → t.out ≤ length k →
      Turns Lines 0 (wrote ++ take c.run.out o) us ys k t → Held us ys k log (with_run c t)
  unfolding with_run
  turn_kept {us} {ys} {k} t m u l (went_on w) =
      let e : ahead_of c.mark c.run.out o ≡ [] = none_ahead c.mark c.run.out o m in
      let v = rw e at h.went in
      held {theirs = theirs} (record { ran = w; marked = omega arith; filled = l; places = h.places; inside = h.inside; went = rw (all_ahead t.out k) (ours_came (take t.out k) v) })
  turn_kept t m u l (failed_then d v z) = clash (unread_is t d v z) u

  pub ours_kept : (us ys k : List ℕ) (q : Check) → length ys ≡ length xs → length k ≡ length o → length o ≡ 65536 → Ours ts xs o c us ys k q → Held us ys k log q
  unfolding flushed_of
  ours_kept us ys k q a b n (same e f g z) = rw (e, f, g, z) (held h)
  ours_kept us ys k q a b n (turned t m d w u l z) =
      rw z (turn_kept t m u l (reached.turned (went h.ran h.filled) d (omega arith) us ys k t a b w))
  ours_kept us ys k q a b n (broke e) = lost e

  -- More of the log.
  pub log_kept : (more : List ℕ) (q : Check) → length more ≡ length log → Logged log c more q → Held ts xs o more q
  unfolding read_on
  log_kept more q a (stayed e z) = rw (e, z) (held h)
  log_kept more q a (came n m z) =
      let e : ahead_of c.at c.have log ≡ [] = none_ahead c.at c.have log m in
      let v = rw e at h.went in
      let b = behind_of 0 n (length more) in
      rw z
      (held {theirs = theirs ++ take b more}
      (record { ran = h.ran; marked = h.marked; filled = h.filled; places = omega arith; inside = behind_inside 0 n (length more) (omega arith); went = rw (all_ahead b more) (log_came (take b more) v) }))
  log_kept more q a (unread e) = lost e

  -- The two beside each other.
  pub beside_kept : Checking ts xs o log (beside_on o log c) read wrote theirs
  unfolding beside_on
  beside_kept =
      let r = c.run in
      let p = ahead_of c.mark r.out o in
      let q = ahead_of c.at c.have log in
      let d = compared_of c.standing p q in
      let a = taken_ours c.standing p q in
      let b = taken_theirs c.standing p q in
      rw (at_hand c.mark r.out o h.marked h.filled, at_hand c.at c.have log h.places h.inside)
      (record {
        ran = h.ran;
        marked = behind_inside c.mark d.taken r.out h.marked;
        filled = h.filled;
        places = behind_inside c.at d.taken c.have h.places;
        inside = h.inside;
        went = rw (ahead_behind c.mark r.out o h.marked h.filled d.taken a, ahead_behind c.at c.have log h.places h.inside d.taken b) (compared h.went refl);
      })

  -- THE THEOREM. Nothing that may still come changes what is said: then what is said of the octets at hand is what is said of the whole output of the
  -- whole input, and of the whole log. `rest` and `tail` are what was not read of either; at its end there is nothing. (What it asks for
  -- is met: `check_all` keeps to such rounds, `round_on` below, and says nothing before it is settled.)
  pub check_said : (rest tail : List ℕ) → is_settled c ≡ true → (c.run.over ≡ true → rest ≡ []) → (c.over ≡ true → tail ≡ []) →
      said_by c.standing (part_of c.mark c.run.out o) (part_of c.at c.have log) ≡ said_of (bench_output (read ++ rest)) (theirs ++ tail)
  unfolding is_settled
  check_said rest tail s d v =
      let r = c.run in
      let us = to_come Lines ts r (ahead xs r) rest in
      let z = rw (← (none_is c.mark r.out o h.marked h.filled), ← (none_is c.at c.have log h.places h.inside)) at s in
      let e : bench_output (read ++ rest) ≡ (wrote ++ take r.out o) ++ us = (kept h.ran).law rest d ∙ sym (append_assoc wrote (take r.out o) us) in
      rw (at_hand c.mark r.out o h.marked h.filled, at_hand c.at c.have log h.places h.inside, e)
      (settled_said h.went us tail r.done c.over z (λ f. rw f) v)

  -- So it is said exactly where it holds: `right` where the log is the bench program's output, octet for octet, and so on (specs/Says.antt of the crate rival).
  pub check_exactly : (rest tail : List ℕ) → is_settled c ≡ true → (c.run.over ≡ true → rest ≡ []) → (c.over ≡ true → tail ≡ []) → (v : Said) →
      (said_by c.standing (part_of c.mark c.run.out o) (part_of c.at c.have log) ≡ v) ↔ Says (bench_output (read ++ rest)) (theirs ++ tail) v
  check_exactly rest tail s d o v = rw (check_said rest tail s d o) (exactly (bench_output (read ++ rest)) (theirs ++ tail) v)

-- The first, and a round.
pub unbroken_first : (c : Check) → c ≡ check_at_first → c.broken ≡ false
unfolding check_at_first
unbroken_first c e = rw e

pub at_first : (ts xs o log : List ℕ) (c : Check) → ts ≡ replicate 1536 0 → length xs ≡ 65536 → length o ≡ 65536 → c ≡ check_at_first → Held ts xs o log c
unfolding check_at_first start_of
at_first ts xs o log c z a b e =
    rw (z, e) (held (record { ran = start a b; marked = omega arith; filled = omega arith; places = omega arith; inside = omega arith; went = begun }))

by_log : {ts xs o more : List ℕ} (b q : Check) → Held ts xs o more b → b.broken ≡ false → q ≡ beside_on o more b → Held ts xs o more q
by_log b q (held h) n z = rw z (held (beside_kept h))
by_log b q (lost e) n z = clash e n

by_ours : {ts xs o log : List ℕ} {a : Check} (more : List ℕ) (b q : Check) → Held ts xs o log a → a.broken ≡ false → length more ≡ length log → Logged log a more b → b.broken ≡ false →
    q ≡ beside_on o more b → Held ts xs o more q
by_ours more b q (held h) n m l f z = by_log b q (log_kept h more b m l) f z
by_ours more b q (lost e) n m l f z = clash e n

pub round_on : {ts xs o log : List ℕ} {c : Check} (us ys k more : List ℕ) (q : Check) → Held ts xs o log c → c.broken ≡ false → length ys ≡ length xs → length k ≡ length o →
    length o ≡ 65536 → length more ≡ length log → CheckRound ts xs o log c us ys k more q → Held us ys k more q
round_on us ys k more q (held h) n a b l m (on x y f g r w z) = by_ours more y q (ours_kept h us ys k x a b l f) g m r w z
round_on us ys k more q (held h) n a b l m (off e) = lost e
round_on us ys k more q (lost e) n a b l m r = clash e n
