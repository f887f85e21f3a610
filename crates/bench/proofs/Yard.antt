-- What is imported: the frames are the packets kept, the clock steps are the time that passed, and every packet is counted.
-- Assumes nothing.
use Prim.Native.Nat.{ℕ, zero, suc, ◌+◌, ◌-◌, ◌*◌, ◌/◌, ◌%◌, ◌≤◌, ◌<◌}
use mathlib.Core.Path.{◌≡◌, refl, ap, ◌∙◌}
use mathlib.Core.Bool.{true, false}
use mathlib.Core.List.{List, [], ◌∷◌, ◌++◌}
use native.Mathlib.Nat.{zero-add}
use native.Mathlib.Omega.{arith}
use lib.Dec.{ltb, eqb}
use lib.ListN.{length}
use borrow.Author.Tests.{ltb-true, eqb-true, ne_eqb}
use Rattle.octets.specs.Pick.{pick}
use Rattle.octets.proofs.Branch.{by_bool}
use Rattle.bench.specs.Capture.{Packet, kept_of}
use Rattle.bench.specs.Import.{Item, step, frame, full_steps, rest_of, steps_then, moved_of, due_of, paid_of, items_from, counted_of, counts_from, unstarted}
use Rattle.bench.specs.Kept.{kept_in, left_in, latest_from, frames_in, steps_in}
use Rattle.bench.specs.Play.{number_after}
use Rattle.bench.specs.declared.passed.Clock.{Clock}

-- Clock steps hold no frame, and add up to the TU that are due.
frames_full : (k : ℕ) (is : List Item) → frames_in (full_steps k is) ≡ frames_in is
unfolding full_steps frames_in
frames_full zero is = refl
frames_full (suc k) is = frames_full k is

frames_steps : (n : ℕ) (is : List Item) → frames_in (steps_then n is) ≡ frames_in is
unfolding steps_then rest_of frames_in
frames_steps n is = frames_full (n / 65535) (pick (eqb (n % 65535) 0) is (step (n % 65535) ∷ is)) ∙ by_bool (eqb (n % 65535) 0) (λ e. rw e) (λ e. rw e)

steps_full : (k : ℕ) (is : List Item) → steps_in (full_steps k is) ≡ k * 65535 + steps_in is
unfolding full_steps steps_in
steps_full zero is = omega arith
steps_full (suc k) is = let e = steps_full k is in omega arith

steps_rest : (n : ℕ) (is : List Item) → steps_in (rest_of n is) ≡ n + steps_in is
unfolding rest_of steps_in
steps_rest n is = by_bool (eqb n 0) (λ e. rw (e, eqb-true n 0 e) (omega arith)) (λ e. rw e)

steps_due : (n : ℕ) (is : List Item) → steps_in (steps_then n is) ≡ n + steps_in is
unfolding steps_then
steps_due n is = steps_full (n / 65535) (rest_of (n % 65535) is) ∙ rw (steps_rest (n % 65535) is) (omega arith)

-- The frames written are exactly the packets kept, octet for octet, in order.
pub frames_kept : (c : Clock) (ps : List Packet) → frames_in (items_from c ps) ≡ kept_in ps
unfolding items_from kept_in frames_in
frames_kept c [] = refl
frames_kept c (p ∷ ps) =
    let m = moved_of c p.time in
    let q = paid_of m (due_of m) in
    by_bool (kept_of p)
    (λ h. rw h (frames_steps (due_of m) (frame p.octets ∷ items_from q ps) ∙ ap (λ (l : List (List ℕ)). p.octets ∷ l) (frames_kept q ps)))
    (λ h. rw h (frames_kept m ps))

abbrev some : List (List ℕ) → ℕ
some [] = 0
some (x ∷ xs) = 1

-- Where nothing is kept nothing is written: no step after the last frame.
pub none_kept : (c : Clock) (ps : List Packet) → kept_in ps ≡ [] → items_from c ps ≡ []
unfolding items_from kept_in
none_kept c [] h = refl
none_kept c (p ∷ ps) h =
    by_bool (kept_of p)
    (λ e. let z : ◌≡◌ {A = ℕ} 1 0 = ap some (rw e at h) in absurd (omega arith))
    (λ e. rw e (none_kept (moved_of c p.time) ps (rw e at h)))

-- A clock that goes right: steps were written up to no later than the latest time.
pub record Right (c : Clock) : Type 0 where
  pub started : c.started ≡ true
  pub order : c.since ≤ c.latest

abbrev later_of : ℕ → ℕ → ℕ
later_of l t = pick (ltb l t) t l

later_least : (l t : ℕ) → l ≤ later_of l t
later_least l t = by_bool (ltb l t) (λ e. rw e (omega (arith, ltb-true l t e))) (λ e. rw e (omega arith))

latest_least : (l : ℕ) (ps : List Packet) → l ≤ latest_from l ps
unfolding latest_from
latest_least l [] = omega arith
latest_least l (p ∷ ps) = omega (arith, later_least l p.time, latest_least (later_of l p.time) ps)

-- Less than one TU is owed once what is due is written.
pub owed_little : (c : Clock) → Right c → (paid_of c (due_of c)).latest - (paid_of c (due_of c)).since < 1024
unfolding paid_of due_of
owed_little c r = omega (arith, r.order)

-- THE TIME: up to the frame of a packet p that is kept, the steps add up to the whole TU between the time up to which steps were written before
-- and the latest time seen.
pub steps_add_up : (since latest : ℕ) (ps : List Packet) (p : Packet) → since ≤ latest → kept_of p ≡ true →
    steps_in (items_from (record { started = true; latest = latest; since = since }) (ps ++ p ∷ [])) ≡ (latest_from latest (ps ++ p ∷ []) - since) / 1024
unfolding items_from steps_in latest_from moved_of due_of paid_of
steps_add_up since latest [] p h k =
    rw k (steps_due ((later_of latest p.time - since) / 1024) (frame p.octets ∷ []) ∙ omega arith)
steps_add_up since latest (q ∷ ps) p h k =
    let l = later_of latest q.time in
    let d = (l - since) / 1024 in
    let a = later_least latest q.time in
    let b = latest_least l (ps ++ p ∷ []) in
    by_bool (kept_of q)
    (λ e.
    let i = steps_add_up (since + 1024 * d) l ps p (omega arith) k in
    rw e (steps_due d (frame q.octets ∷ items_from (record { started = true; latest = l; since = since + 1024 * d }) (ps ++ p ∷ [])) ∙ rw i (omega arith)))
    (λ e. rw e (steps_add_up since l ps p (omega arith) k))

-- From the start of a file: its first packet is q, and p is any packet behind it that is kept.
pub time_kept : (q : Packet) (ps : List Packet) (p : Packet) → kept_of p ≡ true →
    steps_in (items_from unstarted (q ∷ (ps ++ p ∷ []))) ≡ (latest_from q.time (ps ++ p ∷ []) - q.time) / 1024
unfolding items_from moved_of due_of paid_of steps_in
time_kept q ps p k =
    let z : (q.time - q.time) / 1024 ≡ 0 = omega arith in
    let s : q.time + 1024 * 0 ≡ q.time = omega arith in
    let i = steps_add_up q.time q.time ps p (omega arith) k in
    by_bool (kept_of q)
    (λ e. rw e (rw z (steps_due 0 (frame q.octets ∷ items_from (record { started = true; latest = q.time; since = q.time + 1024 * 0 }) (ps ++ p ∷ [])) ∙ rw (s, zero-add) i)))
    (λ e. rw e i)

-- No step before the first packet, kept or not.
pub first_at_once : (c : Clock) (t : ℕ) → c.started ≡ false → due_of (moved_of c t) ≡ 0
unfolding due_of moved_of
first_at_once c t s = rw s (omega arith)

-- Every packet is kept or left out.
pub kept_and_left : (ps : List Packet) → length (kept_in ps) + left_in ps ≡ length ps
unfolding kept_in left_in
kept_and_left [] = refl
kept_and_left (p ∷ ps) = let i = kept_and_left ps in by_bool (kept_of p) (λ e. rw e (omega arith)) (λ e. rw e (omega arith))

after_one : (n : ℕ) → n < 18446744073709551615 → number_after n ≡ n + 1
unfolding number_after
after_one n h = rw (ne_eqb n 18446744073709551615 (λ e. omega arith))

-- The two counts, of any number of packets below the highest number of 64 bits.
pub counts_exact : (ps : List Packet) (n m : ℕ) → n + length ps ≤ 18446744073709551615 → m ≤ n →
    counts_from (record { packets = n; left = m }) ps ≡ record { packets = n + length ps; left = m + left_in ps }
unfolding counts_from counted_of left_in
counts_exact [] n m h l =
    let a : n + 0 ≡ n = omega arith in
    let b : m + 0 ≡ m = omega arith in
    rw (a, b)
counts_exact (p ∷ ps) n m h l =
    let a : n + 1 + length ps ≡ n + suc (length ps) = omega arith in
    let b : m + 1 + left_in ps ≡ m + suc (left_in ps) = omega arith in
    by_bool (kept_of p)
    (λ e. rw (e, after_one n (omega arith)) (counts_exact ps (n + 1) m (omega arith) (omega arith) ∙ rw a))
    (λ e. rw (e, after_one n (omega arith), after_one m (omega arith)) (counts_exact ps (n + 1) (m + 1) (omega arith) (omega arith) ∙ rw (a, b)))
