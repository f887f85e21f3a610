-- 02, K4: "A reason is named exactly when that rule holds and no earlier one does, and beside it a frame's length for 3, the state for 7 and the class
-- filter, the hold left for 8, else 0" (`why_exactly`, of any event).
-- Assumes nothing.
use Prim.Native.Nat.{ℕ, ◌≤◌}
use mathlib.Core.Path.{◌≡◌, refl, sym}
use mathlib.Core.Bool.{Bool, true, false, not, ◌||◌}
use mathlib.Core.List.{List, [], ◌∷◌}
use native.Mathlib.Omega.{arith}
use lib.Dec.{eqb, ltb}
use lib.ListN.{length}
use borrow.Author.Tests.{eqb-true, ne_eqb, not-false}
use Rattle.octets.proofs.Branch.{by_bool}
use Rattle.octets.proofs.Sorts.{sort_class}
use Rattle.octets.specs.Address.{group_of, valid_of}
use Rattle.octets.specs.Class.{class_in, class_of, classless}
use Rattle.octets.specs.Element.{broken_of}
use Rattle.octets.specs.Field.{field}
use Rattle.octets.specs.Frame.{longest}
use Rattle.octets.specs.Heard.{heard_of}
use Rattle.octets.specs.Pick.{pick}
use Rattle.octets.specs.Shape.{is_bare, least_of, shape_of}
use Rattle.octets.specs.Sort.{class_by, sort_of}
use Rattle.peer.proofs.Fits.{or_left}
use Rattle.peer.specs.Filter.{passes_of}
use Rattle.peer.specs.Idle.{group_barred, idle_of}
use Rattle.peer.specs.Record.{fresh_of}
use Rattle.peer.specs.Settings.{role_associates}
use Rattle.peer.specs.declared.record.Record.{Record}
use Rattle.peer.specs.declared.settings.Settings.{Settings}
use Rattle.table.specs.Exactly.{Exactly, refusals_of}
use Rattle.table.specs.Fit.{well_formed}
use Rattle.table.specs.Link.{device_in}
use Rattle.table.specs.Places.{addresses_of, all_tails, find_of, seek_of}
use Rattle.table.specs.Read.{for_us, read_bare, read_from, read_full, read_of}
use Rattle.table.specs.Reasons.{WhyExactly, frame_reasons, hold_told, length_told, out_of_class, reasons_of, state_told, to_group, unnamed, value_told}
use Rattle.table.specs.Refusals.{first_of}
use Rattle.table.specs.Seat.{peer_of}
use Rattle.table.specs.Why.{ask_why, beside, class_filter, frame_why, plain, reason_number, why_asked, why_from, why_linked, why_of, why_passed}
use Rattle.table.specs.declared.rules.event.Event.{Event}
use Rattle.table.specs.declared.rules.event.Event.TheVariants as event
use Rattle.table.specs.declared.rules.why.Reason.TheVariants.{None, ClassFilter, GroupRule, NothingToDo}
use Rattle.table.specs.declared.rules.why.Why.{Why}
use Rattle.table.proofs.Theorems.RefusedExactly.{first_below, first_exactly}
use Rattle.table.proofs.Theorems.WhyDeeds.{idle_same}
use Rattle.table.proofs.Theorems.WhyFrames.{device_told_lem, group_same, kept_same, sender_told_lem}
use Rattle.table.proofs.Theorems.Worded.{ruled_at, worded}
use Rattle.table.proofs.Theorems.WordedLinks.{ruled_links_at, worded_links}
use Rattle.table.proofs.Theorems.WordedRecords.{valid_named}

-- w has the number k of its reason, and the value that goes with it.
record Right (t : List Record) (e : Event) (xs : List ℕ) (k : ℕ) (w : Why) : Type 0 where
  number : reason_number w.reason ≡ k
  value : w.value ≡ value_told t e xs (reason_number w.reason)

-- ---- a frame

module _ (s : Settings) (t : List Record) (xs : List ℕ) where
  abbrev sender : ℕ
  sender = field 6 10 xs

  abbrev peer : Record
  peer = peer_of t (seek_of t (addresses_of t) sender) sender

  abbrev Named : List (ℕ × Bool) → Why → Type 0
  Named l w = Right t event.Frame xs (first_of l) w

  last_three : (a b c : Bool) → peer.state ≡ state_told t event.Frame xs
      → Named ((11, a) ∷ (12, b) ∷ (13, c) ∷ []) (pick a (beside ClassFilter peer.state) (pick b (plain GroupRule) (pick c (plain NothingToDo) (plain None))))
  unfolding first_of
  last_three true b c e = record { number = refl; value = e }
  last_three false true c e = record { number = refl; value = refl }
  last_three false false true e = record { number = refl; value = refl }
  last_three false false false e = record { number = refl; value = refl }

  from_right : classless (class_of xs) ≡ false → valid_of sender ≡ true
      → Named ((11, out_of_class s.role (state_told t event.Frame xs) xs) ∷ (12, to_group xs) ∷ (13, unnamed s t xs) ∷ [])
      (why_from s peer (class_by (sort_of (role_associates s.role) xs)) (group_of (field 6 4 xs)) (heard_of xs))
  unfolding why_from fresh_of
  from_right c v =
      let z = valid_named sender v in
      let e : state_told t event.Frame xs ≡ peer.state = sender_told_lem (λ (p : Record). p.state) t xs z in
      rw (sort_class (role_associates s.role) xs, e, kept_same s.role peer.state xs c, group_same xs, idle_same s t xs z)
      (last_three (not (passes_of s.role (class_in (role_associates s.role) xs) peer.state)) (group_barred (group_of (field 6 4 xs)) (heard_of xs)) (idle_of s peer (group_of (field 6 4 xs)) (heard_of xs)) (sym e))

  right : {k : ℕ} {w : Why} → reason_number w.reason ≡ k → w.value ≡ value_told t event.Frame xs (reason_number w.reason) → Right t event.Frame xs k w
  right n v = record { number = n; value = v }

  frame_right : (n : ℕ) → Named (frame_reasons s t xs n) (why_of s t event.Frame xs n)
  unfolding why_of first_of read_of shape_of read_bare read_full read_from frame_why
  frame_right n =
      by_bool (ltb n longest) (λ a. simp a (right refl refl)) (λ a.
      by_bool (well_formed s t) (λ b.
      by_bool (ltb (length xs) 10 || ltb 4096 (length xs)) (λ c. simp (a, b, c) (right refl refl)) (λ c.
      by_bool (classless (class_of xs)) (λ d. simp (a, b, c, d) (right refl refl)) (λ d.
      by_bool (ltb (length xs) (least_of (field 1 0 xs))) (λ e. simp (a, b, c, d, e) (right refl refl)) (λ e.
      by_bool (for_us s.own (field 6 4 xs))
      (λ f. by_bool (is_bare (field 1 0 xs)) (λ g. simp (a, b, c, d, e, f, g) (right refl refl)) (λ g.
      by_bool (eqb sender s.own || not (valid_of sender)) (λ h. simp (a, b, c, d, e, f, g, h) (right refl refl)) (λ h.
      by_bool (broken_of xs) (λ i. simp (a, b, c, d, e, f, g, h, i) (right refl refl))
      (λ i. simp (a, b, c, d, e, f, g, h, i) (from_right d (not-false _ (or_left (eqb sender s.own) _ h).1))))))
      (λ f. by_bool (is_bare (field 1 0 xs)) (λ g. simp (a, b, c, d, e, f, g) (right refl refl)) (λ g. simp (a, b, c, d, e, f, g) (right refl refl)))))))
      (λ b. simp (a, b) (right refl refl)))

-- ---- a primitive, links named, a clock step

module _ (t : List Record) (e : Event) (xs : List ℕ) (p : Record) (short : length_told e xs ≡ 0) (state : p.state ≡ state_told t e xs) (hold : p.hold ≡ hold_told t e xs) where
  value_right : (k : ℕ) → k ≤ 9 → pick (eqb k 7) p.state (pick (eqb k 8) p.hold 0) ≡ value_told t e xs k
  value_right k few =
      by_bool (eqb k 3) (λ a. rw (eqb-true k 3 a) (sym short)) (λ a.
      by_bool (eqb k 7) (λ b. rw (eqb-true k 7 b) state) (λ b.
      by_bool (eqb k 8) (λ c. rw (eqb-true k 8 c) hold) (λ c.
      rw (a, b, c, ne_eqb k class_filter (λ (q : k ≡ 11). omega (arith, q))))))

  ask_right : (k : ℕ) → k ≤ 9 → Right t e xs k (ask_why k p)
  unfolding ask_why
  ask_right k few = by_bool (eqb k 0)
      (λ z. rw (eqb-true k 0 z) (record { number = refl; value = refl }))
      (λ z. rw z (record { number = refl; value = value_right k few }))

asked_right : (s : Settings) (t : List Record) (q a c : ℕ) (xs : List ℕ) (n : ℕ) → Right t (event.Ask q a c) xs (first_of (refusals_of s t (event.Ask q a c) xs n)) (why_of s t (event.Ask q a c) xs n)
unfolding why_of why_asked first_of fresh_of all_tails
asked_right s t q a c xs n = rw (worded s t q a c n) (
    by_bool (ltb n longest) (λ e. simp e (record { number = refl; value = refl })) (λ e.
    by_bool (well_formed s t)
    (λ f. simp (e, f) (ask_right t (event.Ask q a c) xs (peer_of t (find_of (addresses_of t) a) a) refl (sym (device_told_lem (λ (p : Record). p.state) t a)) (sym (device_told_lem (λ (p : Record). p.hold) t a)) (first_of (ruled_at s t (addresses_of t) q a c)) (first_below (ruled_at s t (addresses_of t) q a c) refl)))
    (λ f. simp (e, f) (record { number = refl; value = refl }))))

linked_right : (s : Settings) (t : List Record) (xs : List ℕ) (n : ℕ) → Right t event.Links xs (first_of (refusals_of s t event.Links xs n)) (why_of s t event.Links xs n)
unfolding why_of why_linked first_of fresh_of all_tails
linked_right s t xs n = rw (worded_links s t xs n) (
    by_bool (ltb n longest) (λ e. simp e (record { number = refl; value = refl })) (λ e.
    by_bool (well_formed s t)
    (λ f. simp (e, f) (ask_right t event.Links xs (peer_of t (find_of (addresses_of t) (device_in xs)) (device_in xs)) refl (sym (device_told_lem (λ (p : Record). p.state) t (device_in xs))) (sym (device_told_lem (λ (p : Record). p.hold) t (device_in xs))) (first_of (ruled_links_at s t (addresses_of t) xs)) (first_below (ruled_links_at s t (addresses_of t) xs) refl)))
    (λ f. simp (e, f) (record { number = refl; value = refl }))))

passed_right : (s : Settings) (t : List Record) (d : ℕ) (xs : List ℕ) (n : ℕ) → Right t (event.Clock d) xs (first_of (refusals_of s t (event.Clock d) xs n)) (why_of s t (event.Clock d) xs n)
unfolding why_of why_passed first_of
passed_right s t d xs n =
    by_bool (ltb n 256) (λ e. simp e (record { number = refl; value = refl })) (λ e.
    by_bool (well_formed s t)
    (λ f. by_bool (eqb d 0) (λ g. simp (e, f, g) (record { number = refl; value = refl })) (λ g. simp (e, f, g) (record { number = refl; value = refl })))
    (λ f. simp (e, f) (record { number = refl; value = refl })))

why_right : (s : Settings) (t : List Record) (e : Event) (xs : List ℕ) (n : ℕ) → Right t e xs (first_of (reasons_of s t e xs n)) (why_of s t e xs n)
why_right s t event.Frame xs n = frame_right s t xs n
why_right s t (event.Ask q a c) xs n = asked_right s t q a c xs n
why_right s t event.Links xs n = linked_right s t xs n
why_right s t (event.Clock d) xs n = passed_right s t d xs n

-- Of any settings, table, event, frame and length of the buffer.
pub why_exactly : (s : Settings) (t : List Record) (e : Event) (xs : List ℕ) (n : ℕ) → WhyExactly s t e xs n (why_of s t e xs n)
unfolding all_tails
why_exactly s t e xs n =
    let r = why_right s t e xs n in
    record { reason = rw r.number (exactly e); value = r.value }
  where
    exactly : (e : Event) → Exactly (first_of (reasons_of s t e xs n)) (reasons_of s t e xs n)
    exactly event.Frame = first_exactly (frame_reasons s t xs n) refl
    exactly (event.Ask q a c) = first_exactly (refusals_of s t (event.Ask q a c) xs n) refl
    exactly event.Links = first_exactly (refusals_of s t event.Links xs n) refl
    exactly (event.Clock d) = first_exactly (refusals_of s t (event.Clock d) xs n) refl
