-- 01: the bytes-written number "is the frame's length, or eight times the timeouts" (Timeouts.antt), at most 37, or 256 for a clock step; "Bytes
-- beyond those written stay as they were." Of any event, lent the buffer l: `written_count`. (That there are 32 records is the table's type.)
-- Assumes nothing.
use Prim.Native.Nat.{ℕ, ◌+◌, ◌*◌, ◌≤◌}
use mathlib.Core.Path.{◌≡◌, refl, ◌∙◌}
use mathlib.Core.Bool.{true}
use mathlib.Core.List.{List, [], ◌∷◌, ◌++◌}
use native.Mathlib.Omega.{arith}
use native.Mathlib.Nat.{zero-add}
use lib.Dec.{ltb, eqb}
use lib.ListN.{length, drop, length-append, length-drop}
use lib.Seq.{sets, sets-eq, take-append_seam, drop-append_seam}
use borrow.Author.Tests.{ltb-false, not-true, eqb-true}
use Rattle.std.proofs.Common.{Option, None, Some}
use Rattle.octets.specs.Frame.{longest, bytes_of, written_of, length_of}
use Rattle.octets.proofs.Branch.{and_left, by_bool}
use Rattle.octets.proofs.Lengths.{bytes_length, body_short}
use Rattle.octets.specs.declared.frame.Frame.{Frame}
use Rattle.peer.specs.Tick.{tick_of}
use Rattle.peer.specs.declared.settings.Settings.{Settings}
use Rattle.peer.specs.declared.record.Record.{Record}
use Rattle.table.specs.Places.{all_tails}
use Rattle.table.specs.Answer.{settled_of, refused_of, said_length, said_in, stepped_of}
use Rattle.table.specs.Refusals.{first_of, unless}
use Rattle.table.specs.Receive.{received_of}
use Rattle.table.specs.Ask.{asked_of}
use Rattle.table.specs.Link.{linked_of}
use Rattle.table.specs.Pass.{reports_of, pass_refusals, clocked_of, passed_of, passed_in}
use Rattle.table.specs.Step.{step_of, step_in}
use Rattle.table.specs.Exactly.{NoneHolds}
use Rattle.table.specs.Written.{reply_bytes, step_bytes, most_of, Written}
use Rattle.table.specs.declared.rules.event.Event.{Event}
use Rattle.table.specs.declared.rules.event.Event.TheVariants as event
use Rattle.table.proofs.Passes.Ticks.{report_short}
use Rattle.table.proofs.Theorems.RefusedExactly.{refused_exactly, refusal_first}

-- octets vs at the front of l
at_front : (most : ℕ) (vs l : List ℕ) → length vs ≤ most → length vs ≤ length l → Written most vs l (vs ++ drop (length vs) l) (length vs)
at_front most vs l h k = record {
  count = refl;
  few = h;
  inside = k;
  same = simp (length-append, length-drop) (omega arith);
  front = take-append_seam vs (drop (length vs) l);
  rest = drop-append_seam vs (drop (length vs) l);
}

-- ---- a reply

reply_written : (r : Option Frame) (l : List ℕ) → (ltb (length l) longest ≡ true → r ≡ None) → Written longest (reply_bytes r) l (said_in r l) (said_length r (length l))
unfolding written_of length_of
reply_written None l h = at_front longest [] l (omega arith) (omega arith)
reply_written (Some f) l h = by_bool (ltb (length l) longest)
    (λ e. let z : ◌≡◌ {A = ℕ} 0 1 = cc (h e) in absurd (omega arith))
    (λ e.
    let long : 37 ≤ length l = ltb-false (length l) 37 e in
    let short : length (bytes_of f) ≤ 37 = omega (arith, bytes_length f, body_short f.body) in
    simp e (at_front longest (bytes_of f) l short (omega arith)))

received_silent : (s : Settings) (t : List Record) (xs : List ℕ) (n : ℕ) → ltb n longest ≡ true → (received_of s t xs n).reply ≡ None
unfolding received_of refused_of settled_of
received_silent s t xs n e = rw e

asked_silent : (s : Settings) (t : List Record) (q a c n : ℕ) → ltb n longest ≡ true → (asked_of s t q a c n).reply ≡ None
unfolding asked_of first_of unless refused_of settled_of
asked_silent s t q a c n e = rw e

linked_silent : (s : Settings) (t : List Record) (xs : List ℕ) (n : ℕ) → ltb n longest ≡ true → (linked_of s t xs n).reply ≡ None
unfolding linked_of first_of unless refused_of settled_of
linked_silent s t xs n e = rw e

-- ---- a clock step

-- what is not refused has room for the reports of 32 places
pass_room : (s : Settings) (t : List Record) (d n : ℕ) → NoneHolds (pass_refusals s t d n) → 256 ≤ n
unfolding all_tails
pass_room s t d n h = ltb-false n 256 (not-true (ltb n 256) (and_left _ _ h))

reports_short : (s : Settings) (d n : ℕ) (t : List Record) → length (reports_of s d n t) ≤ 8 * length t
unfolding reports_of
reports_short s d n [] = omega arith
reports_short s d n (p ∷ t) =
    simp length-append (omega (arith, report_short n (tick_of s p d).report p.address, reports_short s d (n + 1) t))

passed_written : (s : Settings) (t : List Record) (d : ℕ) (xs l : List ℕ) → length t ≡ 32 → Written 256 (step_bytes s t (event.Clock d) xs (length l)) l (passed_in s t d l) (passed_of s t d (length l)).answer.written
unfolding passed_in passed_of clocked_of
passed_written s t d xs l h = by_bool (eqb (first_of (pass_refusals s t d (length l))) 0)
    (λ e.
    let vs = reports_of s d 0 t in
    let done = (refused_exactly s t (event.Clock d) xs (length l)).done (refusal_first s t (event.Clock d) xs (length l) ∙ eqb-true _ 0 e) in
    let room : 256 ≤ length l = pass_room s t d (length l) done in
    let short : length (reports_of s d 0 t) ≤ 256 = omega (arith, reports_short s d 0 t) in
    let eq : sets l 0 vs ≡ vs ++ drop (length vs) l = sets-eq vs l 0 (rw zero-add (omega arith)) ∙ rw zero-add in
    simp (e, eq) (at_front 256 vs l short (omega arith)))
    (λ e. simp e (at_front 256 [] l (omega arith) (omega arith)))

pub written_count : (s : Settings) (t : List Record) (e : Event) (xs l : List ℕ) → length t ≡ 32 → Written (most_of e) (step_bytes s t e xs (length l)) l (step_in s t e xs l) (step_of s t e xs (length l)).answer.written
unfolding stepped_of
written_count s t event.Frame xs l h = reply_written (received_of s t xs (length l)).reply l (received_silent s t xs (length l))
written_count s t (event.Ask q a c) xs l h = reply_written (asked_of s t q a c (length l)).reply l (asked_silent s t q a c (length l))
written_count s t event.Links xs l h = reply_written (linked_of s t xs (length l)).reply l (linked_silent s t xs (length l))
written_count s t (event.Clock d) xs l h = passed_written s t d xs l h
