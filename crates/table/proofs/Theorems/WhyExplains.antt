-- 02, K4: the reason agrees with the step that it explains (`why_explains`, of any event): a refusal is named exactly if the answer refuses with its number, no
-- class, class filter and group rule exactly if the frame is discarded, and nothing to do exactly if it is admitted with nothing changed, told or written.
-- Assumes nothing.
use Prim.Native.Nat.{ℕ}
use mathlib.Core.Path.{◌≡◌, refl}
use mathlib.Core.Bool.{Bool, false, not, ◌||◌}
use mathlib.Core.List.{List}
use native.Mathlib.Omega.{arith}
use lib.Dec.{eqb, ltb}
use lib.ListN.{length}
use borrow.Author.Tests.{eqb-false}
use Rattle.octets.proofs.Branch.{by_bool, pick_both}
use Rattle.octets.specs.Address.{group_of, valid_of}
use Rattle.octets.specs.Class.{class_of, classless}
use Rattle.octets.specs.Element.{broken_of}
use Rattle.octets.specs.Field.{field}
use Rattle.octets.specs.Frame.{longest}
use Rattle.octets.specs.Heard.{heard_of}
use Rattle.octets.specs.Shape.{is_bare, least_of, shape_of}
use Rattle.octets.specs.Sort.{class_by, sort_of}
use Rattle.octets.specs.declared.shape.Shape.{Shape}
use Rattle.peer.specs.Ask.{ask_of}
use Rattle.peer.specs.Record.{spoken_at}
use Rattle.peer.specs.Settings.{role_associates}
use Rattle.peer.specs.Turn.{linking_of, none, towards_of, turn_of}
use Rattle.peer.specs.declared.record.Record.{Record}
use Rattle.peer.specs.declared.settings.Settings.{Settings}
use Rattle.peer.specs.declared.turn.Turn.{Turn}
use Rattle.table.specs.Answer.{refused_of, settled_of, stepped_of}
use Rattle.table.specs.Ask.{asked_at, asked_of}
use Rattle.table.specs.Fit.{well_formed}
use Rattle.table.specs.Link.{device_in, linked_at, linked_of, links_in}
use Rattle.table.specs.Others.{others_of}
use Rattle.table.specs.Pass.{passed_of}
use Rattle.table.specs.Places.{addresses_of, find_of, on_found, seek_of}
use Rattle.table.specs.Read.{for_us, read_as, read_bare, read_from, read_full, read_of}
use Rattle.table.specs.Reasons.{Explains}
use Rattle.table.specs.Receive.{heard_at, heard_from, received_of}
use Rattle.table.specs.Refusals.{first_of, unless}
use Rattle.table.specs.Seat.{aid_of, newcomer_of, peer_of, seated_of, starts_of, stranger_of, turn_in}
use Rattle.table.specs.Step.{step_of}
use Rattle.table.specs.Why.{ask_why, frame_why, why_asked, why_linked, why_of, why_passed, why_read}
use Rattle.table.specs.declared.rules.answer.Met.{Met}
use Rattle.table.specs.declared.rules.event.Event.{Event}
use Rattle.table.specs.declared.rules.event.Event.TheVariants as event
use Rattle.table.specs.declared.rules.read.Reading.{Reading}
use Rattle.table.specs.declared.rules.read.Reading.TheVariants.{Refused, Discarded, Admitted, From}
use Rattle.std.specs.Prelude.{Option, Some, None}
use Rattle.table.specs.declared.rules.why.Reason.TheVariants.{Refusal}
use Rattle.table.proofs.Theorems.Worded.{ruled_at}
use Rattle.table.proofs.Theorems.WordedLinks.{ruled_links_at}
use Rattle.table.proofs.Theorems.WhyCases.{Case, explains, idles, passes, refuses, stops}
use Rattle.table.proofs.Theorems.WhyTurns.{ask_none, from_case}

-- ---- each event

module _ (s : Settings) (t : List Record) (xs : List ℕ) (n : ℕ) where
  Read : Reading → Type 0
  Read r = Case t (why_read s t (addresses_of t) (length xs) r).reason (stepped_of (heard_at s t (addresses_of t) r) n)

  abbrev inside : Bool
  inside = role_associates s.role

  refused_read : (k : ℕ) → (k ≡ 0 → ⊥) → Read (Refused k)
  unfolding Read frame_why stepped_of refused_of settled_of
  refused_read k z = refuses z refl refl

  discarded_read : Read Discarded
  unfolding Read stepped_of settled_of
  discarded_read = stops refl refl refl

  admitted_read : Read Admitted
  unfolding Read stepped_of settled_of
  admitted_read = idles (record { admitted = refl; table = refl; notice = refl; written = refl }) refl refl

  from_read : ltb n longest ≡ false → Read (From (field 6 10 xs) (group_of (field 6 4 xs)) (sort_of inside xs) (heard_of xs))
  unfolding Read heard_from
  from_read roomy = from_case s t n (field 6 10 xs) (find_of (addresses_of t) 0) roomy (seek_of t (addresses_of t) (field 6 10 xs)) (class_by (sort_of inside xs)) (group_of (field 6 4 xs)) (heard_of xs)

  read_case : ltb n longest ≡ false → Read (read_of s.own inside xs)
  unfolding read_of shape_of read_bare read_full read_from
  read_case roomy =
      let three : Read (Refused 3) = refused_read 3 (λ z. omega (arith, z)) in
      let four : Read (Refused 4) = refused_read 4 (λ z. omega (arith, z)) in
      let A : Shape → Type 0 = λ h. Read (read_as h s.own inside xs) in
      pick_both A (ltb (length xs) 10 || ltb 4096 (length xs)) three
      (pick_both A (classless (class_of xs)) discarded_read
      (pick_both A (ltb (length xs) (least_of (field 1 0 xs))) three
      (pick_both A (is_bare (field 1 0 xs))
      (pick_both Read (for_us s.own (field 6 4 xs)) admitted_read four)
      (pick_both Read (not (for_us s.own (field 6 4 xs))) four
      (pick_both Read (eqb (field 6 10 xs) s.own || not (valid_of (field 6 10 xs))) three
      (pick_both Read (broken_of xs) three (from_read roomy)))))))

  refused_one : (k : ℕ) → (k ≡ 0 → ⊥) → Case t (Refusal k) (stepped_of (refused_of t k) n)
  unfolding stepped_of refused_of settled_of
  refused_one k z = refuses z refl refl

  frame_case : Case t (why_of s t event.Frame xs n).reason (step_of s t event.Frame xs n)
  unfolding why_of received_of Read
  frame_case =
      by_bool (ltb n longest) (λ e. rw e (refused_one 1 (λ z. omega (arith, z)))) (λ e.
      by_bool (well_formed s t) (λ f. rw (e, f) (read_case e)) (λ f. rw (e, f) (refused_one 2 (λ z. omega (arith, z)))))

  ask_case : (k : ℕ) (p : Record) (m : Met) → m.answer.refusal ≡ 0 → m.answer.verdict ≡ none → Case t (ask_why k p).reason (stepped_of (unless k t m) n)
  unfolding ask_why unless stepped_of refused_of settled_of
  ask_case k p m r v = by_bool (eqb k 0) (λ z. rw z (passes r v)) (λ z. rw z (refuses (eqb-false k 0 z) refl refl))

  -- one turn, whether or not a place is free
  turn_plain : (at free : Option ℕ) (turn : Turn) → turn.verdict ≡ none → ((turn_in t at free turn turn).answer.refusal ≡ 0) × ((turn_in t at free turn turn).answer.verdict ≡ none)
  unfolding seated_of stranger_of newcomer_of
  turn_plain (Some i) free turn v = (refl, v)
  turn_plain None free turn v = by_bool (starts_of turn) (λ b. rw b (found free)) (λ b. rw b (refl, v))
    where
      found : (free : Option ℕ) → ((on_found free (stranger_of t turn) (λ i. seated_of t i turn)).answer.refusal ≡ 0) × ((on_found free (stranger_of t turn) (λ i. seated_of t i turn)).answer.verdict ≡ none)
      found None = (refl, v)
      found (Some i) = (refl, v)

  asked_case : (q a c : ℕ) → Case t (why_of s t (event.Ask q a c) xs n).reason (step_of s t (event.Ask q a c) xs n)
  unfolding why_of why_asked asked_of asked_at first_of unless stepped_of refused_of settled_of towards_of
  asked_case q a c =
      let at = find_of (addresses_of t) a in
      let turn = towards_of (spoken_at (peer_of t at a)) (ask_of s (aid_of at) (peer_of t at a) (others_of s t) q c) in
      let z = turn_plain at (find_of (addresses_of t) 0) turn (ask_none s (aid_of at) (peer_of t at a) (others_of s t) q c) in
      by_bool (ltb n longest) (λ e. rw e (refuses {k = 1} (λ z. omega (arith, z)) refl refl)) (λ e.
      by_bool (well_formed s t)
      (λ f. rw (e, f) (ask_case (first_of (ruled_at s t (addresses_of t) q a c)) (peer_of t at a) (turn_in t at (find_of (addresses_of t) 0) turn turn) z.0 z.1))
      (λ f. rw (e, f) (refuses {k = 2} (λ z. omega (arith, z)) refl refl)))

  linked_case : Case t (why_of s t event.Links xs n).reason (step_of s t event.Links xs n)
  unfolding why_of why_linked linked_of linked_at first_of unless stepped_of refused_of settled_of linking_of turn_of
  linked_case =
      let at = find_of (addresses_of t) (device_in xs) in
      let p = peer_of t at (device_in xs) in
      let turn = linking_of s p (links_in xs) in
      let z = turn_plain at (find_of (addresses_of t) 0) turn refl in
      by_bool (ltb n longest) (λ e. rw e (refuses {k = 1} (λ z. omega (arith, z)) refl refl)) (λ e.
      by_bool (well_formed s t)
      (λ f. rw (e, f) (ask_case (first_of (ruled_links_at s t (addresses_of t) xs)) p (turn_in t at (find_of (addresses_of t) 0) turn turn) z.0 z.1))
      (λ f. rw (e, f) (refuses {k = 2} (λ z. omega (arith, z)) refl refl)))

  passed_case : (d : ℕ) → Case t (why_of s t (event.Clock d) xs n).reason (step_of s t (event.Clock d) xs n)
  unfolding why_of why_passed passed_of first_of
  passed_case d =
      by_bool (ltb n 256) (λ e. rw e (refuses {k = 1} (λ z. omega (arith, z)) refl refl)) (λ e.
      by_bool (well_formed s t)
      (λ f. by_bool (eqb d 0) (λ g. rw (e, f, g) (refuses {k = 3} (λ z. omega (arith, z)) refl refl)) (λ g. rw (e, f, g) (passes refl refl)))
      (λ f. rw (e, f) (refuses {k = 2} (λ z. omega (arith, z)) refl refl)))

-- Of any settings, table, event, frame and length of the buffer.
pub why_explains : (s : Settings) (t : List Record) (e : Event) (xs : List ℕ) (n : ℕ) → Explains t (why_of s t e xs n).reason (step_of s t e xs n)
why_explains s t event.Frame xs n = explains (frame_case s t xs n)
why_explains s t (event.Ask q a c) xs n = explains (asked_case s t xs n q a c)
why_explains s t event.Links xs n = explains (linked_case s t xs n)
why_explains s t (event.Clock d) xs n = explains (passed_case s t xs n d)
