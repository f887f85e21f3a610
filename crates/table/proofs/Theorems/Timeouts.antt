-- 01: the bytes-written number of a clock step is "eight times the timeouts": `clock_count`. 02, K5: with them are counted the queries that come
-- due or to their maximum; "one report a record", its kind by `report_kind`.
-- Assumes nothing.
use Prim.Native.Nat.{ℕ, ◌+◌, ◌*◌}
use mathlib.Core.Path.{◌≡◌, refl, sym, ◌∙◌}
use mathlib.Core.Bool.{true, not}
use mathlib.Core.List.{List, [], ◌∷◌}
use native.Mathlib.Omega.{arith}
use lib.Dec.{ltb, leb, eqb}
use lib.ListN.{length, length-append}
use borrow.Author.Tests.{ltb-true, ltb-false, le-leb, lt-leb, not-true, not-false}
use Rattle.octets.specs.Pick.{pick}
use Rattle.octets.proofs.Branch.{and_left, and_right, by_bool}
use Rattle.peer.proofs.RecordSteps.{place_query, sound}
use Rattle.peer.specs.Query.{query_report, reaches, running_report}
use Rattle.peer.specs.Settings.{settings_fit}
use Rattle.peer.specs.Record.{changed_of, under_way}
use Rattle.peer.specs.Fit.{place_fits}
use Rattle.peer.specs.Tick.{reported_of, timed_of, tick_of}
use Rattle.peer.specs.declared.query.Query.{Query}
use Rattle.peer.specs.declared.query.Query.TheVariants as query
use Rattle.peer.specs.declared.settings.Settings.{Settings}
use Rattle.peer.specs.declared.record.Record.{Record}
use Rattle.table.specs.Places.{all_tails, all_of, count_of}
use Rattle.table.specs.Fit.{well_formed}
use Rattle.table.specs.Refusals.{first_of}
use Rattle.table.specs.Pass.{report_for, reports_of, pass_refusals, clocked_of, passed_of}
use Rattle.table.specs.Step.{step_of}
use Rattle.table.specs.Exactly.{NoneHolds}
use Rattle.table.specs.Written.{comes_due, reports, times_out}
use Rattle.table.specs.declared.rules.event.Event.TheVariants as event
use Rattle.table.proofs.Passes.Ticks.{report_length}
use Rattle.table.proofs.Theorems.RefusedExactly.{refused_exactly, refusal_first}

-- the octets of a query's report
query_count : (s : Settings) (d n a : ℕ) (q : Query) → length (report_for n (query_report s q d) a) ≡ 8 * pick (comes_due s d q) 1 0
unfolding report_for running_report
query_count s d n a query.None = refl
query_count s d n a (query.Running left due) = by_bool (leb left d)
    (λ e. rw e (report_length n 5 a refl))
    (λ e. by_bool (reaches s left d) (λ r. rw (e, r) (report_length n 4 a refl)) (λ r. rw (e, r)))
query_count s d n a query.TimedOut = refl

-- Who is reported, and why: an exchange that ends by its kind, 1 to 3; else a query, 5 at its maximum and 4 at a retry; 0 is no report.
pub report_kind :
    (s : Settings) (d : ℕ) (p : Record) → place_fits s p ≡ true
    → (tick_of s p d).report ≡ pick (times_out d p) (under_way p.exchange) (query_report s p.query d)
unfolding tick_of timed_of reported_of changed_of
report_kind s d p h = by_bool (eqb p.left 0) (λ a. rw (a, place_query s p h)) (λ a.
    by_bool (ltb d p.left)
    (λ b. rw (a, b, lt-leb p.left d (ltb-true d p.left b), place_query s p h))
    (λ b. rw (a, b, le-leb p.left d (ltb-false d p.left b), ((sound s p h).busy a).0)))

place_count : (s : Settings) (d n : ℕ) (p : Record) → place_fits s p ≡ true → length (report_for n (tick_of s p d).report p.address) ≡ 8 * pick (reports s d p) 1 0
place_count s d n p h = by_bool (times_out d p)
    (λ e.
    let some = not-true (eqb p.left 0) (and_left (not (eqb p.left 0)) _ e) in
    rw (report_kind s d p h, e) (report_length n (under_way p.exchange) p.address ((sound s p h).busy some).0))
    (λ e. rw (report_kind s d p h, e) (query_count s d n p.address p.query))

reports_count : (s : Settings) (d n : ℕ) (t : List Record) → all_of (place_fits s) t ≡ true → length (reports_of s d n t) ≡ 8 * count_of (reports s d) t
unfolding reports_of count_of all_tails
reports_count s d n [] h = refl
reports_count s d n (p ∷ t) h =
    simp length-append (omega (arith, place_count s d n p (and_left _ _ h), reports_count s d (n + 1) t (and_right (place_fits s p) _ h)))

-- what is not refused has a well-formed table
pass_fits : (s : Settings) (t : List Record) (d n : ℕ) → NoneHolds (pass_refusals s t d n) → all_of (place_fits s) t ≡ true
unfolding all_tails well_formed
pass_fits s t d n h =
    let fit = not-false (well_formed s t) (not-true (not (well_formed s t)) (and_left (not (not (well_formed s t))) _ (and_right (not (ltb n 256)) _ h))) in
    and_left (all_of (place_fits s) t) _ (and_right (settings_fit s) _ fit)

pub clock_count : (s : Settings) (t : List Record) (d : ℕ) (xs : List ℕ) (n : ℕ) → (step_of s t (event.Clock d) xs n).answer.refusal ≡ 0 → (step_of s t (event.Clock d) xs n).answer.written ≡ 8 * count_of (reports s d) t
unfolding passed_of clocked_of
clock_count s t d xs n h =
    let done = (refused_exactly s t (event.Clock d) xs n).done h in
    let zero : first_of (pass_refusals s t d n) ≡ 0 = sym (refusal_first s t (event.Clock d) xs n) ∙ h in
    simp zero (reports_count s d 0 t (pass_fits s t d n done))
