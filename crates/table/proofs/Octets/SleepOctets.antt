-- 02, K6, "One long step or two short", over a host's octets: clock steps as calls in a row leave the octets of one call with their sum, and report
-- together what it reports (`one_or_many_octets`, `same_sum_octets`, `sleep_taken_octets`).
-- Assumes nothing.
use Prim.Native.Nat.{ℕ, ◌≤◌}
use mathlib.Core.Path.{◌≡◌, refl, ap, sym, ◌∙◌}
use mathlib.Core.Bool.{true}
use mathlib.Core.List.{List, [], ◌∷◌, append-nil, flatten, map}
use native.Mathlib.Omega.{arith}
use lib.Dec.{eqb}
use lib.ListN.{length, replicate}
use borrow.Author.Tests.{le-ltb, leb-true}
use Rattle.octets.proofs.AnswerTrip.{answer_back}
use Rattle.octets.specs.Field.{all_octets, field, octets}
use Rattle.octets.specs.Links.{link_octets}
use Rattle.octets.specs.Row.{head_octets, query_octets, row_octets}
use Rattle.peer.proofs.Fits.{both}
use Rattle.peer.specs.Query.{running_number}
use Rattle.peer.specs.Settings.{time_fits}
use Rattle.peer.specs.declared.record.Record.{Record}
use Rattle.peer.specs.declared.settings.Settings.{Settings}
use Rattle.table.specs.Boundary.{answer_in, settings_in}
use Rattle.table.specs.Calls.{Told, stepped}
use Rattle.table.specs.Case.{table_of}
use Rattle.table.specs.Marked.{as_ap}
use Rattle.table.specs.Order.{Whole, answers, end}
use Rattle.table.specs.Places.{all_of, all_tails}
use Rattle.table.specs.Rows.{octets_of, records_of, row_of}
use Rattle.table.specs.Sleep.{AsOne, Lapse, Lent, OneOrManyOctets, Passing, SameSumOctets, SleepTakenOctets, lapse_fits, lapsed, pass_call, passed_by, passing_fits, reports_got, reports_told, retried_of, sum_of, together}
use Rattle.table.specs.declared.rules.event.Event.TheVariants as event
use Rattle.table.proofs.Octets.CallsInRow.{Keeps, Row, access_point_lem, each_octet, example_settings, in_row}
use Rattle.table.proofs.Octets.RecordTrip.{fitting_of_well, octets_table, well_trip}
use Rattle.table.proofs.Octets.RowLaws.{length_records, octets_of_records}
use Rattle.table.proofs.Theorems.Sleep.{kept, one_or_many, same_sum, sleep_taken}
use Rattle.table.proofs.Theorems.SleepExamples.{dock, dock_at_work, step}
use Rattle.table.proofs.Theorems.StepKeeps.{step_keeps}
use Rattle.table.proofs.Theorems.WrittenCount.{written_count}

abbrev lapse_of : Passing → Lapse
lapse_of c = c.lapse

abbrev lapses_of : List Passing → List Lapse
lapses_of cs = map lapse_of cs

sums : (cs : List Passing) → sum_of (λ (l : Lapse). l.tu) (lapses_of cs) ≡ sum_of (λ c. c.lapse.tu) cs
unfolding sum_of
sums [] = refl
sums (c ∷ cs) = rw (sums cs)

fit_one : (c : Passing) → passing_fits c ≡ true → lapse_fits c.lapse ≡ true
unfolding passing_fits
fit_one c h = (both (lapse_fits c.lapse) _ h).0

fit_lapses : (cs : List Passing) → all_of passing_fits cs ≡ true → all_of lapse_fits (lapses_of cs) ≡ true
unfolding all_tails
fit_lapses [] h = refl
fit_lapses (c ∷ cs) h =
    let a = both (passing_fits c) _ h in
    rw (fit_one c a.0) (fit_lapses cs a.1)

module _ (ss : List ℕ) where
  abbrev s : Settings
  s = settings_in ss

  -- ---- a call over records

  abbrev under : List Record → Passing → List Record × Told
  under t c = stepped ss t (pass_call c)

  -- with room for its answer it is the step
  record Is (t : List Record) (c : Passing) : Type 0 where
    table : (under t c).0 ≡ (lapsed s t c.lapse).0
    result : (under t c).1.result ≡ (lapsed s t c.lapse).1.answer.refusal
    reports : reports_told (under t c).1 ≡ reports_got (lapsed s t c.lapse).1

  call_is : (t : List Record) (c : Passing) → length t ≡ 32 → passing_fits c ≡ true → Is t c
  unfolding stepped passing_fits
  call_is t c h f =
      let room : 24 ≤ length c.room = leb-true 24 (length c.room) (both (lapse_fits c.lapse) _ f).1 in
      let k = le-ltb (length c.room) 24 room in
      let a = (lapsed s t c.lapse).1.answer in
      let few = (written_count s t (event.Clock c.lapse.tu) [] c.lapse.out h).few in
      let count : field 2 10 (answer_in a c.room) ≡ a.written =
      (answer_back a.current a.code a.written a.refusal a.verdict a.notice a.ds a.state c.room room).written (omega (arith, few)) in
      record { table = rw k; result = rw k; reports = rw (k, count) }

  -- however many
  record Are (t : List Record) (cs : List Passing) : Type 0 where
    table : end under t cs ≡ end (lapsed s) t (lapses_of cs)
    results : all_of (λ (g : Told). eqb g.result 0) (answers under t cs) ≡ all_of (λ g. eqb g.answer.refusal 0) (answers (lapsed s) t (lapses_of cs))
    reports : together under reports_told t cs ≡ together (lapsed s) reports_got t (lapses_of cs)

  calls_are : (cs : List Passing) (t : List Record) → Whole s t → all_of passing_fits cs ≡ true → Are t cs
  unfolding all_tails together flatten
  calls_are [] t w f = record { table = refl; results = refl; reports = refl }
  calls_are (c ∷ cs) t w f =
      let g = both (passing_fits c) _ f in
      let is = call_is t c w.1 g.0 in
      let rest = calls_are cs (lapsed s t c.lapse).0 (kept s t w c.lapse (fit_one c g.0)) g.1 in
      record {
        table = rw is.table rest.table;
        results = rw (is.table, is.result) (rw rest.results);
        reports = rw (is.table, is.reports) (rw rest.reports);
      }

  -- ---- over octets

  module _ (xs : List ℕ) (h : Lent ss xs) where
    abbrev t : List Record
    t = records_of xs

    whole : Whole s t
    whole = (h.2, length_records 32 0 xs)

    row : (cs : List Passing) → all_of passing_fits cs ≡ true → Row ss pass_call xs cs
    row cs f = in_row ss pass_call passing_fits keeps cs xs h.1 (octets_of_records xs (each_octet xs h.0) h.1) f
      where
        keeps : (ys : List ℕ) (c : Passing) → passing_fits c ≡ true → Keeps s ys (pass_call c)
        keeps ys c g w = step_keeps s (records_of ys) w (length_records 32 0 ys) (event.Clock c.lapse.tu) [] refl (length c.lapse.out)

    left : (cs : List Passing) → all_of passing_fits cs ≡ true → end (passed_by ss) xs cs ≡ octets_of (end (lapsed s) t (lapses_of cs))
    left cs f = (row cs f).octets ∙ ap octets_of (calls_are cs t whole f).table

    told : (cs : List Passing) → all_of passing_fits cs ≡ true → together (passed_by ss) reports_told xs cs ≡ together (lapsed s) reports_got t (lapses_of cs)
    unfolding together
    told cs f = ap (λ (g : List Told). flatten (map reports_told g)) (row cs f).gets ∙ (calls_are cs t whole f).reports

-- ---- the theorems

pub one_or_many_octets : (ss : List ℕ) → OneOrManyOctets ss
unfolding together flatten all_tails
one_or_many_octets ss xs cs one h fs f e =
    let alone : all_of passing_fits (one ∷ []) ≡ true = rw f in
    let a = one_or_many (settings_in ss) (records_of xs) (lapses_of cs) one.lapse (whole ss xs h) (fit_lapses cs fs) (fit_one one f) (e ∙ sym (sums cs)) in
    let last : reports_told (passed_by ss xs one).1 ≡ reports_got (lapsed (settings_in ss) (records_of xs) one.lapse).1 =
    rw (append-nil (reports_told (passed_by ss xs one).1), append-nil (reports_got (lapsed (settings_in ss) (records_of xs) one.lapse).1)) at (told ss xs h (one ∷ []) alone) in
    record {
      table = left ss xs h cs fs ∙ ap octets_of a.table ∙ sym (left ss xs h (one ∷ []) alone);
      reported = λ r. rw (told ss xs h cs fs, last) (a.reported r);
    }

pub same_sum_octets : (ss : List ℕ) → SameSumOctets ss
same_sum_octets ss xs cs₁ cs₂ h f₁ f₂ e =
    let a = same_sum (settings_in ss) (records_of xs) (lapses_of cs₁) (lapses_of cs₂) (whole ss xs h) (fit_lapses cs₁ f₁) (fit_lapses cs₂ f₂) (sums cs₁ ∙ e ∙ sym (sums cs₂)) in
    record {
      table = left ss xs h cs₁ f₁ ∙ ap octets_of a.table ∙ sym (left ss xs h cs₂ f₂);
      reported = λ r. rw (told ss xs h cs₁ f₁, told ss xs h cs₂ f₂) (a.reported (rw (sums cs₁) r));
    }

pub sleep_taken_octets : (ss : List ℕ) → SleepTakenOctets ss
sleep_taken_octets ss xs cs h f =
    rw (row ss xs h cs f).gets ((calls_are ss cs (records_of xs) (whole ss xs h) f).results ∙ sleep_taken (settings_in ss) (records_of xs) (lapses_of cs) (whole ss xs h) (fit_lapses cs f))

-- What the theorem asks for is met: the access point of Theorems/SleepExamples.antt as octets, told of 190 TU in one call and in three.
dock_octets : all_octets (octets_of dock) ≡ true
unfolding octets_of row_of row_octets head_octets query_octets link_octets octets table_of running_number
dock_octets = refl

abbrev call : ℕ → Passing
call n = record { lapse = step n; room = replicate 24 0 }

pub dock_called :
    AsOne (passed_by access_point_lem) reports_told (retried_of as_ap 190 dock) (octets_of dock) (call 100 ∷ call 60 ∷ call 30 ∷ []) (call 190)
unfolding table_of all_tails passing_fits lapse_fits time_fits sum_of
dock_called =
    let well = rw (← example_settings) at dock_at_work.well in
    let trip = well_trip (settings_in access_point_lem) dock well refl in
    rw (example_settings, trip) at (one_or_many_octets access_point_lem (octets_of dock) (call 100 ∷ call 60 ∷ call 30 ∷ []) (call 190)
    (dock_octets, octets_table dock refl (fitting_of_well (settings_in access_point_lem) dock well), rw trip well) refl refl refl)
