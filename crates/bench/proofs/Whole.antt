-- However the input comes in pieces, what the program writes, all in all, is what it prints for the whole input (specs/Printed.antt).
-- Assumes nothing.
use Prim.Native.Nat.{ℕ, ◌+◌, ◌≤◌}
use mathlib.Core.Path.{◌≡◌, refl, sym, ap, subst, ◌∙◌}
use mathlib.Core.Bool.{Bool, true, false}
use mathlib.Core.List.{List, [], ◌++◌, append_assoc, append-nil}
use native.Mathlib.Omega.{arith}
use lib.Dec.{eqb}
use lib.ListN.{length, replicate, take, drop}
use borrow.Author.Tests.{eq-eqb, eqb-true, ne_eqb}
use Rattle.octets.proofs.Branch.{by_bool}
use Rattle.octets.specs.Pick.{pick}
use Rattle.peer.proofs.Fits.{clash}
use Rattle.peer.specs.Settings.{settings_fit}
use Rattle.peer.specs.declared.settings.Settings.{Settings}
use Rattle.table.proofs.Octets.RowLaws.{length_records}
use Rattle.table.specs.Rows.{is_table, records_of}
use Rattle.table.specs.declared.rules.event.Event.{Event}
use Rattle.table.specs.Input.{body_of, size_of, taken_of}
use Rattle.bench.specs.Line.{stop_line}
use Rattle.bench.specs.Output.{pending, said}
use Rattle.bench.specs.Play.{number_after, zeros}
use Rattle.bench.specs.Printed.{Shown, Standing, output_of, played_on, printed_from, shown_by}
use Rattle.bench.specs.Rounds.{Ran, ahead, came, left, start, taken, went}
use Rattle.bench.specs.Run.{ahead_of, begun_of, behind_of, done_of, end_output, event_lines, event_of, event_output, flushed_of, shifted_of, start_of, stop_output}
use Rattle.bench.specs.Turn.{Ready, Took, refilled_of}
use Rattle.table.specs.declared.host.input.Taken.{Taken}
use Rattle.table.specs.declared.host.input.Taken.TheVariants.{Cut, Fault, First, Next}
use Rattle.bench.specs.declared.run.Prints.{Prints}
use Rattle.bench.specs.declared.run.Run.{Run}
use Rattle.bench.proofs.Ahead.{ahead_behind, ahead_length, ahead_more, behind_is, left_is, more_inside}
use Rattle.bench.proofs.Empty.{empty_records, empty_table_lem, empty_well}
use Rattle.bench.proofs.MoreOctets.{cut_short, taken_first, taken_next}
use Rattle.table.proofs.Octets.InputLaws.{record_whole}
use Rattle.table.proofs.Octets.KnownLaws.{all_octets_lem, sound_later}
use Rattle.table.specs.Fit.{well_formed}
use Rattle.table.specs.Run.{Sound}
use Rattle.bench.proofs.Pending.{event_pending, stop_pending}
use Rattle.bench.proofs.Prints.{print_cut, print_fault, print_first, print_next}
use Rattle.bench.proofs.StepLengths.{scratch_same, step_same}
use Rattle.bench.proofs.TableTrip.{Trip, trip}

-- what the definitions know of a run
abbrev pub standing : List ℕ → Run → Standing
standing ts r = record { settings = r.settings; table = records_of ts; number = r.number; first = r.first }

-- what is printed from there on, where `more` follows the octets at hand: nothing once the run is done
abbrev pub to_come : Prints → List ℕ → Run → List ℕ → List ℕ → List ℕ
to_come prints ts r held more = pick r.done [] (printed_from (shown_by prints) 0 (standing ts r) (held ++ more))

-- What each round keeps. `law`: what was written, what is pending and what is still to come is what the whole input prints.
pub record Kept (prints : Prints) (ts xs o : List ℕ) (r : Run) (read wrote : List ℕ) : Type 0 where
  pub mode : r.prints ≡ prints
  pub places : r.at ≤ r.have
  pub inside : r.have ≤ length xs
  pub table : is_table ts ≡ true
  -- the table is empty up to the settings, and well formed from there on, if they fit
  pub fresh : r.first ≡ true → ts ≡ replicate 1536 0
  pub well : r.first ≡ false → settings_fit r.settings ≡ true → well_formed r.settings (records_of ts) ≡ true
  pub fit : r.fit ≡ settings_fit r.settings
  pub law : (more : List ℕ) → (r.over ≡ true → more ≡ []) →
      output_of (shown_by prints) (read ++ more) ≡ wrote ++ (take r.out o ++ to_come prints ts r (ahead xs r) more)

-- where an event is next, the settings were taken
pub ready_of : {prints : Prints} {ts xs o : List ℕ} {r : Run} {read wrote : List ℕ} → Kept prints ts xs o r read wrote → (e : Event) → taken_of (ahead xs r) r.first ≡ Next e → Ready r ts
ready_of {xs = xs} {r = r} p e t = record { sound = record { table = p.table; well = p.well (taken_next (ahead xs r) r.first e t) }; fit = p.fit }

-- the same where a round goes on from r to q, by what it adds to the lines and what it takes from what is to come
on_to : {prints : Prints} {ts us xs ys o k : List ℕ} {r q : Run} {read wrote : List ℕ} → Kept prints ts xs o r read wrote → q.prints ≡ r.prints → q.over ≡ r.over →
    q.at ≤ q.have → q.have ≤ length ys → is_table us ≡ true → (q.first ≡ true → us ≡ replicate 1536 0) →
    (q.first ≡ false → settings_fit q.settings ≡ true → well_formed q.settings (records_of us) ≡ true) → q.fit ≡ settings_fit q.settings →
    ((more : List ℕ) → (r.over ≡ true → more ≡ []) → take r.out o ++ to_come prints ts r (ahead xs r) more ≡ take q.out k ++ to_come prints us q (ahead ys q) more) →
    Kept prints us ys k q read wrote
on_to {prints} {ts} {us} {xs} {ys} {o} {k} {r} {q} {read} {wrote} p m v a b t new well fit same =
    record {
      mode = m ∙ p.mode;
      places = a;
      inside = b;
      table = t;
      fresh = new;
      well = well;
      fit = fit;
      law = λ more h. p.law more (λ e. h (v ∙ e)) ∙ ap (λ (l : List ℕ). wrote ++ l) (same more (λ e. h (v ∙ e)));
    }

started : (prints : Prints) (xs o : List ℕ) → Kept prints (replicate 1536 0) xs o (start_of prints) [] []
unfolding start_of settings_fit
started prints xs o = record { mode = refl; places = omega arith; inside = omega arith; table = empty_table_lem; fresh = λ z. refl; well = λ z. clash refl z; fit = refl; law = λ more h. rw empty_records refl }

module _ {prints : Prints} {ts xs o : List ℕ} {r : Run} {read wrote : List ℕ} (p : Kept prints ts xs o r read wrote) (d : r.done ≡ false) (room : r.out + 8192 ≤ length o) where
  abbrev w : Shown
  w = shown_by prints

  coming : (more : List ℕ) → to_come prints ts r (ahead xs r) more ≡ printed_from w 0 (standing ts r) (ahead xs r ++ more)
  coming more = rw d

  -- the end of the input
  end_pending : pending (end_output r o) ≡ take r.out o ++ pick (eqb r.at r.have) [] stop_line
  unfolding end_output
  end_pending =
      by_bool (eqb r.at r.have)
      (λ e. rw e (sym (append-nil (take r.out o))))
      (λ e. rw e (stop_pending o r.out (omega arith)))

  none_left : eqb (length (ahead xs r)) 0 ≡ eqb r.at r.have
  none_left =
      let l = ahead_length r.at r.have xs p.places p.inside in
      by_bool (eqb r.at r.have)
      (λ e. eq-eqb (length (ahead xs r)) 0 (omega (arith, l, eqb-true r.at r.have e)) ∙ sym e)
      (λ e. ne_eqb (length (ahead xs r)) 0 (λ z. clash (eq-eqb r.at r.have (omega (arith, l, z, p.places))) e) ∙ sym e)

  ended : taken_of (ahead xs r) r.first ≡ Cut → r.over ≡ true → Kept prints ts xs (end_output r o).octets (done_of r (end_output r o).filled) read wrote
  unfolding done_of
  ended t v =
      on_to p refl refl p.places p.inside p.table p.fresh p.well p.fit
      (λ more h.
      let e : more ≡ [] = h v in
      ap (λ (l : List ℕ). take r.out o ++ l) (coming more ∙ rw (e, append-nil (ahead xs r)) (print_cut w (standing ts r) (ahead xs r) t ∙ ap (λ (b : Bool). pick b [] stop_line) none_left))
      ∙ sym (append-nil (pending (end_output r o)) ∙ end_pending))

  stopped : taken_of (ahead xs r) r.first ≡ Fault → Kept prints ts xs (stop_output r o).octets (done_of r (stop_output r o).filled) read wrote
  unfolding done_of
  stopped t =
      on_to p refl refl p.places p.inside p.table p.fresh p.well p.fit
      (λ more h.
      ap (λ (l : List ℕ). take r.out o ++ l) (coming more ∙ print_fault w (standing ts r) (ahead xs r) more t)
      ∙ sym (append-nil (pending (stop_output r o)) ∙ stop_pending o r.out (omega arith)))

  -- a record is passed
  module _ (size : ℕ) (z : size ≤ length (ahead xs r)) where
    abbrev next : ℕ
    next = behind_of r.at size r.have

    next_inside : next ≤ r.have
    next_inside = omega (arith, behind_is r.at r.have xs p.places p.inside size z, ahead_length r.at r.have xs p.places p.inside)

    passed : ahead_of next r.have xs ≡ drop size (ahead xs r)
    passed = ahead_behind r.at r.have xs p.places p.inside size z

  begun : (s : Settings) → taken_of (ahead xs r) r.first ≡ First s → Kept prints ts xs o (begun_of r s (size_of (ahead xs r))) read wrote
  unfolding begun_of
  begun s t =
      let z : size_of (ahead xs r) ≤ length (ahead xs r) = record_whole (ahead xs r) r.first (rw t) in
      let empty = p.fresh (taken_first (ahead xs r) r.first s t) in
      on_to p refl refl (next_inside (size_of (ahead xs r)) z) p.inside p.table (λ f. clash f refl) (λ f g. rw (empty, empty_records) (empty_well s g)) refl
      (λ more h.
      ap (λ (l : List ℕ). take r.out o ++ l)
      (coming more ∙ (print_first w (standing ts r) (ahead xs r) more s t ∙ rw (d, passed (size_of (ahead xs r)) z))))

  played : (e : Event) (us : List ℕ) → taken_of (ahead xs r) r.first ≡ Next e → Trip r.settings ts e (body_of (ahead xs r)) us → Sound r.settings us →
      Kept prints us xs (event_output r (records_of ts) e (body_of (ahead xs r)) o).octets (event_of r (records_of ts) e (body_of (ahead xs r)) (size_of (ahead xs r)) o) read wrote
  unfolding event_of event_lines said printed_from event_output
  played e us t n sound =
      let z : size_of (ahead xs r) ≤ length (ahead xs r) = record_whole (ahead xs r) r.first (rw t) in
      let b = body_of (ahead xs r) in
      let u = records_of ts in
      let long = length_records 32 0 ts in
      let lines = event_pending r u e b (scratch_same r.settings u long e b) (step_same u r.settings e b 256 ∙ long) o (omega arith) in
      on_to p refl refl (next_inside (size_of (ahead xs r)) z) p.inside n.table (λ f. clash f (taken_next (ahead xs r) r.first e t)) (λ f g. sound.well g) p.fit
      (λ more h.
      let text = said (w (number_after r.number) r.settings u e b) in
      let rest = printed_from w 0 (played_on (standing ts r) e b) (drop (size_of (ahead xs r)) (ahead xs r) ++ more) in
      ap (λ (l : List ℕ). take r.out o ++ l) (coming more ∙ print_next w (standing ts r) (ahead xs r) more e t)
      ∙ (sym (append_assoc (take r.out o) text rest)
      ∙ rw (d, passed (size_of (ahead xs r)) z, lines, p.mode, n.records)))

  by_taken : (t : Taken) (us k : List ℕ) (q : Run) → taken_of (ahead xs r) r.first ≡ t → Took t (ahead xs r) ts o r us k q → Kept prints us xs k q read wrote
  by_taken Cut us k q t f = rw (f.0, f.2, f.3) (ended t f.1)
  by_taken Fault us k q t f = rw (f.0, f.1, f.2) (stopped t)
  by_taken (First s) us k q t f = rw (f.0, f.1, f.2) (begun s t)
  by_taken (Next e) us k q t f =
      let v = ready_of p e t in
      let g = f.0 v in
      let later = sound_later ts r.settings e (body_of (ahead xs r)) zeros (all_octets_lem ts f.1) (all_octets_lem (body_of (ahead xs r)) f.2) v.sound in
      let sound : Sound r.settings us = subst (λ (x : List ℕ). Sound r.settings x) (sym g.0) later in
      rw (g.1, g.2) (played e us t (trip r.settings ts e (body_of (ahead xs r)) us p.table f.1 f.2 g.0) sound)

-- a read
more_came : {prints : Prints} {ts xs o ys : List ℕ} {r : Run} {read wrote : List ℕ} (n : ℕ) → Kept prints ts xs o r read wrote → r.done ≡ false → r.over ≡ false →
    length ys ≡ length xs → take (left xs r) ys ≡ take (left xs r) (shifted_of r.at r.have xs) →
    Kept prints ts ys o (refilled_of r (length xs) n) (read ++ ahead_of (left xs r) (behind_of (left xs r) n (length xs)) ys) wrote
unfolding refilled_of
more_came {prints} {ts} {xs} {o} {ys} {r} {read} {wrote} n p d v e k =
    let piece = ahead_of (left xs r) (behind_of (left xs r) n (length xs)) ys in
    let both = ahead_more r.at r.have xs p.places p.inside ys n e k in
    record {
      mode = p.mode;
      places = omega arith;
      inside = more_inside r.at r.have xs p.places p.inside ys n e k;
      table = p.table;
      fresh = p.fresh;
      well = p.well;
      fit = p.fit;
      law = λ more h.
          ap (output_of (shown_by prints)) (append_assoc read piece more)
          ∙ (p.law (piece ++ more) (λ z. clash z v)
          ∙ rw (d, both, append_assoc (ahead xs r) piece more));
    }

-- a write
lines_went : {prints : Prints} {ts xs o : List ℕ} {r : Run} {read wrote : List ℕ} → Kept prints ts xs o r read wrote → Kept prints ts xs o (flushed_of r r.done) read (wrote ++ take r.out o)
unfolding flushed_of
lines_went {prints} {ts} {xs} {o} {r} {read} {wrote} p =
    record {
      mode = p.mode;
      places = p.places;
      inside = p.inside;
      table = p.table;
      fresh = p.fresh;
      well = p.well;
      fit = p.fit;
      law = λ more h. p.law more h ∙ sym (append_assoc wrote (take r.out o) _);
    }

pub kept : {prints : Prints} {ts xs o : List ℕ} {r : Run} {read wrote : List ℕ} → Ran prints ts xs o r read wrote → Kept prints ts xs o r read wrote
unfolding refilled_of
kept (start {xs} {o} a b) = started _ xs o
kept (taken {us = us} {k = k} {q = q} p d room l f) = by_taken (kept p) d room _ us k q refl f
kept (came n p d t v l e k) = rw e (more_came n (kept p) d v l k)
kept (went p l) = lines_went (kept p)

-- THE THEOREM. The program is done: what it wrote is what the whole input prints, the octets read and any that it did not read; after the end of
-- the input there are none. (What it asks for is met: `run_all` keeps to such rounds, proofs/Reached.antt.)
pub whole_output : {prints : Prints} {ts xs o : List ℕ} {r : Run} {read wrote : List ℕ} → Ran prints ts xs o r read wrote → r.done ≡ true →
    (rest : List ℕ) → (r.over ≡ true → rest ≡ []) → wrote ++ take r.out o ≡ output_of (shown_by prints) (read ++ rest)
whole_output {prints} {ts} {xs} {o} {r} {read} {wrote} p d rest h =
    sym ((kept p).law rest h ∙ rw d (ap (λ (l : List ℕ). wrote ++ l) (append-nil (take r.out o))))

-- At each read at most 4,100 octets of the buffer are in use: so a read that gives none is the end of the input, not a lack of room.
pub room_to_read : {prints : Prints} {ts xs o : List ℕ} {r : Run} {read wrote : List ℕ} → Ran prints ts xs o r read wrote → taken_of (ahead xs r) r.first ≡ Cut → left xs r ≤ 4100
room_to_read {xs = xs} {r = r} p t =
    let k = kept p in
    omega (arith, left_is r.at r.have xs k.places k.inside, ahead_length r.at r.have xs k.places k.inside, cut_short (ahead xs r) r.first t)
