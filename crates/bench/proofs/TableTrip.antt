-- The octets of the program's table after an event: those of the records that the step leaves, and a table again.
-- Assumes nothing.
use Prim.Native.Nat.{ℕ, zero, suc}
use mathlib.Core.Path.{◌≡◌, refl, sym, ap, ◌∙◌}
use mathlib.Core.Bool.{Bool, true, false, not}
use mathlib.Core.List.{List, [], ◌∷◌}
use native.Mathlib.Omega.{arith}
use lib.Dec.{ltb}
use borrow.Author.Tests.{lt-ltb}
use Rattle.octets.proofs.Branch.{by_bool}
use Rattle.octets.specs.Field.{all_octets}
use Rattle.octets.specs.Frame.{longest}
use Rattle.peer.specs.declared.record.Record.{Record}
use Rattle.peer.specs.declared.settings.Settings.{Settings}
use Rattle.table.proofs.Octets.RecordTrip.{fitting_of_well, octets_table, well_trip}
use Rattle.table.proofs.Octets.RowLaws.{length_records, octets_of_records}
use Rattle.table.proofs.Theorems.RefusedExactly.{refusal_first}
use Rattle.table.proofs.Theorems.RefusedKeeps.{refused_keeps}
use Rattle.table.proofs.Theorems.StepKeeps.{step_keeps}
use Rattle.table.specs.Exactly.{refusals_of}
use Rattle.table.specs.Fit.{well_formed}
use Rattle.table.specs.Host.{host_table}
use Rattle.table.specs.Refusals.{first_of}
use Rattle.table.specs.Rows.{is_table, octets_of, records_of}
use Rattle.table.specs.Step.{step_of}
use Rattle.table.specs.declared.rules.event.Event.{Event}
use Rattle.table.specs.declared.rules.event.Event.TheVariants as event
use Rattle.bench.specs.Play.{zeros}
use Rattle.bench.specs.Turn.{Made}

all_made : (xs : List ℕ) → Made xs → all_octets xs ≡ true
all_made [] h = refl
all_made (x ∷ xs) h = rw (lt-ltb x 256 (h zero), all_made xs (λ i. h (suc i)))

-- settings or a table that are not well formed are refused, whatever the event
early : {ok : Bool} (short : Bool) (rest : List (ℕ × Bool)) → ok ≡ false → first_of ((1, short) ∷ (2, not ok) ∷ rest) ≡ 0 → ⊥
unfolding first_of
early true rest w h = let z : ◌≡◌ {A = ℕ} 1 0 = h in omega arith
early false rest w h = let z : ◌≡◌ {A = ℕ} 2 0 = rw w at h in omega arith

refused : (s : Settings) (t : List Record) (e : Event) (fs : List ℕ) (n : ℕ) → well_formed s t ≡ false → (step_of s t e fs n).answer.refusal ≡ 0 → ⊥
refused s t e fs n w h = no e (sym (refusal_first s t e fs n) ∙ h)
  where
    no : (e : Event) → first_of (refusals_of s t e fs n) ≡ 0 → ⊥
    no event.Frame h = early (ltb n longest) _ w h
    no (event.Ask q a c) h = early (ltb n longest) _ w h
    no event.Links h = early (ltb n longest) _ w h
    no (event.Clock d) h = early (ltb n 256) _ w h

-- The octets ts before it, us after it.
pub record Trip (s : Settings) (ts : List ℕ) (e : Event) (fs us : List ℕ) : Type 0 where
  pub records : records_of us ≡ (step_of s (records_of ts) e fs 256).table
  pub table : is_table us ≡ true

pub trip : (s : Settings) (ts : List ℕ) (e : Event) (fs us : List ℕ) → is_table ts ≡ true → Made ts → Made fs → us ≡ host_table ts s e fs zeros → Trip s ts e fs us
unfolding host_table
trip s ts e fs us i m f h =
    let t = records_of ts in
    let o : us ≡ octets_of (step_of s t e fs 256).table = rw i at h in
    by_bool (well_formed s t)
    (λ w.
    let k = step_keeps s t w (length_records 32 0 ts) e fs (all_made fs f) 256 in
    record { records = rw o (well_trip s _ k.0 k.1); table = rw o (octets_table _ k.1 (fitting_of_well s _ k.0)) })
    (λ w.
    let same = (refused_keeps s t e fs zeros (refused s t e fs 256 w)).table in
    let u : us ≡ ts = o ∙ (ap octets_of same ∙ octets_of_records ts m i) in
    record { records = ap records_of u ∙ sym same; table = rw u i })
