-- 01, "Refusal numbers": "A refusal returns its number with everything else zero, verdict none, table and buffer unchanged." (00, demand 1:
-- "A refusal leaves the table and the output buffer untouched.") Of any event, lent the buffer l: `refused_keeps`.
-- Assumes nothing.
use Prim.Native.Nat.{ℕ}
use mathlib.Core.Path.{◌≡◌, refl, ◌∙◌}
use mathlib.Core.List.{List}
use lib.ListN.{length}
use borrow.Author.Tests.{ne_eqb}
use Rattle.peer.specs.declared.settings.Settings.{Settings}
use Rattle.peer.specs.declared.record.Record.{Record}
use Rattle.table.specs.Answer.{settled_of, refused_of, said_in, stepped_of}
use Rattle.table.specs.Refusals.{first_of}
use Rattle.table.specs.Pass.{pass_refusals, passed_of, passed_in}
use Rattle.table.specs.Step.{step_of, step_in}
use Rattle.table.specs.Exactly.{Untouched}
use Rattle.table.specs.declared.rules.answer.Met.{Met}
use Rattle.table.specs.declared.rules.event.Event.{Event}
use Rattle.table.specs.declared.rules.event.Event.TheVariants as event
use Rattle.table.proofs.Theorems.Gives.{Gives, refuses, acts, received_gives, asked_gives, linked_gives}
use Rattle.table.proofs.Theorems.RefusedExactly.{refusal_first}

met_keeps : {t : List Record} {n : ℕ} {m : Met} (l : List ℕ) → Gives t n m → (m.answer.refusal ≡ 0 → ⊥) → Untouched t l (stepped_of m (length l)) (said_in m.reply l)
unfolding stepped_of refused_of settled_of
met_keeps l refuses h = record { answer = refl; table = refl; buffer = refl }
met_keeps l (acts e) h = absurd (h e)

passed_keeps : (s : Settings) (t : List Record) (d : ℕ) (l : List ℕ) → (first_of (pass_refusals s t d (length l)) ≡ 0 → ⊥) → Untouched t l (passed_of s t d (length l)) (passed_in s t d l)
unfolding passed_of passed_in
passed_keeps s t d l h =
    let e = ne_eqb (first_of (pass_refusals s t d (length l))) 0 h in
    simp e (record { answer = refl; table = refl; buffer = refl })

pub refused_keeps : (s : Settings) (t : List Record) (e : Event) (xs l : List ℕ) → ((step_of s t e xs (length l)).answer.refusal ≡ 0 → ⊥) → Untouched t l (step_of s t e xs (length l)) (step_in s t e xs l)
unfolding stepped_of
refused_keeps s t event.Frame xs l h = met_keeps l (received_gives s t xs (length l)) h
refused_keeps s t (event.Ask q a c) xs l h = met_keeps l (asked_gives s t q a c (length l)) h
refused_keeps s t event.Links xs l h = met_keeps l (linked_gives s t xs (length l)) h
refused_keeps s t (event.Clock d) xs l h =
    passed_keeps s t d l (λ z. h (refusal_first s t (event.Clock d) xs (length l) ∙ z))
