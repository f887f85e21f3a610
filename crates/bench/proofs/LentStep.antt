-- What play over records lent says, as that by value says it, and where it is the step.
-- Assumes nothing.
use Prim.Native.Nat.{ℕ, ◌≤◌}
use mathlib.Core.Path.{◌≡◌, sym, ap, ◌∙◌}
use mathlib.Core.Bool.{true, false}
use mathlib.Core.List.{List}
use native.Mathlib.Omega.{arith}
use lib.ListN.{length}
use borrow.Author.Tests.{eq-eqb}
use Rattle.peer.specs.declared.record.Record.{Record}
use Rattle.peer.specs.declared.settings.Settings.{Settings}
use Rattle.table.specs.declared.rules.answer.Answer.{Answer}
use Rattle.table.specs.declared.rules.answer.Stepped.{Stepped}
use Rattle.table.specs.declared.rules.event.Event.{Event}
use Rattle.table.specs.Fit.{well_formed}
use Rattle.table.specs.Answer.{refusal_answer}
use Rattle.table.specs.Lent.{room_of}
use Rattle.table.specs.Ruled.{ruled_in, ruled_lent_answer, ruled_lent_in, ruled_lent_table, ruled_of}
use Rattle.table.specs.Step.{step_of, step_in}
use Rattle.table.proofs.Octets.HostLaws.{refused_2}
use Rattle.table.proofs.Octets.RuledLaws.{ruled_in_step, ruled_is_step}
use Rattle.table.proofs.Theorems.RefusedExactly.{refusal_first}
use Rattle.table.proofs.Theorems.RefusedKeeps.{refused_keeps}

pub lent_says : (t : List Record) (s : Settings) (e : Event) (xs l : List ℕ) (r : Answer) (z : List Record) (k : List ℕ) → length t ≡ 32 →
    (r ≡ ruled_lent_answer t s e xs l) × ((z ≡ ruled_lent_table t s e xs l) × (k ≡ ruled_lent_in t s e xs l)) →
    (◌≡◌ {A = Stepped} (record { table = z; answer = r }) (ruled_of s t e xs (length l))) × (k ≡ ruled_in s t e xs l)
lent_says t s e xs l r z k h p =
    let a : r ≡ (ruled_of s t e xs (length l)).answer = rw (eq-eqb (length t) 32 h) at p.0 in
    let b : z ≡ (ruled_of s t e xs (length l)).table = rw (eq-eqb (length t) 32 h) at p.1.0 in
    let c : k ≡ ruled_in s t e xs l = rw (eq-eqb (length t) 32 h) at p.1.1 in
    (rw (a, b), c)

module _ (s : Settings) (t : List Record) (e : Event) (fs l : List ℕ) where
  -- records, answer and buffer that are the step's
  abbrev pub Steps : List Record → Answer → List ℕ → Type 0
  Steps z a k = (z ≡ (step_of s t e fs (length l)).table) × (a ≡ (step_of s t e fs (length l)).answer) × (k ≡ step_in s t e fs l)

  pub well_steps : well_formed s t ≡ true → (r : Stepped) (k : List ℕ) → (r ≡ ruled_of s t e fs (length l)) × (k ≡ ruled_in s t e fs l) → Steps r.table r.answer k
  well_steps w r k p =
      let same = p.0 ∙ ruled_is_step s t w e fs (length l) in
      (ap (λ (x : Stepped). x.table) same, ap (λ (x : Stepped). x.answer) same, p.1 ∙ ruled_in_step s t w e fs l)

  pub ill_steps : well_formed s t ≡ false → room_of e ≤ length l → Steps t (refusal_answer 2) l
  ill_steps w r =
      let two = refusal_first s t e fs (length l) ∙ refused_2 s t w e fs (length l) r in
      let u = refused_keeps s t e fs l (λ z. omega (arith, sym two ∙ z)) in
      (sym u.table, sym (u.answer ∙ ap refusal_answer two), sym u.buffer)
