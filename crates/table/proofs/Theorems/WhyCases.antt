-- The cases of a reason beside the step that it explains: a refusal, a primitive or a clock step that was taken, a discard, a frame with nothing to do, and one with something. For
-- WhyExplains.
-- Assumes nothing.
use Prim.Native.Nat.{ℕ}
use mathlib.Core.Path.{◌≡◌, refl, ap as apply, sym, ◌∙◌}
use mathlib.Core.Bool.{true}
use mathlib.Core.List.{List}
use native.Mathlib.Omega.{arith}
use Rattle.peer.proofs.Fits.{clash, wrong}
use Rattle.peer.specs.Turn.{admit, discard, none}
use Rattle.peer.specs.declared.record.Record.{Record}
use Rattle.table.specs.Reasons.{Explains, Idle, is_discard}
use Rattle.table.specs.declared.rules.answer.Stepped.{Stepped}
use Rattle.table.specs.declared.rules.why.Reason.{Reason}
use Rattle.table.specs.declared.rules.why.Reason.TheVariants.{None, Refusal, NothingToDo}

-- ---- the cases that there are

pub data Case (t : List Record) : Reason → Stepped → Type 0 where
  refuses : {k : ℕ} {r : Stepped} → (k ≡ 0 → ⊥) → r.answer.refusal ≡ k → r.answer.verdict ≡ none → Case t (Refusal k) r
  passes : {r : Stepped} → r.answer.refusal ≡ 0 → r.answer.verdict ≡ none → Case t None r
  stops : {q : Reason} {r : Stepped} → is_discard q ≡ true → r.answer.refusal ≡ 0 → r.answer.verdict ≡ discard → Case t q r
  idles : {r : Stepped} → Idle t r → r.answer.refusal ≡ 0 → r.answer.ds ≡ 0 → Case t NothingToDo r
  does : {r : Stepped} → (Idle t r → ⊥) → r.answer.refusal ≡ 0 → r.answer.verdict ≡ admit → Case t None r

unlike : {P : Type 0} {a b n : ℕ} → n ≡ a → n ≡ b → (a ≡ b → ⊥) → P
unlike e f z = absurd (z (sym e ∙ f))

pub explains : {t : List Record} {q : Reason} {r : Stepped} → Case t q r → Explains t q r
explains (refuses {k = k} z e v) = record {
  refused = λ nz h. apply Refusal (sym e ∙ h);
  refuses = λ {n} h. let same : k ≡ n = cc in (λ x. z (same ∙ x), e ∙ same);
  discarded = λ d. unlike v d (λ x. omega (arith, x));
  discards = λ h. wrong h;
  idle = λ i. unlike v i.admitted (λ x. omega (arith, x));
  idles = λ h. let w : ◌≡◌ {A = ℕ} 0 1 = cc in absurd (omega arith);
  silent = λ h. let w : ◌≡◌ {A = ℕ} 0 1 = cc in absurd (omega arith);
}
explains (passes e v) = record {
  refused = λ nz h. absurd (nz (sym h ∙ e));
  refuses = λ h. let w : ◌≡◌ {A = ℕ} 0 1 = cc in absurd (omega arith);
  discarded = λ d. unlike v d (λ x. omega (arith, x));
  discards = λ h. wrong h;
  idle = λ i. unlike v i.admitted (λ x. omega (arith, x));
  idles = λ h. let w : ◌≡◌ {A = ℕ} 0 1 = cc in absurd (omega arith);
  silent = λ h. let w : ◌≡◌ {A = ℕ} 0 1 = cc in absurd (omega arith);
}
explains (stops d e v) = record {
  refused = λ nz h. absurd (nz (sym h ∙ e));
  refuses = λ h. clash d (apply is_discard h);
  discarded = λ x. d;
  discards = λ h. v;
  idle = λ i. unlike v i.admitted (λ x. omega (arith, x));
  idles = λ h. clash d (apply is_discard h);
  silent = λ h. clash d (apply is_discard h);
}
explains (idles i e s) = record {
  refused = λ nz h. absurd (nz (sym h ∙ e));
  refuses = λ h. let w : ◌≡◌ {A = ℕ} 0 1 = cc in absurd (omega arith);
  discarded = λ d. unlike i.admitted d (λ x. omega (arith, x));
  discards = λ h. wrong h;
  idle = λ j. refl;
  idles = λ h. i;
  silent = λ h. s;
}
explains (does z e v) = record {
  refused = λ nz h. absurd (nz (sym h ∙ e));
  refuses = λ h. let w : ◌≡◌ {A = ℕ} 0 1 = cc in absurd (omega arith);
  discarded = λ d. unlike v d (λ x. omega (arith, x));
  discards = λ h. wrong h;
  idle = λ i. absurd (z i);
  idles = λ h. let w : ◌≡◌ {A = ℕ} 0 1 = cc in absurd (omega arith);
  silent = λ h. let w : ◌≡◌ {A = ℕ} 0 1 = cc in absurd (omega arith);
}
