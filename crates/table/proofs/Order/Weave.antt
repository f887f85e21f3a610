-- Two runs over the same events, moved about: a state that follows one peer's own events comes out the same.
--     at       the element at a place of a list
--     Cut      two places that the peer's own events stand before alike
--     weave    the state at two such places is the same
-- Assumes nothing.
use Prim.Native.Nat.{ℕ, zero, suc, ◌+◌, ◌≤◌, ◌<◌}
use native.Mathlib.Nat.{not-suc-le-zero, le_of_suc-le-suc}
use native.Mathlib.Omega.{arith}
use native.Mathlib.Decide.{ℕ_discrete, dec_lt}
use mathlib.Core.Path.{◌≡◌, refl, sym, ap, ◌∙◌}
use mathlib.Core.Logic.{◌≢◌}
use mathlib.Core.Option.{Option, some}
use mathlib.Core.Option as Opt
use mathlib.Core.List.{List, [], ◌∷◌}
use lib.ListN.{length, get_elem?}
use Rattle.table.specs.Order.{Moved}

pub at : {E : Type 0} (l : List E) (k : ℕ) → k < length l → (e : E) × (get_elem? l k ≡ some e)
at [] k h = absurd (not-suc-le-zero h)
at (x ∷ l) zero h = (x, refl)
at (x ∷ l) (suc k) h = at l k (le_of_suc-le-suc h)

pub inside : {E : Type 0} (l : List E) (k : ℕ) (e : E) → get_elem? l k ≡ some e → k < length l
inside [] k e h = let z : ◌≡◌ {A = ℕ} 0 1 = cc in omega arith
inside (x ∷ l) zero e h = omega arith
inside (x ∷ l) (suc k) e h = let r : k < length l = inside l k e h in omega arith

-- where two places hold an event, and the places are one, the events are one
only : {E : Type 0} (l : List E) {j k : ℕ} {e f : E} → j ≡ k → get_elem? l j ≡ some e → get_elem? l k ≡ some f → e ≡ f
only l p q r = cc

-- an event of l₂ is the one of l₁ that it was moved from
module _ {E : Type 0} (key : E → Option ℕ) (l₁ l₂ : List E) (to from : ℕ → ℕ) (m : Moved key l₁ l₂ to from) where
  pub came : (q : ℕ) (e : E) → get_elem? l₂ q ≡ some e → get_elem? l₁ (from q) ≡ some e
  came q e h =
      let i : q < length l₂ = inside l₂ q e h in
      sym (m.same_event (from q) (m.from_in q i)) ∙ ap (get_elem? l₂) (m.to_from q i) ∙ h

  -- of the events that name a, those before place p of l₁ are those before place q of l₂
  abbrev pub Cut : ℕ → ℕ → ℕ → Type 0
  Cut a p q = (j : ℕ) (e : E) → get_elem? l₁ j ≡ some e → key e ≡ some a → (j < p → to j < q) × (to j < q → j < p)

  -- all of them; and those before one of them
  pub cut_all : (a : ℕ) → Cut a (length l₁) (length l₂)
  cut_all a j e h y = (λ lt. m.to_in j lt, λ lt. inside l₁ j e h)

  pub cut_at : (a k : ℕ) (f : E) → get_elem? l₁ k ≡ some f → key f ≡ some a → Cut a k (to k)
  cut_at a k f g z j e h y = (λ lt. m.in_order j k e f a lt h g y z, λ lt. go (dec_lt j k) lt)
    where
      go : Dec (j < k) → to j < to k → j < k
      go (yes x) lt = x
      go (no x) lt = elim (ℕ_discrete j k) [
        | yes w ↦ absurd (omega (arith, lt, ap to w))
        | no w ↦ absurd (omega (arith, lt, m.in_order k j f e a (omega arith) g h z y))
      ]

-- Two runs of states. A state changes at an event that is mine, by `next`, and stays at any other.
module _ {E S : Type 0} (key : E → Option ℕ) (a : ℕ) (next : S → E → S) where
  pub record Follows (l : List E) (at-time : ℕ → S) : Type 0 where
    pub mine : (k : ℕ) (e : E) → get_elem? l k ≡ some e → key e ≡ some a → at-time (suc k) ≡ next (at-time k) e
    pub other : (k : ℕ) (e : E) → get_elem? l k ≡ some e → key e ≢ some a → at-time (suc k) ≡ at-time k

  module _ (l₁ l₂ : List E) (to from : ℕ → ℕ) (m : Moved key l₁ l₂ to from) (s₁ s₂ : ℕ → S) (f₁ : Follows l₁ s₁) (f₂ : Follows l₂ s₂) (start : s₁ 0 ≡ s₂ 0) where
    abbrev pub Upto : ℕ → Type 0
    Upto n = (p q : ℕ) → p + q ≤ n → p ≤ length l₁ → q ≤ length l₂ → Cut key l₁ l₂ to from m a p q → s₁ p ≡ s₂ q

    is_mine : (e : E) → Dec (key e ≡ some a)
    is_mine e = Opt.discrete ℕ_discrete (key e) (some a)

    -- an event of l₁, or of l₂, that is another's is passed over
    pass₁ : (n p q : ℕ) → Upto n → suc p + q ≤ suc n → suc p ≤ length l₁ → q ≤ length l₂ → Cut key l₁ l₂ to from m a (suc p) q → (e : E) → get_elem? l₁ p ≡ some e → key e ≢ some a → s₁ (suc p) ≡ s₂ q
    pass₁ n p q ih b hp hq c e h other = f₁.other p e h other ∙ ih p q (omega arith) (omega arith) hq cut
      where
        cut : Cut key l₁ l₂ to from m a p q
        cut j f g y =
            let ne : j ≢ p = λ x. other (ap key (only l₁ (sym x) h g) ∙ y) in
            (λ lt. (c j f g y).0 (omega arith), λ lt. omega (arith, (c j f g y).1 lt))

    pass₂ : (n p q : ℕ) → Upto n → p + suc q ≤ suc n → p ≤ length l₁ → suc q ≤ length l₂ → Cut key l₁ l₂ to from m a p (suc q) → (e : E) → get_elem? l₂ q ≡ some e → key e ≢ some a → s₁ p ≡ s₂ (suc q)
    pass₂ n p q ih b hp hq c e h other = ih p q (omega arith) hp (omega arith) cut ∙ sym (f₂.other q e h other)
      where
        cut : Cut key l₁ l₂ to from m a p q
        cut j f g y =
            let ne : to j ≢ q = λ x. other (ap key (only l₂ (sym x) h (m.same_event j (inside l₁ j f g) ∙ g)) ∙ y) in
            (λ lt. omega (arith, (c j f g y).0 lt), λ lt. (c j f g y).1 (omega arith))

    -- both are the peer's: they are the same event
    both : (n p q : ℕ) → Upto n → suc p + suc q ≤ suc n → suc p ≤ length l₁ → suc q ≤ length l₂ → Cut key l₁ l₂ to from m a (suc p) (suc q) → (e f : E) → get_elem? l₁ p ≡ some e → key e ≡ some a → get_elem? l₂ q ≡ some f → key f ≡ some a → s₁ (suc p) ≡ s₂ (suc q)
    both n p q ih b hp hq c e f h y g z =
        f₁.mine p e h y ∙ (λ i. next (before i) (same_event i)) ∙ sym (f₂.mine q f g z)
      where
        o : get_elem? l₁ (from q) ≡ some f
        o = came key l₁ l₂ to from m q f g

        there : to (from q) ≡ q
        there = m.to_from q (inside l₂ q f g)

        not_before : from q < p → ⊥
        not_before lt = omega (arith, there, m.in_order (from q) p f e a lt o h z y, (c p e h y).0 (omega arith))

        eq : from q ≡ p
        eq = elim (ℕ_discrete (from q) p) [ yes x ↦ x | no x ↦ absurd (not_before (omega (arith, x, (c (from q) f o z).1 (omega (arith, there))))) ]

        same_event : e ≡ f
        same_event = sym (only l₁ eq o h)

        to_p : to p ≡ q
        to_p = ap to (sym eq) ∙ there

        cut : Cut key l₁ l₂ to from m a p q
        cut j f' g' y' = (
          λ lt. omega (arith, to_p, m.in_order j p f' e a lt g' h y' y),
          λ lt. let ne : j ≢ p = λ x. omega (arith, to_p, ap to x) in omega (arith, (c j f' g' y').1 (omega arith)),
        )

        before : s₁ p ≡ s₂ q
        before = ih p q (omega arith) (omega arith) (omega arith) cut

    turn : (n : ℕ) → Upto n → Upto (suc n)
    turn n ih zero zero b hp hq c = start
    turn n ih zero (suc q) b hp hq c = go (at l₂ q hq)
      where
        go : (e : E) × (get_elem? l₂ q ≡ some e) → s₁ 0 ≡ s₂ (suc q)
        go h = elim (is_mine h.0) [
          | yes y ↦ absurd (not-suc-le-zero ((c (from q) h.0 (came key l₁ l₂ to from m q h.0 h.1) y).1 (omega (arith, m.to_from q hq))))
          | no y ↦ pass₂ n zero q ih b hp hq c h.0 h.1 y
        ]
    turn n ih (suc p) zero b hp hq c = go (at l₁ p hp)
      where
        go : (e : E) × (get_elem? l₁ p ≡ some e) → s₁ (suc p) ≡ s₂ 0
        go h = elim (is_mine h.0) [
          | yes y ↦ absurd (not-suc-le-zero ((c p h.0 h.1 y).0 (omega arith)))
          | no y ↦ pass₁ n p zero ih b hp hq c h.0 h.1 y
        ]
    turn n ih (suc p) (suc q) b hp hq c = go (at l₁ p hp) (at l₂ q hq)
      where
        go : (e : E) × (get_elem? l₁ p ≡ some e) → (f : E) × (get_elem? l₂ q ≡ some f) → s₁ (suc p) ≡ s₂ (suc q)
        go h g = elim (is_mine h.0) [
          | no y ↦ pass₁ n p (suc q) ih b hp hq c h.0 h.1 y
          | yes y ↦ elim (is_mine g.0) [
            | no z ↦ pass₂ n (suc p) q ih b hp hq c g.0 g.1 z
            | yes z ↦ both n p q ih b hp hq c h.0 g.0 h.1 y g.1 z
          ]
        ]

    pub weave : (n : ℕ) → Upto n
    weave zero p q b hp hq c = (let e : p ≡ 0 = omega arith in ap s₁ e) ∙ start ∙ (let e : 0 ≡ q = omega arith in ap s₂ e)
    weave (suc n) p q b hp hq c = turn n (weave n) p q b hp hq c
