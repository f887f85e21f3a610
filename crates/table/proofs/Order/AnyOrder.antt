-- The order between different peers' events does not matter, by the laws of `Local`.
--     Local          an event acts on its own peer's record alone
--     same-record    one peer's record depends on that peer's own events, in their order
--     any_order      the theorem
-- Assumes nothing.
use Prim.Native.Nat.{ℕ, zero, suc, ◌+◌, ◌≤◌, ◌<◌}
use native.Mathlib.Omega.{arith}
use native.Mathlib.Decide.{ℕ_discrete}
use mathlib.Core.Path.{◌≡◌, refl, sym, ap, ◌∙◌}
use mathlib.Core.Logic.{◌≢◌}
use mathlib.Core.Option.{Option, none, some}
use mathlib.Core.List.{List, [], ◌∷◌}
use lib.ListN.{length, get_or, set, take, get_elem?, length-set}
use lib.Seq.{get_or-set_same, get_or-set_other, ext_get_or, take-length}
use Rattle.table.specs.Order.{end, answers, Moved, Has, Named, SameOutcome}
use Rattle.table.proofs.Order.Weave.{Cut, Follows, at, came, cut_all, cut_at, inside, weave}

-- What makes the order between peers not matter: an event acts on its own peer's record alone.
pub record Local {R E A : Type 0} (d : R) (addr : R → ℕ) (key : E → Option ℕ) (WF : List R → Type 0) (step : List R → E → List R × A)
    (next : ℕ → R → E → R) (said : ℕ → R → E → A) (alone : E → A) : Type 0 where
  -- a step of a peer with a record keeps the table well formed
  pub keeps : (t : List R) (e : E) (i : ℕ) → WF t → i < length t → key e ≡ some (addr (get_or t i d)) → WF (step t e).0
  -- an event that names a peer with a record, at place i, changes that record alone; what it gets depends on nothing else
  pub acts : (t : List R) (e : E) (i : ℕ) → WF t → i < length t → key e ≡ some (addr (get_or t i d)) → step t e ≡ (set t i (next i (get_or t i d) e), said i (get_or t i d) e)
  -- and no record changes its address
  pub same : (i : ℕ) (r : R) (e : E) → addr (next i r e) ≡ addr r
  -- an event that names no valid peer changes nothing, and gets the same whatever the table
  pub stays : (t : List R) (e : E) → WF t → key e ≡ none → step t e ≡ (t, alone e)

module _ {R E A : Type 0} (step : List R → E → List R × A) where
  -- every event gets an answer, so that `SameOutcome` says something at every place
  pub length_answers : (l : List E) (t : List R) → length (answers step t l) ≡ length l
  length_answers [] t = refl
  length_answers (x ∷ l) t = ap suc (length_answers l (step t x).0)

  end_suc : (l : List E) (t : List R) (k : ℕ) (e : E) → get_elem? l k ≡ some e → end step t (take (suc k) l) ≡ (step (end step t (take k l)) e).0
  end_suc [] t k e h = let z : ◌≡◌ {A = ℕ} 0 1 = cc in absurd (omega arith)
  end_suc (x ∷ l) t zero e h = ap (λ (y : E). (step t y).0) (let p : x ≡ e = cc in p)
  end_suc (x ∷ l) t (suc k) e h = end_suc l (step t x).0 k e h

  answer_at : (l : List E) (t : List R) (k : ℕ) (e : E) → get_elem? l k ≡ some e → get_elem? (answers step t l) k ≡ some (step (end step t (take k l)) e).1
  answer_at [] t k e h = let z : ◌≡◌ {A = ℕ} 0 1 = cc in absurd (omega arith)
  answer_at (x ∷ l) t zero e h = ap (λ (y : E). some (step t y).1) (let p : x ≡ e = cc in p)
  answer_at (x ∷ l) t (suc k) e h = answer_at l (step t x).0 k e h

module _ {R E A : Type 0} (d : R) (addr : R → ℕ) (key : E → Option ℕ) (WF : List R → Type 0) (step : List R → E → List R × A) (next : ℕ → R → E → R) (said : ℕ → R → E → A) (alone : E → A) (law : Local d addr key WF step next said alone) (t : List R) (wf : WF t) where
  -- what holds of every table on the way
  record Same (u : List R) : Type 0 where
    well : WF u
    long : length u ≡ length t
    names : (i : ℕ) → addr (get_or u i d) ≡ addr (get_or t i d)

  -- the table before event k
  abbrev table : List E → ℕ → List R
  table l k = end step t (take k l)

  acts_at : (u : List R) (e : E) (i : ℕ) → Same u → i < length t → key e ≡ some (addr (get_or t i d)) → step u e ≡ (set u i (next i (get_or u i d) e), said i (get_or u i d) e)
  acts_at u e i v h k = law.acts u e i v.well (omega (arith, v.long)) (k ∙ ap some (sym (v.names i)))

  names_set : (u : List R) (e : E) (i : ℕ) → i < length u → (j : ℕ) → addr (get_or (set u i (next i (get_or u i d) e)) j d) ≡ addr (get_or u j d)
  names_set u e i h j = elim (ℕ_discrete j i) [
    | yes x ↦ rw (x, get_or-set_same u i (next i (get_or u i d) e) d h) (law.same i (get_or u i d) e)
    | no x ↦ ap addr (get_or-set_other u i j (next i (get_or u i d) e) d x)
  ]

  one : (u : List R) (e : E) → Same u → ((a : ℕ) → key e ≡ some a → Has d addr t a) → Same (step u e).0
  one u e v h = go (key e) refl
    where
      go : (o : Option ℕ) → key e ≡ o → Same (step u e).0
      go none k = rw (law.stays u e v.well k) v
      go (some a) k =
          let p : Has d addr t a = h a k in
          let q = acts_at u e p.0 v p.1 (k ∙ ap some (sym p.2)) in
          record {
            well = law.keeps u e p.0 v.well (omega (arith, v.long, p.1)) (k ∙ ap some (sym p.2 ∙ sym (v.names p.0)));
            long = ap (λ (x : List R × A). length x.0) q ∙ simp length-set v.long;
            names = λ j. ap (λ (x : List R × A). addr (get_or x.0 j d)) q ∙ names_set u e p.0 (omega (arith, v.long, p.1)) j ∙ v.names j;
          }

  module _ (l : List E) (named : Named d addr key t l) where
    along : (k : ℕ) → k ≤ length l → Same (table l k)
    along zero h = record { well = wf; long = refl; names = λ i. refl }
    along (suc k) h = go (at l k h) (along k (omega arith))
      where
        go : (e : E) × (get_elem? l k ≡ some e) → Same (table l k) → Same (table l (suc k))
        go e v = rw (end_suc step l t k e.0 e.1) (one (table l k) e.0 v (λ a. named k e.0 a e.1))

    -- the record at place i follows the events of its own address
    follows : (i : ℕ) → i < length t → Follows key (addr (get_or t i d)) (next i) l (λ k. get_or (table l k) i d)
    follows i b = record { mine = mine; other = other }
      where
        here : (k : ℕ) (e : E) → get_elem? l k ≡ some e → Same (table l k)
        here k e h = let q : k < length l = inside l k e h in along k (omega arith)

        mine : (k : ℕ) (e : E) → get_elem? l k ≡ some e → key e ≡ some (addr (get_or t i d)) → get_or (table l (suc k)) i d ≡ next i (get_or (table l k) i d) e
        mine k e h y =
            let v = here k e h in
            rw (end_suc step l t k e h, acts_at (table l k) e i v b y)
            (get_or-set_same (table l k) i (next i (get_or (table l k) i d) e) d (omega (arith, v.long)))

        other : (k : ℕ) (e : E) → get_elem? l k ≡ some e → key e ≢ some (addr (get_or t i d)) → get_or (table l (suc k)) i d ≡ get_or (table l k) i d
        other k e h y = rw (end_suc step l t k e h) (go (key e) refl)
          where
            go : (o : Option ℕ) → key e ≡ o → get_or (step (table l k) e).0 i d ≡ get_or (table l k) i d
            go none n = rw (law.stays (table l k) e (here k e h).well n)
            go (some a) n =
                let p : Has d addr t a = named k e a h n in
                let m : key e ≡ some (addr (get_or t p.0 d)) = n ∙ ap some (sym p.2) in
                rw (acts_at (table l k) e p.0 (here k e h) p.1 m)
                (get_or-set_other (table l k) p.0 i (next p.0 (get_or (table l k) p.0 d) e) d (λ x. y (m ∙ ap (λ (j : ℕ). some (addr (get_or t j d))) (sym x))))

  module _ (l₁ l₂ : List E) (to from : ℕ → ℕ) (m : Moved key l₁ l₂ to from) (named : Named d addr key t l₁) where
    named₂ : Named d addr key t l₂
    named₂ k e a h = named (from k) e a (came key l₁ l₂ to from m k e h)

    same_record_lem : (i : ℕ) → i < length t → (p q : ℕ) → p ≤ length l₁ → q ≤ length l₂ → Cut key l₁ l₂ to from m (addr (get_or t i d)) p q → get_or (table l₁ p) i d ≡ get_or (table l₂ q) i d
    same_record_lem i h p q hp hq c =
        weave key (addr (get_or t i d)) (next i) l₁ l₂ to from m (λ k. get_or (table l₁ k) i d) (λ k. get_or (table l₂ k) i d) (follows l₁ named i h) (follows l₂ named₂ i h) refl (p + q) p q (omega arith) hp hq c

    same_table_lem : end step t l₂ ≡ end step t l₁
    same_table_lem =
        let e₁ : table l₁ (length l₁) ≡ end step t l₁ = ap (end step t) (take-length l₁) in
        let e₂ : table l₂ (length l₂) ≡ end step t l₂ = ap (end step t) (take-length l₂) in
        let v₁ = along l₁ named (length l₁) (omega arith) in
        let v₂ = along l₂ named₂ (length l₂) (omega arith) in
        sym e₂ ∙ ext_get_or d _ _ (v₂.long ∙ sym v₁.long)
        (λ i lt. sym (same_record_lem i (omega (arith, lt, v₂.long)) (length l₁) (length l₂) (omega arith) (omega arith) (cut_all key l₁ l₂ to from m (addr (get_or t i d))))) ∙ e₁

    same_answer : (k : ℕ) → k < length l₁ → get_elem? (answers step t l₂) (to k) ≡ get_elem? (answers step t l₁) k
    same_answer k b = go (at l₁ k b)
      where
        go : (e : E) × (get_elem? l₁ k ≡ some e) → get_elem? (answers step t l₂) (to k) ≡ get_elem? (answers step t l₁) k
        go x = answer_at step l₂ t (to k) e (m.same_event k b ∙ h) ∙ ap some (said_same (key e) refl) ∙ sym (answer_at step l₁ t k e h)
          where
            e : E
            e = x.0

            h : get_elem? l₁ k ≡ some e
            h = x.1

            v₁ : Same (table l₁ k)
            v₁ = along l₁ named k (omega arith)

            v₂ : Same (table l₂ (to k))
            v₂ = let q : to k < length l₂ = m.to_in k b in along l₂ named₂ (to k) (omega arith)

            said_same : (o : Option ℕ) → key e ≡ o → (step (table l₂ (to k)) e).1 ≡ (step (table l₁ k) e).1
            said_same none n = rw (law.stays (table l₂ (to k)) e v₂.well n, law.stays (table l₁ k) e v₁.well n)
            said_same (some a) n =
                let p : Has d addr t a = named k e a h n in
                let y : key e ≡ some (addr (get_or t p.0 d)) = n ∙ ap some (sym p.2) in
                let q : to k < length l₂ = m.to_in k b in
                rw (acts_at (table l₂ (to k)) e p.0 v₂ p.1 y, acts_at (table l₁ k) e p.0 v₁ p.1 y)
                (ap (λ (r : R). said p.0 r e)
                (sym (same_record_lem p.0 p.1 k (to k) (omega arith) (omega arith) (cut_at key l₁ l₂ to from m (addr (get_or t p.0 d)) k e h y))))

    pub any_order : SameOutcome step t l₁ l₂ to
    any_order = record { table = same_table_lem; answer = same_answer }

-- A wider reading of what an event names asks more of the rearrangement, so the theorem serves it too.
pub coarser : {E : Type 0} (key wide : E → Option ℕ) → ((e : E) (a : ℕ) → key e ≡ some a → wide e ≡ some a) → (l₁ l₂ : List E) (to from : ℕ → ℕ) → Moved wide l₁ l₂ to from → Moved key l₁ l₂ to from
coarser key wide h l₁ l₂ to from m =
    record {
      to_in = m.to_in;
      from_in = m.from_in;
      from_to = m.from_to;
      to_from = m.to_from;
      same_event = m.same_event;
      in_order = λ j k e f a lt p q y z. m.in_order j k e f a lt p q (h e a y) (h f a z);
    }
