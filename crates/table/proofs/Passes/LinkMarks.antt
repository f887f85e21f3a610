-- The search for a link that is in two slots or a device's address, from the last slot to the first: the marks of all devices and of each link
-- passed are set (`Compared`).
-- Assumes nothing.
use mathlib.Core.Path.{◌≡◌, refl, sym, ◌∙◌}
use mathlib.Core.Bool.{Bool, true, false, not, ◌&&◌, ◌||◌}
use mathlib.Core.List.{List, [], ◌∷◌}
use Prim.Native.Nat.{ℕ, zero, suc, ◌+◌, ◌-◌, ◌<◌, ◌≤◌}
use native.Mathlib.Omega.{arith}
use lib.Dec.{eqb}
use lib.ListN.{length, drop, get_or, set}
use lib.Seq.{get_or-set_same, get_or-set_other}
use borrow.Author.Tests.{eqb-true, eqb-false}
use Rattle.octets.proofs.Branch.{by_bool}
use Rattle.peer.proofs.Fits.{both, clash, or_right}
use Rattle.table.specs.Fit.{alone_in, apart, links_apart}
use Rattle.table.specs.Places.{all_tails, all_of}
use Rattle.table.proofs.Passes.LinkLaws.{apart_both, both_apart}
use Rattle.table.proofs.Passes.Lists.{all_get, join}
use Rattle.table.proofs.Passes.Loops.{all_end, all_step}
use Rattle.table.proofs.Passes.Marks.{Marked, Passed, marked_more, none_behind, passed_all, passed_none, passed_one, passed_zero, same_twice}

-- inside a list it does not matter what stands outside
inside_same : {A : Type 0} (l : List A) (i : ℕ) (d e : A) → i < length l → get_or l i d ≡ get_or l i e
inside_same [] i d e h = absurd (omega arith)
inside_same (x ∷ l) zero d e h = refl
inside_same (x ∷ l) (suc i) d e h = inside_same l i d e (omega arith)

-- each address of a list has its mark set
pub marked_all : (f : ℕ → ℕ) (marks : List Bool) → ((a : ℕ) → f a < length marks) → (l : List ℕ) → ((i : ℕ) → i < length l → get_or marks (f (get_or l i 0)) true ≡ true) → Marked f marks l ≡ true
unfolding all_tails
marked_all f marks w [] h = refl
marked_all f marks w (a ∷ l) h =
    join
    (or_right (eqb a 0) _ (inside_same marks (f a) false true (w a) ∙ h zero (omega arith)))
    (marked_all f marks w l (λ i r. h (suc i) (omega arith)))

-- marks are set one after the other: those of f 0 to f i
pub marked_next : (marks : List Bool) (f : ℕ → ℕ) (i m : ℕ) → m < length marks → m ≡ f i → ((j : ℕ) → j < i → get_or marks (f j) true ≡ true) → (j : ℕ) → j < i + 1 → get_or (set marks m true) (f j) true ≡ true
marked_next marks f i m h e k j l = by_bool (eqb j i)
    (λ q. rw (eqb-true j i q, ← e) (get_or-set_same marks m true true h))
    (λ q. by_bool (eqb (f j) m)
    (λ p. rw (eqb-true (f j) m p) (get_or-set_same marks m true true h))
    (λ p. get_or-set_other marks m (f j) true true (eqb-false (f j) m p) ∙ k j (omega (arith, eqb-false j i q))))

-- ls: the links, slot by slot; ads: the devices' addresses. The slots from k on are passed.
pub record Compared (f : ℕ → ℕ) (ls ads : List ℕ) (marks : List Bool) (k : ℕ) : Type 0 where
  pub passed : Passed f ls marks k
  pub devices : Marked f marks ads ≡ true
  pub alone : all_of (λ l. alone_in l ads) (drop k ls) ≡ true

pub compared_none : (f : ℕ → ℕ) (ls ads : List ℕ) (marks : List Bool) → ((a : ℕ) → f a < length marks) → Marked f marks ads ≡ true → Compared f ls ads marks (length ls)
compared_none f ls ads marks w m =
    record { passed = passed_none f ls marks w; devices = m; alone = all_end (λ l. alone_in l ads) ls (length ls) (omega arith) }

pub compared_all : {f : ℕ → ℕ} (ls ads : List ℕ) (marks : List Bool) (k : ℕ) → Compared f ls ads marks k → k ≤ 0 → true ≡ links_apart ls ads
compared_all ls ads marks k v h =
    let e : k ≡ 0 = omega arith in
    sym (both_apart ls ads (sym (passed_all ls marks k v.passed h)) (rw e at v.alone))

-- l: the link in the slot before k
module _ {f : ℕ → ℕ} (ls ads : List ℕ) (marks : List Bool) (k : ℕ) (v : Compared f ls ads marks k) (h : 0 < k) (l : ℕ) (el : l ≡ get_or ls (k - 1) 0) where
  next : k - 1 + 1 ≡ k
  next = omega arith

  inside : k - 1 < length ls
  inside = omega (arith, v.passed.low)

  more_alone : alone_in l ads ≡ true → all_of (λ l. alone_in l ads) (drop (k - 1) ls) ≡ true
  more_alone a = all_step (λ l. alone_in l ads) ls (k - 1) 0 inside ∙ rw (← el, a, next, v.alone)

  pub compared_zero : l ≡ 0 → Compared f ls ads marks (k - 1)
  unfolding alone_in
  compared_zero z =
      record { passed = passed_zero ls marks k v.passed h l el z; devices = v.devices; alone = more_alone (rw z) }

  -- m: its mark
  module _ (z : eqb l 0 ≡ false) (m : ℕ) (em : m ≡ f l) where
    abbrev later : Bool
    later = all_of (apart l) (drop (k - 1 + 1) ls)

    abbrev other : Bool
    other = all_of (apart l) ads

    pub compared_one : (not (get_or marks m false) || (later && other)) ≡ true → Compared f ls ads (set marks m true) (k - 1)
    unfolding alone_in
    compared_one e =
        record {
          passed = passed_one ls marks k v.passed h l el z m em (first (get_or marks m false) e);
          devices = marked_more f marks m ads (rw em (v.passed.wide l)) v.devices;
          alone = more_alone (rw z (device (get_or marks m false) refl e));
        }
      where
        first : (b : Bool) → (not b || (later && other)) ≡ true → (not b || later) ≡ true
        first true e = (both later other e).0
        first false e = refl

        device : (b : Bool) → get_or marks m false ≡ b → (not b || (later && other)) ≡ true → other ≡ true
        device true eb e = (both later other e).1
        device false eb e = none_behind f marks l ads z (rw em at eb) v.devices

    pub not_apart : (not (get_or marks m false) || (later && other)) ≡ false → false ≡ links_apart ls ads
    unfolding alone_in
    not_apart e = by_bool (links_apart ls ads)
        (λ a.
        let w = apart_both ls ads a in
        let mine : alone_in l ads ≡ true = rw el (all_get (λ l. alone_in l ads) ls (k - 1) 0 w.1 refl) in
        clash w.0 (sym (same_twice ls marks k v.passed h l el z m em (late (get_or marks m false) (rw z at mine) e))))
        sym
      where
        late : (b : Bool) → other ≡ true → (not b || (later && other)) ≡ false → (not b || later) ≡ false
        late true o e = by_bool later (λ q. clash (join q o) e) (λ q. q)
        late false o e = e
