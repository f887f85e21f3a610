-- 00, demand 1: each call "gives a refusal from the listed numbers, exactly when the list says so" (`refused_exactly`, of any event).
-- Assumes nothing.
use Prim.Native.Nat.{ℕ, zero, suc, ◌≤◌}
use mathlib.Core.Path.{◌≡◌, refl, ap, sym, ◌∙◌}
use mathlib.Core.Bool.{Bool, true, false, not}
use mathlib.Core.List.{List, [], ◌∷◌, ◌++◌}
use native.Mathlib.Omega.{arith}
use lib.Dec.{leb, eqb, eqb-suc-zero}
use borrow.Author.Tests.{eqb-true, leb-true}
use Rattle.octets.proofs.Branch.{and_left, and_right, by_bool}
use Rattle.peer.specs.declared.settings.Settings.{Settings}
use Rattle.peer.specs.declared.record.Record.{Record}
use Rattle.table.specs.Places.{all_tails, all_of}
use Rattle.table.specs.Answer.{settled_of, refused_of, stepped_of}
use Rattle.table.specs.Refusals.{first_of}
use Rattle.table.specs.Receive.{received_of}
use Rattle.table.specs.Ask.{asked_of}
use Rattle.table.specs.Pass.{pass_refusals, passed_of}
use Rattle.table.specs.Step.{step_of}
use Rattle.table.proofs.Theorems.Gives.{Gives, refuses, acts, received_gives, asked_gives, linked_gives}
use Rattle.table.specs.Exactly.{NoneHolds, First, Exactly, frame_refusals, ask_refusals, link_refusals, refusals_of}
use Rattle.table.specs.Link.{linked_of}
use Rattle.table.specs.declared.rules.answer.Met.{Met}
use Rattle.table.specs.declared.rules.event.Event.{Event}
use Rattle.table.specs.declared.rules.event.Event.TheVariants as event

-- ---- lists of numbers and conditions

-- each number is one of a refusal
abbrev Numbered : List (ℕ × Bool) → Type 0
Numbered l = all_of (λ r. not (eqb r.0 0)) l ≡ true

one_more : (m : ℕ) (l : List (ℕ × Bool)) {n : ℕ} → First n l → First n ((m, false) ∷ l)
unfolding all_tails
one_more m l f = record { before = (m, false) ∷ f.before; after = f.after; split = ap (λ (r : List (ℕ × Bool)). (m, false) ∷ r) f.split; none = f.none }

first_found : (l : List (ℕ × Bool)) → (first_of l ≡ 0 → ⊥) → First (first_of l) l
unfolding first_of all_tails
first_found [] h = absurd (h refl)
first_found ((m, true) ∷ l) h = record { before = []; after = l; split = refl; none = refl }
first_found ((m, false) ∷ l) h = one_more m l (first_found l h)

split_first : (b a : List (ℕ × Bool)) (n : ℕ) → NoneHolds b → first_of (b ++ ((n, true) ∷ a)) ≡ n
unfolding first_of all_tails
split_first [] a n h = refl
split_first ((m, true) ∷ b) a n h = cc
split_first ((m, false) ∷ b) a n h = split_first b a n h

none_zero : (l : List (ℕ × Bool)) → NoneHolds l → first_of l ≡ 0
unfolding first_of all_tails
none_zero [] h = refl
none_zero ((m, true) ∷ l) h = cc
none_zero ((m, false) ∷ l) h = none_zero l h

zero_none : (l : List (ℕ × Bool)) → Numbered l → first_of l ≡ 0 → NoneHolds l
unfolding first_of all_tails
zero_none [] k h = refl
zero_none ((zero, b) ∷ l) k h = cc
zero_none ((suc m, true) ∷ l) k h = cc
zero_none ((suc m, false) ∷ l) k h = zero_none l (rw (eqb-suc-zero m) at k) h

pub first_exactly : (l : List (ℕ × Bool)) → Numbered l → Exactly (first_of l) l
first_exactly l k = record {
  refused = first_found l;
  refuses = λ f. ap first_of f.split ∙ split_first f.before f.after _ f.none;
  done = zero_none l k;
  does = none_zero l;
}

-- no number is above 9
abbrev Below : List (ℕ × Bool) → Type 0
Below l = all_of (λ r. leb r.0 9) l ≡ true

pub first_below : (l : List (ℕ × Bool)) → Below l → first_of l ≤ 9
unfolding first_of all_tails
first_below [] h = omega arith
first_below ((m, true) ∷ l) h = leb-true m 9 (and_left (leb m 9) _ h)
first_below ((m, false) ∷ l) h = first_below l (and_right (leb m 9) _ h)

-- ---- what each call gives

gives_refusal : {t : List Record} {n : ℕ} {m : Met} → Gives t n m → m.answer.refusal ≡ n
unfolding refused_of settled_of
gives_refusal refuses = refl
gives_refusal (acts h) = h

-- the refusal that each call gives is the first of its list that applies
pub received_refusal : (s : Settings) (t : List Record) (xs : List ℕ) (n : ℕ) → (received_of s t xs n).answer.refusal ≡ first_of (frame_refusals s t xs n)
received_refusal s t xs n = gives_refusal (received_gives s t xs n)

pub asked_refusal : (s : Settings) (t : List Record) (q a c n : ℕ) → (asked_of s t q a c n).answer.refusal ≡ first_of (ask_refusals s t q a c n)
asked_refusal s t q a c n = gives_refusal (asked_gives s t q a c n)

pub linked_refusal : (s : Settings) (t : List Record) (xs : List ℕ) (n : ℕ) → (linked_of s t xs n).answer.refusal ≡ first_of (link_refusals s t xs n)
linked_refusal s t xs n = gives_refusal (linked_gives s t xs n)

pub passed_refusal : (s : Settings) (t : List Record) (d n : ℕ) → (passed_of s t d n).answer.refusal ≡ first_of (pass_refusals s t d n)
unfolding passed_of
passed_refusal s t d n =
    by_bool (eqb (first_of (pass_refusals s t d n)) 0) (λ e. rw e (sym (eqb-true _ 0 e))) (λ e. rw e)

pub refusal_first : (s : Settings) (t : List Record) (e : Event) (xs : List ℕ) (n : ℕ) → (step_of s t e xs n).answer.refusal ≡ first_of (refusals_of s t e xs n)
unfolding stepped_of
refusal_first s t event.Frame xs n = received_refusal s t xs n
refusal_first s t (event.Ask q a c) xs n = asked_refusal s t q a c n
refusal_first s t event.Links xs n = linked_refusal s t xs n
refusal_first s t (event.Clock d) xs n = passed_refusal s t d n

all_numbered : (s : Settings) (t : List Record) (e : Event) (xs : List ℕ) (n : ℕ) → Numbered (refusals_of s t e xs n)
unfolding all_tails
all_numbered s t event.Frame xs n = refl
all_numbered s t (event.Ask q a c) xs n = refl
all_numbered s t event.Links xs n = refl
all_numbered s t (event.Clock d) xs n = refl

-- Of any settings, table, event, frame and length of the buffer: the number given is exactly the list's.
pub refused_exactly : (s : Settings) (t : List Record) (e : Event) (xs : List ℕ) (n : ℕ) → Exactly (step_of s t e xs n).answer.refusal (refusals_of s t e xs n)
refused_exactly s t e xs n = rw (refusal_first s t e xs n) (first_exactly (refusals_of s t e xs n) (all_numbered s t e xs n))

-- "a refusal from the listed numbers": 1 to 9, or 0, "done"
pub refusal_listed : (s : Settings) (t : List Record) (e : Event) (xs : List ℕ) (n : ℕ) → (step_of s t e xs n).answer.refusal ≤ 9
unfolding all_tails
refusal_listed s t e xs n = rw (refusal_first s t e xs n) (first_below (refusals_of s t e xs n) (below e))
  where
    below : (e : Event) → Below (refusals_of s t e xs n)
    below event.Frame = refl
    below (event.Ask q a c) = refl
    below event.Links = refl
    below (event.Clock d) = refl
