-- What a turn of the importer leaves where it writes nothing, and bounds of what it writes.
-- Assumes nothing.
use Prim.Native.Nat.{ℕ, ◌+◌, ◌-◌, ◌≤◌}
use mathlib.Core.Path.{◌≡◌, refl, sym, ap, subst, ◌∙◌}
use mathlib.Core.Bool.{true, not}
use mathlib.Core.List.{List, [], ◌++◌}
use native.Mathlib.Nat.{add-zero}
use native.Mathlib.Omega.{arith}
use lib.Dec.{ltb, leb}
use lib.ListN.{length, take, drop, length-append, length-drop}
use lib.Seq.{length-take-le}
use borrow.Author.Tests.{leb-true}
use Rattle.octets.proofs.Branch.{pick_both, and_right}
use Rattle.bench.specs.Capture.{keeps_of, linked, numbered}
use Rattle.bench.specs.Import.{step, head_of, record_of, written_of}
use Rattle.bench.specs.Importer.{Front, Fronted, Turned, front_at, head_front, passing_front, turn_of, turned_of}
use Rattle.bench.specs.declared.importer.After.{After}
use Rattle.bench.specs.declared.importer.Stage.{Stage}
use Rattle.bench.specs.declared.importer.State.{State}
use Rattle.octets.specs.Field.{octets}

pub idle : {f : Front} {at : ℕ} {o : List ℕ} {r : After} → f.items ≡ [] → r ≡ turned_of at f → Fronted f at o r o
unfolding written_of
idle {f} {at} {o} {r} e h =
    record {
      state = ap (λ (a : After). a.state) h;
      taken = ap (λ (a : After). a.taken) h;
      wants = ap (λ (a : After). a.wants) h;
      out = ap (λ (a : After). a.out) h ∙ rw e (sym (add-zero at));
      put = record { is = rw e };
    }

abbrev IsSilent : Front → Type 0
IsSilent f = f.items ≡ []

pub head_silent : (s : State) (xs : List ℕ) → (head_front s xs).items ≡ []
unfolding head_front
head_silent s xs = pick_both IsSilent (ltb (length xs) 24) refl (pick_both IsSilent (not (numbered xs)) refl (pick_both IsSilent (not (linked xs)) refl refl))

pub passing_silent : (s : State) (n : ℕ) (xs : List ℕ) → (passing_front s n xs).items ≡ []
unfolding passing_front
passing_silent s n xs = pick_both IsSilent (leb n (length xs)) refl refl

pub kept_short : (a b : ℕ) → keeps_of a b ≡ true → a ≤ 4096
unfolding keeps_of
kept_short a b h = leb-true a 4096 (and_right (not (ltb a b)) (leb a 4096) h)

-- the octets of a packet, as the code takes them
pub part_short : (n b : ℕ) (xs : List ℕ) → 16 ≤ length xs → n ≤ length xs - 16 → keeps_of n b ≡ true → length (take (16 + n - 16) (drop 16 xs)) ≤ 4096
part_short n b xs h k e =
    let z : 16 + n - 16 ≡ n = omega arith in
    rw (z, length-take-le n (drop 16 xs) (omega (arith, length-drop 16 xs))) (kept_short n b e)

-- a step of the clock has seven octets
pub step_length : (n : ℕ) → length (record_of (step n)) ≡ 7
unfolding record_of head_of octets
step_length n = refl

pub step_then : (at n : ℕ) (vs : List ℕ) → at + 7 + length vs ≡ at + length (record_of (step n) ++ vs)
step_then at n vs = omega (arith, length-append (record_of (step n)) vs, step_length n)

-- A turn goes by the room, and by the stage.
module _ (s : State) (xs : List ℕ) {at : ℕ} {o : List ℕ} {r : After} {k : List ℕ} where
  pub in_room : leb (at + 4108) (length o) ≡ true → Fronted (front_at s.stage s xs) at o r k → Turned s xs at o r k
  unfolding turn_of
  in_room e h = rw e h

  pub by_stage : (g : Stage) → s.stage ≡ g → Fronted (front_at g s xs) at o r k → Fronted (front_at s.stage s xs) at o r k
  by_stage g e h = subst (λ (j : Stage). Fronted (front_at j s xs) at o r k) (sym e) h
