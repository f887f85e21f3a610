-- The pieces in which a capture is read do not matter, nor do the turns in which it is imported: what is written, counted and refused all in all
-- is what the definition gives for the whole file.
-- Assumes nothing.
use Prim.Native.Nat.{ℕ, ◌+◌}
use mathlib.Core.Path.{◌≡◌, refl, sym, ap, ◌∙◌}
use mathlib.Core.Bool.{true}
use mathlib.Core.List.{List, [], ◌∷◌, ◌++◌, append_assoc, append-nil}
use lib.Dec.{leb}
use lib.ListN.{length, drop}
use Rattle.bench.specs.Import.{Item, Imported, record_of, written_of, imported_of}
use Rattle.bench.specs.Importer.{before, coming_from, start_of, turn_of, end_at, Turned}
use Rattle.bench.specs.declared.importer.After.{After}
use Rattle.bench.specs.declared.importer.State.{State}
use Rattle.bench.proofs.Comings.{turn_later}
use Rattle.bench.proofs.Ends.{turn_ends}

-- What a program does: from the state s with the octets xs at hand it reads pieces, `read` in all, and makes turns that each meet `turn`'s
-- contract, which put out `out` in all; then it stands at t with zs at hand. The pieces may be of any size, none too; a turn may find any
-- buffer, with room or without; turns and pieces come in any order.
pub data Fed : State → List ℕ → List ℕ → List ℕ → State → List ℕ → Type 0 where
  still : {s : State} {xs : List ℕ} → Fed s xs [] [] s xs
  piece : {s t : State} {xs zs read out : List ℕ} (ys : List ℕ) → Fed s (xs ++ ys) read out t zs → Fed s xs (ys ++ read) out t zs
  turned : {s t : State} {xs zs read out o k : List ℕ} {at : ℕ} {r : After} → Turned s xs at o r k → Fed r.state (drop r.taken xs) read out t zs →
      Fed s xs read (written_of (turn_of (leb (at + 4108) (length o)) s xs).items ++ out) t zs

-- What was to come is what was put out and what is still to come; counts and refusal, which come last, are the same.
pub record Then (m : Imported) (out : List ℕ) (n : Imported) : Type 0 where
  pub written : written_of m.items ≡ out ++ written_of n.items
  pub counts : m.counts ≡ n.counts
  pub refusal : m.refusal ≡ n.refusal

written_append : (is js : List Item) → written_of (is ++ js) ≡ written_of is ++ written_of js
unfolding written_of
written_append [] js = refl
written_append (i ∷ is) js = ap (λ (l : List ℕ). record_of i ++ l) (written_append is js) ∙ sym (append_assoc (record_of i) (written_of is) (written_of js))

then_before : {m n : Imported} {out : List ℕ} (is : List Item) → Then m out n → Then (before is m) (written_of is ++ out) n
then_before {m} {n} {out} is h =
    record {
      written = written_append is m.items ∙ rw h.written (sym (append_assoc (written_of is) out (written_of n.items)));
      counts = h.counts;
      refusal = h.refusal;
    }

pub fed_later : {s t : State} {xs read out zs : List ℕ} → Fed s xs read out t zs → Then (coming_from s (xs ++ read)) out (coming_from t zs)
fed_later {s} {t} {xs} {read} {out} {zs} still = rw (append-nil xs) (record { written = refl; counts = refl; refusal = refl })
fed_later (piece {s} {t} {xs} {zs} {read} {out} ys f) = rw (append_assoc xs ys read) at (fed_later f)
fed_later (turned {s} {t} {xs} {zs} {read} {out} {o} {k} {at} {r} h f) =
    let room = leb (at + 4108) (length o) in
    rw (turn_later room s xs read) (then_before (turn_of room s xs).items (rw (h.state, h.taken) at (fed_later f)))

-- THE STATEMENT: from the start, by any pieces and turns, to a turn that wants more where no more comes.
pub record Whole (xs out : List ℕ) (t : State) (zs : List ℕ) : Type 0 where
  pub written : out ≡ written_of (imported_of xs).items
  pub counts : t.counts ≡ (imported_of xs).counts
  pub refusal : end_at t.stage (length zs) ≡ (imported_of xs).refusal

pub pieces : {xs out zs : List ℕ} {s : State} → Fed start_of [] xs out s zs → (turn_of true s zs).wants ≡ true →
    Whole xs out (turn_of true s zs).after (drop (turn_of true s zs).taken zs)
unfolding written_of
pieces {xs} {out} {zs} {s} f w =
    let p = fed_later f in
    let e = turn_ends s zs w in
    record {
      written = sym (p.written ∙ ap (λ (m : Imported). out ++ written_of m.items) e ∙ append-nil out);
      counts = sym (p.counts ∙ ap (λ (m : Imported). m.counts) e);
      refusal = sym (p.refusal ∙ ap (λ (m : Imported). m.refusal) e);
    }
