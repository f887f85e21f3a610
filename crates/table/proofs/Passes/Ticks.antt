-- What the loops of a clock step keep, in the form of what is still to come, and that a turn keeps it.
-- Assumes nothing.
use Prim.Native.Nat.{ℕ, ◌+◌, ◌*◌, ◌≤◌, ◌<◌}
use mathlib.Core.Path.{◌≡◌, refl, ap, sym, ◌∙◌}
use mathlib.Core.Bool.{Bool, true, false}
use mathlib.Core.List.{List, [], ◌∷◌, ◌++◌, map}
use native.Mathlib.Nat.{add-zero}
use native.Mathlib.Omega.{arith}
use lib.Dec.{eqb}
use lib.ListN.{length, take, drop, get_or, set, length-append, length-set}
use lib.Seq.{drop-set-lt, drop-drop, get_or-drop, sets, length-sets}
use Rattle.octets.specs.Pick.{pick}
use Rattle.octets.specs.Field.{octets}
use Rattle.octets.specs.Report.{report_bytes}
use Rattle.octets.proofs.Stores.{sets_append}
use Rattle.peer.specs.Record.{free_of}
use Rattle.peer.specs.Tick.{tick_of}
use Rattle.peer.specs.declared.settings.Settings.{Settings}
use Rattle.peer.specs.declared.record.Record.{Record}
use Rattle.table.specs.Pass.{report_for, reports_of, after_of}
use Rattle.table.proofs.Passes.Loops.{left_step, left_end, map_step, map_end}

pub report_length : (p k a : ℕ) → eqb k 0 ≡ false → length (report_for p k a) ≡ 8
unfolding report_for report_bytes octets
report_length p k a e = rw e

pub report_short : (p k a : ℕ) → length (report_for p k a) ≤ 8
unfolding report_for report_bytes octets
report_short p k a = short (eqb k 0)
  where
    short : (b : Bool) → length (pick b [] (p ∷ k ∷ octets 6 a)) ≤ 8
    short true = omega arith
    short false = omega arith

-- the report of the place i
abbrev pub reported : Settings → ℕ → List Record → ℕ → List ℕ
reported s d t i = report_for i (tick_of s (get_or t i free_of) d).report (get_or t i free_of).address

-- What was told where i places are passed. d: the step; o₀, t: buffer and table before the loop; o: the buffer now, with n octets written.
pub record Told (s : Settings) (d : ℕ) (o₀ : List ℕ) (t : List Record) (o : List ℕ) (n i : ℕ) : Type 0 where
  pub place : i ≤ 32
  pub long : length t ≡ 32
  pub same : length o ≡ length o₀
  pub low : n ≤ 8 * i
  pub count : n + length (reports_of s d i (drop i t)) ≡ length (reports_of s d 0 t)
  pub bytes : sets o n (reports_of s d i (drop i t)) ≡ sets o₀ 0 (reports_of s d 0 t)

pub told_none : (s : Settings) (d : ℕ) (o : List ℕ) (t : List Record) → length t ≡ 32 → Told s d o t o 0 0
told_none s d o t h = record { place = omega arith; long = h; same = refl; low = omega arith; count = omega arith; bytes = refl }

module _ (s : Settings) (d : ℕ) (o₀ : List ℕ) (t : List Record) (o : List ℕ) (n i : ℕ) (k : Told s d o₀ t o n i) where
  pub told_step : i < 32 → (r : List ℕ) → r ≡ reported s d t i → length r ≤ 8 → (n' : ℕ) → n' ≡ n + length r → (o' : List ℕ) → o' ≡ sets o n r → Told s d o₀ t o' n' (i + 1)
  unfolding reports_of
  told_step h r er short n' en o' eo =
      let step : reports_of s d i (drop i t) ≡ r ++ reports_of s d (i + 1) (drop (i + 1) t) = left_step (reports_of s d i) t i free_of (omega (arith, k.long)) ∙ rw er in
      record {
        place = omega arith;
        long = k.long;
        same = ap length eo ∙ length-sets o n r ∙ k.same;
        low = omega arith;
        count = omega (arith, k.count, simp length-append at (ap length step));
        bytes = rw (eo, en, ← sets_append, ← step) k.bytes;
      }

  -- a place of which nothing is told
  pub told_nothing : i < 32 → (tick_of s (get_or t i free_of) d).report ≡ 0 → Told s d o₀ t o n (i + 1)
  unfolding report_for
  told_nothing h e = told_step h [] (rw e) (omega arith) n (omega arith) o refl

  -- after the last
  pub told_count : 32 ≤ i → n ≡ length (reports_of s d 0 t)
  unfolding reports_of
  told_count h = omega (arith, k.count, ap length (left_end (reports_of s d i) t i (omega (arith, k.long))))

  pub told_bytes : 32 ≤ i → o ≡ sets o₀ 0 (reports_of s d 0 t)
  unfolding reports_of
  told_bytes h = sym (ap (sets o n) (left_end (reports_of s d i) t i (omega (arith, k.long)))) ∙ k.bytes

-- The table by value meanwhile: the places passed are as they must be, the others as they were.
pub record Kept (s : Settings) (d : ℕ) (o₀ : List ℕ) (t₀ : List Record) (o : List ℕ) (t : List Record) (n i : ℕ) : Type 0 where
  pub told : Told s d o₀ t₀ o n i
  pub long : length t ≡ 32
  pub rest : drop i t ≡ drop i t₀
  pub rows : take i t ++ map (after_of s d) (drop i t) ≡ map (after_of s d) t₀

module _ (s : Settings) (d : ℕ) (o₀ : List ℕ) (t₀ : List Record) (o : List ℕ) (t : List Record) (n i : ℕ) (k : Kept s d o₀ t₀ o t n i) where
  here : get_or t i free_of ≡ get_or t₀ i free_of
  here = rw add-zero at (sym (get_or-drop i t 0 free_of) ∙ ap (λ l. get_or l 0 free_of) k.rest ∙ get_or-drop i t₀ 0 free_of)

  -- a turn at the place i
  pub kept_step : i < 32 → (v : Record) (r : List ℕ) → v ≡ after_of s d (get_or t i free_of) → r ≡ reported s d t i → length r ≤ 8 → (n' : ℕ) → n' ≡ n + length r → (o' : List ℕ) → o' ≡ sets o n r → Kept s d o₀ t₀ o' (set t i v) n' (i + 1)
  kept_step h v r ev er short n' en o' eo =
      record {
        told = told_step s d o₀ t₀ o n i k.told h r (er ∙ rw here) short n' en o' eo;
        long = simp length-set k.long;
        rest = drop-set-lt (i + 1) t i v (omega arith) ∙ sym (drop-drop 1 i t) ∙ ap (drop 1) k.rest ∙ drop-drop 1 i t₀;
        rows = map_step (after_of s d) t i free_of v (omega (arith, k.long)) ev ∙ k.rows;
      }

  -- after the last
  pub kept_rows : 32 ≤ i → t ≡ map (after_of s d) t₀
  kept_rows h = map_end (after_of s d) t (map (after_of s d) t₀) i (omega (arith, k.long)) k.rows
