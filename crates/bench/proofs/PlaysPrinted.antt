-- What an input prints is the lines of its events, in order, and `stop` where it has a fault or a cut record.
-- Assumes nothing.
use Prim.Native.Nat.{ℕ, zero, suc}
use mathlib.Core.Path.{◌≡◌, refl, sym, ap, ◌∙◌}
use mathlib.Core.List.{List, [], ◌∷◌, ◌++◌, append_assoc}
use Rattle.octets.specs.Pick.{pick}
use Rattle.table.specs.Input.{body_of, taken_of}
use Rattle.bench.specs.Line.{stop_line}
use Rattle.bench.specs.Output.{said}
use Rattle.bench.specs.Play.{number_after}
use Rattle.bench.specs.Plays.{lines_of, plays_from, plays_of, stops, stops_from}
use Rattle.bench.specs.Printed.{Shown, Standing, at_start, begun_with, behind_first, output_of, played_on, printed_from}
use Rattle.table.specs.declared.host.input.Taken.{Taken}
use Rattle.table.specs.declared.host.input.Taken.TheVariants.{Cut, Fault, First, Next}

module _ (w : Shown) where
  abbrev Same : List ℕ → ℕ → Standing → Type 0
  Same xs k s = printed_from w k s xs ≡ lines_of w (plays_from k s xs) ++ pick (stops_from k s xs) stop_line []

  one : (x : ℕ) (xs : List ℕ) (s : Standing) → ((k : ℕ) (s : Standing) → Same xs k s) → (t : Taken) → taken_of (x ∷ xs) s.first ≡ t → Same (x ∷ xs) 0 s
  unfolding printed_from plays_from stops_from lines_of
  one x xs s more Cut h = rw h
  one x xs s more Fault h = rw h
  one x xs s more (First t) h = rw h (more (behind_first (x ∷ xs)) (begun_with s t))
  one x xs s more (Next e) h =
      let b = body_of (x ∷ xs) in
      let n = behind_first (x ∷ xs) in
      let u = played_on s e b in
      let line = said (w (number_after s.number) s.settings s.table e b) in
      rw h (ap (λ (l : List ℕ). line ++ l) (more n u) ∙ sym (append_assoc line (lines_of w (plays_from n u xs)) (pick (stops_from n u xs) stop_line [])))

  from : (xs : List ℕ) (k : ℕ) (s : Standing) → Same xs k s
  unfolding printed_from plays_from stops_from lines_of
  from [] zero s = refl
  from [] (suc k) s = refl
  from (x ∷ xs) (suc k) s = from xs k s
  from (x ∷ xs) zero s = one x xs s (λ k u. from xs k u) (taken_of (x ∷ xs) s.first) refl

  pub plays_printed : (xs : List ℕ) → output_of w xs ≡ lines_of w (plays_of xs) ++ pick (stops xs) stop_line []
  plays_printed xs = from xs 0 at_start
