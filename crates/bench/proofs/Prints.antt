-- What is printed, record by record, whatever follows: the settings, an event, a fault, and what the end of the input cuts.
-- Assumes nothing.
use Prim.Native.Nat.{ℕ, zero, suc, ◌+◌, ◌≤◌}
use mathlib.Core.Path.{◌≡◌, refl, ap, ◌∙◌}
use mathlib.Core.Bool.{true}
use mathlib.Core.List.{List, [], ◌∷◌, ◌++◌}
use native.Mathlib.Nat.{le_of_suc-le-suc, not-suc-le-zero}
use native.Mathlib.Omega.{arith}
use lib.Dec.{eqb}
use lib.ListN.{length, drop, length-append}
use lib.Seq.{drop-append-le}
use borrow.Author.Tests.{ne_eqb}
use Rattle.octets.specs.Pick.{pick}
use Rattle.peer.proofs.Fits.{clash}
use Rattle.peer.specs.declared.settings.Settings.{Settings}
use Rattle.table.specs.declared.rules.event.Event.{Event}
use Rattle.table.specs.Input.{body_of, size_of, taken_of}
use Rattle.bench.specs.Line.{stop_line}
use Rattle.bench.specs.Output.{said}
use Rattle.bench.specs.Play.{number_after}
use Rattle.bench.specs.Printed.{Shown, Standing, begun_with, behind_first, played_on, printed_from}
use Rattle.table.specs.declared.host.input.Taken.TheVariants.{Cut, Fault, First, Next}
use Rattle.bench.proofs.MoreOctets.{body_more, field_more, later}
use Rattle.table.proofs.Octets.InputLaws.{is_short, is_cut, record_whole}

module _ (w : Shown) where
  skip : (xs : List ℕ) (k : ℕ) (s : Standing) → k ≤ length xs → printed_from w k s xs ≡ printed_from w 0 s (drop k xs)
  unfolding printed_from
  skip [] zero s h = refl
  skip [] (suc k) s h = absurd (not-suc-le-zero h)
  skip (x ∷ xs) zero s h = refl
  skip (x ∷ xs) (suc k) s h = skip xs k s (le_of_suc-le-suc h)

  -- the end of the input, with these octets left
  pub print_cut : (s : Standing) (xs : List ℕ) → taken_of xs s.first ≡ Cut → printed_from w 0 s xs ≡ pick (eqb (length xs) 0) [] stop_line
  unfolding printed_from
  print_cut s [] h = refl
  print_cut s (x ∷ xs) h = rw (h, ne_eqb (suc (length xs)) 0 (λ e. omega arith))

  fault_only : (s : Standing) (xs : List ℕ) → taken_of xs s.first ≡ Fault → printed_from w 0 s xs ≡ stop_line
  unfolding printed_from
  fault_only s [] h = let c : is_cut (taken_of [] s.first) ≡ true = rw (is_short [] s.first refl) in clash c (rw h)
  fault_only s (x ∷ xs) h = rw h

  -- a record at the front, and what is printed behind it
  first_only : (s : Standing) (xs : List ℕ) (t : Settings) → taken_of xs s.first ≡ First t → size_of xs ≤ length xs →
      printed_from w 0 s xs ≡ printed_from w 0 (begun_with s t) (drop (size_of xs) xs)
  unfolding printed_from
  first_only s [] t h z = absurd (omega arith)
  first_only s (x ∷ xs) t h z =
      let e : size_of (x ∷ xs) ≡ suc (behind_first (x ∷ xs)) = omega arith in
      rw (h, e, skip xs (behind_first (x ∷ xs)) (begun_with s t) (omega arith))

  next_only : (s : Standing) (xs : List ℕ) (e : Event) → taken_of xs s.first ≡ Next e → size_of xs ≤ length xs →
      printed_from w 0 s xs ≡
      said (w (number_after s.number) s.settings s.table e (body_of xs)) ++ printed_from w 0 (played_on s e (body_of xs)) (drop (size_of xs) xs)
  unfolding printed_from
  next_only s [] e h z = absurd (omega arith)
  next_only s (x ∷ xs) e h z =
      let n : size_of (x ∷ xs) ≡ suc (behind_first (x ∷ xs)) = omega arith in
      rw (h, n, skip xs (behind_first (x ∷ xs)) (played_on s e (body_of (x ∷ xs))) (omega arith))

  module _ (s : Standing) (xs ys : List ℕ) where
    pub print_fault : taken_of xs s.first ≡ Fault → printed_from w 0 s (xs ++ ys) ≡ stop_line
    print_fault h = fault_only s (xs ++ ys) (later xs ys s.first (rw h) ∙ h)

    size_more : size_of xs ≤ length xs → size_of (xs ++ ys) ≡ size_of xs
    size_more z = ap (λ (n : ℕ). n + 5) (field_more xs ys 2 3 (omega arith))

    more_room : size_of xs ≤ length xs → size_of (xs ++ ys) ≤ length (xs ++ ys)
    more_room z = rw (size_more z) (omega (arith, length-append xs ys))

    pub print_first : (t : Settings) → taken_of xs s.first ≡ First t → printed_from w 0 s (xs ++ ys) ≡ printed_from w 0 (begun_with s t) (drop (size_of xs) xs ++ ys)
    print_first t h =
        let z = record_whole xs s.first (rw h) in
        first_only s (xs ++ ys) t (later xs ys s.first (rw h) ∙ h) (more_room z)
        ∙ ap (printed_from w 0 (begun_with s t)) (ap (λ (n : ℕ). drop n (xs ++ ys)) (size_more z) ∙ drop-append-le (size_of xs) xs ys z)

    pub print_next : (e : Event) → taken_of xs s.first ≡ Next e → printed_from w 0 s (xs ++ ys) ≡
        said (w (number_after s.number) s.settings s.table e (body_of xs)) ++ printed_from w 0 (played_on s e (body_of xs)) (drop (size_of xs) xs ++ ys)
    print_next e h =
        let z = record_whole xs s.first (rw h) in
        next_only s (xs ++ ys) e (later xs ys s.first (rw h) ∙ h) (more_room z)
        ∙ (ap (λ (b : List ℕ). said (w (number_after s.number) s.settings s.table e b) ++ printed_from w 0 (played_on s e b) (drop (size_of (xs ++ ys)) (xs ++ ys))) (body_more xs ys z)
        ∙ ap (λ (r : List ℕ). said (w (number_after s.number) s.settings s.table e (body_of xs)) ++ printed_from w 0 (played_on s e (body_of xs)) r) (ap (λ (n : ℕ). drop n (xs ++ ys)) (size_more z) ∙ drop-append-le (size_of xs) xs ys z))
