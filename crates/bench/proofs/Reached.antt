-- Where the program's loop gets: each round goes on from the rounds before, unless a read or a write failed; then the run is done.
-- Assumes nothing.
use Prim.Native.Nat.{ℕ, ◌+◌, ◌≤◌}
use mathlib.Core.Path.{◌≡◌, refl}
use mathlib.Core.Bool.{true, false}
use mathlib.Core.List.{List}
use native.Mathlib.Omega.{arith}
use lib.ListN.{length, replicate}
use borrow.Author.Tests.{leb-true}
use Rattle.peer.proofs.Fits.{clash}
use Rattle.table.specs.Input.{taken_of}
use Rattle.bench.specs.Rounds.{Ran, ahead, came, start, taken, went}
use Rattle.bench.specs.Run.{done_of, flushed_of, start_of}
use Rattle.bench.specs.Turn.{Flushed, Refilled, Rounded, TurnOf, Turned, failed, more, on, out, took, unwritten, wanted, written}
use Rattle.table.specs.declared.host.input.Taken.TheVariants.{Cut}
use Rattle.bench.specs.declared.run.Prints.{Prints}
use Rattle.bench.specs.declared.run.Run.{Run}
use Rattle.bench.proofs.Whole.{kept}

-- Buffers xs and o and a run r that the rounds lead to, with room for a turn's lines; once it is done, no line is left to be written.
pub data Reached (prints : Prints) (ts xs o : List ℕ) (r : Run) : Type 0 where
  ran : {read wrote : List ℕ} → Ran prints ts xs o r read wrote → (r.done ≡ false → r.out + 8192 ≤ length o) → (r.done ≡ true → r.out ≡ 0) → Reached prints ts xs o r
  broke : r.done ≡ true → Reached prints ts xs o r

pub at_first : (prints : Prints) (ts xs o : List ℕ) (r : Run) → ts ≡ replicate 1536 0 → length xs ≡ 65536 → length o ≡ 65536 → r ≡ start_of prints → Reached prints ts xs o r
unfolding start_of
at_first prints ts xs o r z a b e = rw (z, e) (ran (start a b) (λ d. omega arith) (λ d. refl))

-- the same, with what is printed read off the run
pub at_start : (prints : Prints) (ts xs o : List ℕ) (r : Run) → ts ≡ replicate 1536 0 → length xs ≡ 65536 → length o ≡ 65536 → r ≡ start_of prints → Reached r.prints ts xs o r
unfolding start_of
at_start prints ts xs o r z a b e = rw e (at_first prints ts xs o (start_of prints) z a b refl)

-- A turn, of a run with `out` octets pending and `wrote` written: it goes on; or it could not read.
pub data Turns (prints : Prints) (out : ℕ) (wrote ts xs o : List ℕ) (r : Run) : Type 0 where
  went_on : {read : List ℕ} → Ran prints ts xs o r read wrote → Turns prints out wrote ts xs o r
  failed_then : r.done ≡ true → r.over ≡ false → r.out ≡ out → Turns prints out wrote ts xs o r

module _ {prints : Prints} {ts xs o : List ℕ} {r : Run} {read wrote : List ℕ} (w : Ran prints ts xs o r read wrote) (d : r.done ≡ false) (room : r.out + 8192 ≤ length o) where
  refilled : (us ys k : List ℕ) (q : Run) → length ys ≡ length xs → taken_of (ahead xs r) r.first ≡ Cut → r.over ≡ false → us ≡ ts → k ≡ o → Refilled xs r ys q → Turns prints r.out wrote us ys k q
  unfolding done_of
  refilled us ys k q a c v g e (failed f) = failed_then (rw f) (rw f v) (rw f)
  refilled us ys k q a c v h e (more n f g) = rw (h, e) (went_on (came n w d c v a f g))

  by_turn : (us ys k : List ℕ) (q : Run) → length ys ≡ length xs → length k ≡ length o → Turned (taken_of (ahead xs r) r.first) ts xs o r us ys k q → Turns prints r.out wrote us ys k q
  by_turn us ys k q a b (took f e) = rw e (went_on (taken w d room b f))
  by_turn us ys k q a b (wanted c v f g e) = refilled us ys k q a c v g e f

  pub turned : (us ys k : List ℕ) (q : Run) → length ys ≡ length xs → length k ≡ length o → TurnOf ts xs o r us ys k q → Turns prints r.out wrote us ys k q
  turned us ys k q a b t = by_turn us ys k q a b (t (kept w).places (kept w).inside)

-- with room left, or the lines written
still_on : {prints : Prints} {out : ℕ} {wrote us ys k : List ℕ} {q : Run} → Turns prints out wrote us ys k q → q.done ≡ false → q.out + 8192 ≤ length k → Reached prints us ys k q
still_on (went_on w) d l = ran w (λ e. l) (λ e. clash e d)
still_on (failed_then e v z) d l = broke e

written_out : {prints : Prints} {out : ℕ} {wrote us ys k : List ℕ} (t q : Run) → 8192 ≤ length k → Turns prints out wrote us ys k t → Flushed k t q → Reached prints us ys k q
unfolding flushed_of
written_out t q l (went_on w) (written h e) = rw e (ran (went w h) (λ d. omega arith) (λ d. refl))
written_out t q l (failed_then f v z) (written h e) = broke (rw e f)
written_out t q l u (unwritten e) = broke (rw e)

-- a round
pub round_on : {prints : Prints} {ts xs o : List ℕ} {r : Run} (us ys k : List ℕ) (q : Run) → Reached prints ts xs o r → r.done ≡ false → length ys ≡ length xs → length k ≡ length o →
    length o ≡ 65536 → Rounded ts xs o r us ys k q → Reached prints us ys k q
round_on us ys k q (broke e) d a b l s = clash e d
round_on us ys k q (ran w room none) d a b l (on t f g) = still_on (turned w d (room d) us ys k q a b t) f (leb-true (q.out + 8192) (length k) g)
round_on us ys k q (ran w room none) d a b l (out u t f) = written_out u q (omega arith) (turned w d (room d) us ys k u a b t) f
