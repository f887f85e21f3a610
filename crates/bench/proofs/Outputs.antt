-- Laws of lines put into a buffer: by a store, one list of lines behind another, and what is pending where there is room for all.
-- Assumes nothing.
use Prim.Native.Nat.{ℕ, ◌+◌, ◌-◌, ◌≤◌}
use mathlib.Core.Path.{◌≡◌, refl, sym, ◌∙◌}
use mathlib.Core.Bool.{false}
use mathlib.Core.List.{List, [], ◌∷◌, ◌++◌}
use native.Mathlib.Omega.{arith}
use lib.Dec.{leb}
use lib.ListN.{length}
use lib.Seq.{sets-eq}
use borrow.Author.Tests.{le-leb, lt-leb, leb-false, leb-true}
use Rattle.octets.proofs.Branch.{by_bool}
use Rattle.octets.specs.Stored.{Stored}
use Rattle.bench.specs.Output.{Output, Line, up_to, put_of, put_all}

-- What was stored where there is room is a line put.
pub put_stored : {l k vs : List ℕ} {at : ℕ} (room n : ℕ) → Stored l at vs k → at + room ≤ length l → length vs ≤ room → n ≡ at + length vs → up_to k n ≡ put_of (record { room = room; text = vs }) (up_to l at)
unfolding put_of
put_stored {l} {k} {vs} {at} room n p h s e =
    rw (le-leb _ _ h, e, p.is, sets-eq vs l at (omega arith))

pub put_none : (v : Line) (o : Output) → leb (o.filled + v.room) (length o.octets) ≡ false → o ≡ put_of v o
unfolding put_of
put_none v o e = rw e

-- one list of lines behind another
pub all_behind : (vs ws : List Line) (o : Output) → put_all (vs ++ ws) o ≡ put_all ws (put_all vs o)
unfolding put_all
all_behind [] ws o = refl
all_behind (v ∷ vs) ws o = all_behind vs ws (put_of v o)

-- room behind what is there, as the code asks for it
pub room_behind : (at room n : ℕ) → at ≤ n → leb room (n - at) ≡ leb (at + room) n
room_behind at room n h =
    by_bool (leb room (n - at))
    (λ e. e ∙ sym (le-leb (at + room) n (omega (arith, leb-true room (n - at) e))))
    (λ e. e ∙ sym (lt-leb (at + room) n (omega (arith, leb-false room (n - at) e))))

-- three lists of lines, or four, put one behind the other
pub all_three : (us vs ws : List Line) (o o₁ o₂ o₃ : Output) → o₁ ≡ put_all us o → o₂ ≡ put_all vs o₁ → o₃ ≡ put_all ws o₂ → o₃ ≡ put_all (us ++ vs ++ ws) o
all_three us vs ws o o₁ o₂ o₃ e f g = rw (g, f, e, all_behind (us ++ vs) ws o, all_behind us vs o)

pub all_four : (us vs ws xs : List Line) (o o₁ o₂ o₃ o₄ : Output) → o₁ ≡ put_all us o → o₂ ≡ put_all vs o₁ → o₃ ≡ put_all ws o₂ → o₄ ≡ put_all xs o₃ → o₄ ≡ put_all (us ++ vs ++ ws ++ xs) o
all_four us vs ws xs o o₁ o₂ o₃ o₄ e f g h = rw (h, all_three us vs ws o o₁ o₂ o₃ e f g, all_behind (us ++ vs ++ ws) xs o)
