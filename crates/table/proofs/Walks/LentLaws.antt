-- What the contract of a thin function over a table that is lent says, apart from any memory: where not 32 records are lent (`says_not`), and where
-- 32 are (`says_32`). The core by value gives table and answer by f and the buffer by g.
-- Assumes nothing.
use mathlib.Core.Path.{◌≡◌, refl}
use mathlib.Core.Bool.{Bool, true, false, not}
use mathlib.Core.List.{List}
use Prim.Native.Nat.{ℕ}
use lib.Dec.{T as Holds, eqb}
use lib.ListN.{length}
use Rattle.octets.specs.Pick.{pick}
use Rattle.peer.specs.declared.record.Record.{Record}
use Rattle.peer.specs.declared.settings.Settings.{Settings}
use Rattle.table.specs.Lent.{malformed_of}
use Rattle.table.specs.declared.rules.answer.Answer.{Answer}
use Rattle.table.specs.declared.rules.answer.Stepped.{Stepped}
use Rattle.table.specs.declared.rules.event.Event.{Event}

-- table and answer, and the buffer, as a core by value gives them
abbrev pub Steps : Type 0
Steps = Settings → List Record → Event → List ℕ → ℕ → Stepped

abbrev pub Writes : Type 0
Writes = Settings → List Record → Event → List ℕ → List ℕ → List ℕ

-- what the test tells
pub not_32 : (t : Bool) → Holds (not t) → t ≡ false
not_32 true h = absurd h
not_32 false h = refl

pub is_32 : (t : Bool) → Holds (not (not t)) → t ≡ true
is_32 true h = refl
is_32 false h = absurd h

-- t: the records lent; xs: the frame; l: the buffer
module _ (f : Steps) (g : Writes) (t : List Record) (s : Settings) (e : Event) (xs l : List ℕ) where
  -- what the clause says of an answer, the last records and the last buffer
  abbrev pub Says : Answer → List Record → List ℕ → Type 0
  Says r zs cs =
      (r ≡ pick (eqb (length t) 32) (f s t e xs (length l)).answer (malformed_of e (length l)))
      × ((zs ≡ pick (eqb (length t) 32) (f s t e xs (length l)).table t) × (cs ≡ pick (eqb (length t) 32) (g s t e xs l) l))

  pub says_not : eqb (length t) 32 ≡ false → (r : Answer) → r ≡ malformed_of e (length l) → Says r t l
  says_not b r q = (rw (b, q), (rw b, rw b))

  -- ys: the records loaded; d: what the core gives; zs, cs: the records stored and the buffer
  pub says_32 : eqb (length t) 32 ≡ true → (ys : List Record) (d : Stepped) (zs : List Record) (cs : List ℕ) → ys ≡ t → (d ≡ f s ys e xs (length l)) × (cs ≡ g s ys e xs l) → zs ≡ d.table → Says d.answer zs cs
  says_32 b ys d zs cs q h z = (rw (b, h.0, q), (rw (b, z, h.0, q), rw (b, h.1, q)))
