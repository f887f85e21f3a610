-- What `bench total` has read so far, piece by piece: its block and its reader are those of all the octets that came.
-- Assumes nothing.
use Prim.Native.Nat.{ℕ}
use mathlib.Core.List.{List, [], ◌++◌}
use mathlib.Core.Path.{◌≡◌, sym, ap, ap₂, ◌∙◌}
use Rattle.sums.specs.Adding.{added_from, adding_from, read_from}
use Rattle.sums.specs.declared.adding.Adding.{Adding}
use Rattle.sums.specs.Block.{empty_of}
use Rattle.sums.specs.Reader.{start_of}
use Rattle.sums.specs.declared.reader.Reader.{Reader}
use Rattle.sums.specs.Sums.{Total}
use Rattle.sums.proofs.Reading.{added_pieces_lem, read_pieces_lem}

pub record Came (a : Adding) : Type 0 where
  pub octets : List ℕ
  pub block : a.block ≡ added_from empty_of start_of octets
  pub reader : a.reader ≡ read_from start_of octets

pub came_none : (b : List Total) (r : Reader) → b ≡ empty_of → r ≡ start_of → Came (record { block = b; reader = r })
unfolding added_from read_from
came_none b r e f = record { octets = []; block = e; reader = f }

-- a piece more
pub came_on : (a c : Adding) (xs : List ℕ) → Came a → c ≡ adding_from a xs → Came c
came_on a c xs came e =
    record {
      octets = came.octets ++ xs;
      block =
          ap (λ (d : Adding). d.block) e ∙ ap₂ (λ (d : List Total) (s : Reader). added_from d s xs) came.block came.reader
          ∙ sym (added_pieces_lem empty_of start_of came.octets xs);
      reader = ap (λ (d : Adding). d.reader) e ∙ ap (λ (s : Reader). read_from s xs) came.reader ∙ sym (read_pieces_lem start_of came.octets xs);
    }
