-- Laws of blocks read back: one octet more in a loop, and pieces of any size.
-- Assumes nothing.
use Prim.Native.Nat.{ℕ}
use mathlib.Core.Path.{◌≡◌, refl, sym, ◌∙◌}
use mathlib.Core.List.{List, [], ◌∷◌, ◌++◌}
use Rattle.std.specs.List.{fold}
use Rattle.sums.specs.Adding.{added_with, read_from, added_from, adding_with, adding_from}
use Rattle.sums.specs.declared.adding.Adding.{Adding}
use Rattle.sums.specs.Orders.{joined}
use Rattle.sums.specs.Reader.{next_of}
use Rattle.sums.specs.declared.reader.Reader.{Reader}
use Rattle.sums.specs.Sums.{Total}

-- However the octets come in pieces, the reader and the block are those of the whole.
pub read_pieces_lem : (r : Reader) (xs ys : List ℕ) → read_from r (xs ++ ys) ≡ read_from (read_from r xs) ys
unfolding read_from
read_pieces_lem r [] ys = refl
read_pieces_lem r (x ∷ xs) ys = read_pieces_lem (next_of r x) xs ys

pub added_pieces_lem : (b : List Total) (r : Reader) (xs ys : List ℕ) → added_from b r (xs ++ ys) ≡ added_from (added_from b r xs) (read_from r xs) ys
unfolding read_from added_from
added_pieces_lem b r [] ys = refl
added_pieces_lem b r (x ∷ xs) ys = added_pieces_lem (added_with b r x) (next_of r x) xs ys

-- As the program reads on, piece by piece.
abbrev pub read_pieces : Reader → List (List ℕ) → Reader
read_pieces r [] = r
read_pieces r (xs ∷ rest) = read_pieces (read_from r xs) rest

abbrev pub added_pieces : List Total → Reader → List (List ℕ) → List Total
added_pieces b r [] = b
added_pieces b r (xs ∷ rest) = added_pieces (added_from b r xs) (read_from r xs) rest

pub any_pieces : (b : List Total) (r : Reader) (pieces : List (List ℕ)) →
    (read_pieces r pieces ≡ read_from r (joined pieces)) × (added_pieces b r pieces ≡ added_from b r (joined pieces))
unfolding read_from added_from
any_pieces b r [] = (refl, refl)
any_pieces b r (xs ∷ rest) =
    let more = any_pieces (added_from b r xs) (read_from r xs) rest in
    (more.0 ∙ sym (read_pieces_lem r xs (joined rest)), more.1 ∙ sym (added_pieces_lem b r xs (joined rest)))

-- Octet by octet, from the left, is what block and reader come to.
pub adding_fold : (a : Adding) (xs : List ℕ) → fold adding_with a xs ≡ adding_from a xs
unfolding read_from added_from adding_with
adding_fold a [] = refl
adding_fold a (x ∷ xs) = adding_fold (adding_with a x) xs
