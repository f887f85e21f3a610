-- `bench total` of printed blocks: with headings or without, in any order and any split, it is the block of all the joined lists.
-- Assumes nothing.
use Prim.Native.Nat.{ℕ, ◌^◌, ◌-◌}
use mathlib.Core.Path.{◌≡◌, refl, sym, ap, ◌∙◌}
use mathlib.Core.Bool.{true}
use mathlib.Core.List.{List, [], ◌∷◌, ◌++◌, map}
use lib.ListN.{length, length-map, set}
use Rattle.sums.specs.Adding.{added_from, added_with, ends_number, finished_of, read_from}
use Rattle.sums.specs.Block.{added_to, both_at, block_of, empty_of, join_at, join_of, nothing, placewise, tally}
use Rattle.sums.specs.Orders.{Perm, joined}
use Rattle.sums.specs.Place.{line_after}
use Rattle.sums.specs.Reader.{all_word, file_word, heading_of, line_from, next_of, start_of, word_blank, word_line}
use Rattle.sums.specs.Sums.{held}
use Rattle.sums.specs.Token.{digit_fits, is_packed, seen_with, token_with, value_with, word_with}
use Rattle.sums.specs.Sums.{Total}
use Rattle.std.specs.Prelude.{Some, None}
use Rattle.sums.proofs.Counting.{one_by_one}
use Rattle.sums.proofs.Joining.{tally_order}
use Rattle.sums.proofs.Placewise.{placewise_length}
use Rattle.bench.specs.Block.{block_text}
use Rattle.bench.proofs.BlockTrip.{Goes, goes_then, goes_nowhere, goes_over, NoEnd, read_back, rest_at, ten_more}

-- What may stand before a block: nothing, `all`, or `file` and a name without a line end.
pub data Heading : List ℕ → Type 0 where
  bare : Heading []
  all : Heading (all_word ++ (10 ∷ []))
  file : {name : List ℕ} → NoEnd name → Heading (file_word ++ (32 ∷ []) ++ (name ++ (10 ∷ [])))

-- Blocks as they are printed, by their exact numbers: each behind its heading, one behind the other.
pub data Printed : List (List ℕ) → List ℕ → Type 0 where
  none : Printed [] []
  more : {ns heading text : List ℕ} {rest : List (List ℕ)} →
      Heading heading → length ns ≡ 23 → Printed rest text → Printed (ns ∷ rest) (heading ++ (block_text (block_of ns) ++ text))

file_word_lem : (c : List Total) (l : ℕ) → Goes c (line_from 0 l) (file_word ++ (32 ∷ [])) c (rest_at 0 l)
unfolding added_from read_from added_with next_of ends_number word_blank heading_of is_packed token_with word_with seen_with value_with digit_fits
file_word_lem c l = record { added = refl; read = refl }

all_line : (c : List Total) (l : ℕ) → Goes c (line_from 0 l) (all_word ++ (10 ∷ [])) c (line_from 0 (line_after l))
unfolding added_from read_from added_with next_of ends_number word_line heading_of is_packed token_with word_with seen_with value_with digit_fits
all_line c l = record { added = refl; read = refl }

goes_heading : {xs : List ℕ} → Heading xs → (c : List Total) (l : ℕ) → (m : ℕ) × Goes c (line_from 0 l) xs c (line_from 0 m)
goes_heading bare c l = (l, goes_nowhere)
goes_heading all c l = (line_after l, all_line c l)
goes_heading (file e) c l = (line_after l, goes_then (file_word_lem c l) (goes_over c 0 l e))

reads_all : {nss : List (List ℕ)} {text : List ℕ} → Printed nss text → (c : List Total) (l : ℕ) → length c ≡ 23 →
    (m : ℕ) × Goes c (line_from 0 l) text (added_to c (map block_of nss)) (line_from 0 m)
reads_all none c l h = (l, goes_nowhere)
reads_all (more {ns = ns} heading e rest) c l h =
    let a = goes_heading heading c l in
    let g : length (block_of ns) ≡ 23 = length-map ns held ∙ e in
    let b = reads_all rest (join_of c (block_of ns)) (ten_more a.0) (placewise_length join_at 0 c (block_of ns) (h ∙ sym g) ∙ h) in
    (b.0, goes_then a.1 (goes_then (read_back ns c a.0 e h) b.1))

finished_at : (l : ℕ) → finished_of (line_from 0 l) ≡ true
unfolding finished_of
finished_at l = refl

-- Printed blocks are taken, and what is added up are these blocks, one behind the other.
pub total_of_blocks : {nss : List (List ℕ)} {text : List ℕ} → Printed nss text →
    (finished_of (read_from start_of text) ≡ true) × (added_from empty_of start_of text ≡ added_to empty_of (map block_of nss))
total_of_blocks p =
    let g = reads_all p empty_of 1 refl in
    (ap finished_of g.1.read ∙ finished_at g.0, g.1.added)

-- Files: lists of events of which `of` gives the 23 numbers. The total of their printed blocks is the block of the joined lists.
module _ {A : Type 0} (of : A → List ℕ) where
  both_map : (files : List (List A)) → map block_of (map (tally of) files) ≡ map (λ (xs : List A). block_of (tally of xs)) files
  both_map [] = refl
  both_map (xs ∷ files) = ap (λ (bs : List (List Total)). block_of (tally of xs) ∷ bs) (both_map files)

  pub total_of_files : (files : List (List A)) {text : List ℕ} → Printed (map (tally of) files) text →
      added_from empty_of start_of text ≡ block_of (tally of (joined files))
  total_of_files files p = (total_of_blocks p).1 ∙ ap (added_to empty_of) (both_map files) ∙ one_by_one of files

  -- Split into files in any way, in any order: the same total.
  pub total_any_split : (files others : List (List A)) {text wording : List ℕ} → Perm (joined files) (joined others) →
      Printed (map (tally of) files) text → Printed (map (tally of) others) wording → added_from empty_of start_of text ≡ added_from empty_of start_of wording
  total_any_split files others order p q =
      total_of_files files p ∙ ap block_of (tally_order of order) ∙ sym (total_of_files others q)

-- An example: two events of 2 ^ 64 - 1 and 1 holds, in two files, one behind the other in either order; the events stand, the holds are over.
abbrev counts : ℕ → List ℕ
counts n = set (set nothing 0 1) 20 n

printed : (m n : ℕ) → Printed (map (tally counts) ((m ∷ []) ∷ (n ∷ []) ∷ [])) (block_text (block_of (tally counts (m ∷ []))) ++ ((all_word ++ (10 ∷ [])) ++ (block_text (block_of (tally counts (n ∷ []))) ++ [])))
unfolding tally placewise
printed m n = more bare refl (more all refl none)

in_all : block_of (tally counts ((2 ^ 64 - 1) ∷ 1 ∷ [])) ≡ set (set empty_of 0 (Some 2)) 20 None
unfolding tally placewise both_at held
in_all = refl

over_alone : added_from empty_of start_of (block_text (block_of (tally counts ((2 ^ 64 - 1) ∷ []))) ++ ((all_word ++ (10 ∷ [])) ++ (block_text (block_of (tally counts (1 ∷ []))) ++ [])))
    ≡ set (set empty_of 0 (Some 2)) 20 None
over_alone = total_of_files counts (((2 ^ 64 - 1) ∷ []) ∷ (1 ∷ []) ∷ []) (printed (2 ^ 64 - 1) 1) ∙ in_all
