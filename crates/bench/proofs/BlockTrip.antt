-- A printed block, read back, adds its numbers, place by place, and the reader is again where a block may begin.
-- Assumes nothing.
use Prim.Native.Nat.{ℕ, zero, suc, ◌+◌, ◌<◌}
use native.Mathlib.Omega.{arith}
use mathlib.Core.Path.{◌≡◌, refl, ◌∙◌}
use mathlib.Core.Bool.{Bool, true, false, not, ◌&&◌}
use mathlib.Core.List.{List, [], ◌∷◌, ◌++◌, append-nil, append_assoc}
use lib.Dec.{eqb}
use lib.ListN.{drop, get_or, length, length-map, length-set, take}
use lib.Seq.{append_snoc}
use borrow.Author.Tests.{lt-ltb}
use Rattle.octets.proofs.Branch.{and_left, and_right}
use Rattle.sums.specs.Adding.{added_from, added_with, ends_number, read_from}
use Rattle.sums.specs.Block.{block_of, join_at, join_of, mean_of, placewise, plus_of}
use Rattle.sums.specs.Place.{opens, last_of_line, place_after, line_after, events_word, refusals_word, discards_word, joins_word, leaves_word, timeouts_word, holds_word, longest_word, total_word, mean_word}
use Rattle.sums.specs.Reader.{heading_of, line_from, next_of, number_blank, number_line, word_blank}
use Rattle.sums.specs.Sums as sums
use Rattle.sums.specs.Sums.{held}
use Rattle.sums.specs.Token.{no_token, word_with, seen_with, digit_fits, value_with, token_with, token_of, is_packed, number_of}
use Rattle.sums.specs.declared.reader.Reader.{Reader}
use Rattle.sums.specs.declared.reader.Stage.TheVariants as stage
use Rattle.std.specs.Prelude.{Option, Some, None}
use Rattle.sums.specs.declared.fraction.Fraction.{Fraction}
use Rattle.sums.specs.declared.token.Token.{Token}
use Rattle.sums.specs.Sums.{Total}
use Rattle.sums.proofs.Joining.{place_alone}
use Rattle.sums.proofs.Placewise.{placewise_step, placewise_end}
use Rattle.sums.proofs.Reading.{added_pieces_lem, read_pieces_lem}
use Rattle.bench.specs.Block.{block_lines, block_text, fraction_text, mean_number, mean_text, number_text, numbers_from, row_text}
use Rattle.bench.specs.Output.{said}
use Rattle.bench.proofs.Spelling.{Plain, plain_append, tens_plain, spell, spelled, spell_plain, read_number}

-- From a block and a reader, octets lead to another block and another reader.
pub record Goes (b : List Total) (r : Reader) (xs : List ℕ) (c : List Total) (q : Reader) : Type 0 where
  pub added : added_from b r xs ≡ c
  pub read : read_from r xs ≡ q

pub goes_then : {b c d : List Total} {r q s : Reader} {xs ys : List ℕ} → Goes b r xs c q → Goes c q ys d s → Goes b r (xs ++ ys) d s
goes_then {b} {c} {d} {r} {q} {s} {xs} {ys} g h =
    record {
      added = added_pieces_lem b r xs ys ∙ rw (g.added, g.read) h.added;
      read = read_pieces_lem r xs ys ∙ rw g.read h.read;
    }

pub goes_nowhere : {b : List Total} {r : Reader} → Goes b r [] b r
unfolding added_from read_from
goes_nowhere = record { added = refl; read = refl }

abbrev number_at : ℕ → ℕ → Token → Reader
number_at place line t = record { stage = stage.Number; place = place; token = t; line = line }

abbrev pub rest_at : ℕ → ℕ → Reader
rest_at place line = record { stage = stage.Rest; place = place; token = no_token; line = line }

-- inside a number
goes_plain : (b : List Total) (p l : ℕ) (t : Token) {xs : List ℕ} → Plain xs → Goes b (number_at p l t) xs b (number_at p l (token_of t xs))
unfolding added_from read_from added_with next_of ends_number
goes_plain b p l t Plain.none = record { added = refl; read = refl }
goes_plain b p l t (Plain.next {x = x} e f more) =
    let g = goes_plain b p l (token_with t x) more in record { added = rw (e, f) g.added; read = rw (e, f) g.read }

module _ (b : List Total) (p l : ℕ) (t : Token) (n : Total) (e : number_of t ≡ Some n) (h : p < 23) where
  after : place_after p ≡ p + 1
  unfolding place_after
  after = rw (lt-ltb p 23 h)

  -- a number and a blank; a number and the line's end
  goes_blank : last_of_line p ≡ false → Goes b (number_at p l t) (32 ∷ []) (plus_of b p n) (number_at (p + 1) l no_token)
  unfolding added_from read_from added_with next_of ends_number number_blank
  goes_blank f = record { added = rw e; read = rw (e, f, after) }

  goes_end : last_of_line p ≡ true → Goes b (number_at p l t) (10 ∷ []) (plus_of b p n) (line_from (p + 1) (line_after l))
  unfolding added_from read_from added_with next_of ends_number number_line
  goes_end f = record { added = rw e; read = rw (e, f, after) }

-- So many numbers added one by one, from a place on.
abbrev plus_from : List Total → List Total → ℕ → ℕ → List Total
plus_from c b p zero = c
plus_from c b p (suc n) = plus_from (plus_of c p (get_or b p sums.zero)) b (p + 1) n

-- The numbers of a line behind its first blank.
row_rest : List Total → ℕ → ℕ → List ℕ
row_rest b p zero = spell (get_or b p sums.zero) ++ (10 ∷ [])
row_rest b p (suc n) = spell (get_or b p sums.zero) ++ ((32 ∷ []) ++ row_rest b (p + 1) n)

numbers_rest : (b : List Total) (p n : ℕ) → numbers_from b p (suc n) ++ (10 ∷ []) ≡ 32 ∷ row_rest b p n
unfolding numbers_from row_rest
numbers_rest b p zero = rw (append-nil (number_text (get_or b p sums.zero)), spelled (get_or b p sums.zero))
numbers_rest b p (suc n) =
    append_assoc (number_text (get_or b p sums.zero)) (numbers_from b (p + 1) (suc n)) (10 ∷ [])
    ∙ rw (numbers_rest b (p + 1) n, spelled (get_or b p sums.zero))

-- A line that ends behind n numbers more.
line_of : ℕ → ℕ → Bool
line_of p zero = last_of_line p
line_of p (suc n) = not (last_of_line p) && line_of (p + 1) n

not_true : (a : Bool) → not a ≡ true → a ≡ false
not_true true e = cc
not_true false e = refl

module _ (ns : List ℕ) where
  abbrev one : ℕ → Total
  one p = get_or (block_of ns) p sums.zero

  known : (p : ℕ) → number_of (token_of no_token (spell (one p))) ≡ Some (one p)
  known p = rw (place_alone ns p) (read_number (get_or ns p 0))

  goes_number : (c : List Total) (p l : ℕ) → Goes c (number_at p l no_token) (spell (one p)) c (number_at p l (token_of no_token (spell (one p))))
  goes_number c p l = goes_plain c p l no_token (spell_plain (one p))

  goes_rest : (n : ℕ) (c : List Total) (p q l : ℕ) → p + n < 23 → line_of p n ≡ true → q ≡ p + n + 1 →
      Goes c (number_at p l no_token) (row_rest (block_of ns) p n) (plus_from c (block_of ns) p (suc n)) (line_from q (line_after l))
  unfolding row_rest line_of
  goes_rest zero c p q l h e f =
      let g : q ≡ p + 1 = omega (arith, f) in
      rw g (goes_then (goes_number c p l) (goes_end c p l (token_of no_token (spell (one p))) (one p) (known p) (omega (arith, h)) e))
  goes_rest (suc n) c p q l h e f =
      goes_then (goes_number c p l)
      (goes_then
      (goes_blank c p l (token_of no_token (spell (one p))) (one p) (known p) (omega (arith, h)) (not_true (last_of_line p) (and_left (not (last_of_line p)) (line_of (p + 1) n) e)))
      (goes_rest n (plus_of c p (one p)) (p + 1) q l (omega (arith, h)) (and_right (not (last_of_line p)) (line_of (p + 1) n) e) (omega (arith, f))))

-- The lines of a block: word, place of the first number, and how many come behind it.
data Row : List ℕ → ℕ → ℕ → Type 0 where
  events : Row events_word 0 0
  refusals : Row refusals_word 1 8
  discards : Row discards_word 10 2
  joins : Row joins_word 13 0
  leaves : Row leaves_word 14 0
  timeouts : Row timeouts_word 15 4
  holds : Row holds_word 20 0
  longest : Row longest_word 21 0
  total : Row total_word 22 0

-- its word, and a blank
goes_word : {word : List ℕ} {p n : ℕ} → Row word p n → (c : List Total) (l : ℕ) → Goes c (line_from p l) (word ++ (32 ∷ [])) c (number_at p l no_token)
unfolding added_from read_from added_with next_of ends_number word_blank opens heading_of is_packed token_with word_with seen_with value_with digit_fits
goes_word events c l = record { added = refl; read = refl }
goes_word refusals c l = record { added = refl; read = refl }
goes_word discards c l = record { added = refl; read = refl }
goes_word joins c l = record { added = refl; read = refl }
goes_word leaves c l = record { added = refl; read = refl }
goes_word timeouts c l = record { added = refl; read = refl }
goes_word holds c l = record { added = refl; read = refl }
goes_word longest c l = record { added = refl; read = refl }
goes_word total c l = record { added = refl; read = refl }

row_line : {word : List ℕ} {p n : ℕ} → Row word p n → (line_of p n ≡ true) × (p + n < 23)
unfolding line_of last_of_line
row_line events = (refl, omega arith)
row_line refusals = (refl, omega arith)
row_line discards = (refl, omega arith)
row_line joins = (refl, omega arith)
row_line leaves = (refl, omega arith)
row_line timeouts = (refl, omega arith)
row_line holds = (refl, omega arith)
row_line longest = (refl, omega arith)
row_line total = (refl, omega arith)

goes_row : {word : List ℕ} {p n : ℕ} → Row word p n → (ns : List ℕ) (c : List Total) (q l : ℕ) → q ≡ p + n + 1 →
    Goes c (line_from p l) (row_text word (block_of ns) p (suc n)) (plus_from c (block_of ns) p (suc n)) (line_from q (line_after l))
unfolding row_text
goes_row {word} {p} {n} row ns c q l f =
    rw (append_assoc word (numbers_from (block_of ns) p (suc n)) (10 ∷ []), numbers_rest (block_of ns) p n, ← append_snoc word 32 (row_rest (block_of ns) p n))
    (goes_then (goes_word row c l) (goes_rest ns n c p q l (row_line row).1 (row_line row).0 f))

-- A line that is passed over, up to its end.
pub data NoEnd : List ℕ → Type 0 where
  none : NoEnd []
  next : {x : ℕ} {xs : List ℕ} → eqb x 10 ≡ false → NoEnd xs → NoEnd (x ∷ xs)

plain_ends : {xs : List ℕ} → Plain xs → NoEnd xs
plain_ends Plain.none = NoEnd.none
plain_ends (Plain.next e f p) = NoEnd.next e (plain_ends p)

goes_through : (c : List Total) (p l : ℕ) {xs : List ℕ} → NoEnd xs → Goes c (rest_at p l) xs c (rest_at p l)
unfolding added_from read_from added_with next_of ends_number
goes_through c p l NoEnd.none = record { added = refl; read = refl }
goes_through c p l (NoEnd.next e more) =
    let g = goes_through c p l more in record { added = rw e g.added; read = rw e g.read }

pub goes_over : (c : List Total) (p l : ℕ) {xs : List ℕ} → NoEnd xs → Goes c (rest_at p l) (xs ++ (10 ∷ [])) c (line_from 0 (line_after l))
unfolding added_from read_from added_with next_of ends_number
goes_over c p l none_in = goes_then (goes_through c p l none_in) (record { added = refl; read = refl })

mean_plain : (m : Option Fraction) → Plain (mean_number m)
unfolding fraction_text
mean_plain (Some f) = plain_append (plain_append (tens_plain 20 f.top) (Plain.next refl refl Plain.none)) (tens_plain 20 f.bottom)
mean_plain None = Plain.next refl refl (Plain.next refl refl (Plain.next refl refl (Plain.next refl refl Plain.none)))

mean_word_lem : (c : List Total) (l : ℕ) → Goes c (line_from 23 l) (mean_word ++ (32 ∷ [])) c (rest_at 23 l)
unfolding added_from read_from added_with next_of ends_number word_blank opens heading_of is_packed token_with word_with seen_with value_with digit_fits
mean_word_lem c l = record { added = refl; read = refl }

goes_mean : (m : Option Fraction) (c : List Total) (l : ℕ) → Goes c (line_from 23 l) (mean_text m) c (line_from 0 (line_after l))
unfolding mean_text
goes_mean m c l =
    rw (append_assoc (mean_word ++ (32 ∷ [])) (mean_number m) (10 ∷ []))
    (goes_then (mean_word_lem c l) (goes_over c 23 l (plain_ends (mean_plain m))))

plus_length : (c : List Total) (i : ℕ) (t : Total) → length (plus_of c i t) ≡ length c
unfolding plus_of
plus_length c i t = length-set c i (join_at i (get_or c i sums.zero) t)

-- Numbers added place by place from the first to the last are the blocks joined.
plus_step : (b c : List Total) (i : ℕ) → i < length c → i < length b →
    take (i + 1) (plus_of c i (get_or b i sums.zero)) ++ placewise join_at (i + 1) (drop (i + 1) (plus_of c i (get_or b i sums.zero))) (drop (i + 1) b)
    ≡ take i c ++ placewise join_at i (drop i c) (drop i b)
unfolding plus_of
plus_step b c i h g = placewise_step join_at c b i sums.zero _ h g refl

plus_all : (b : List Total) → length b ≡ 23 → (n : ℕ) (c : List Total) (i : ℕ) → i + n ≡ 23 → length c ≡ 23 →
    plus_from c b i n ≡ take i c ++ placewise join_at i (drop i c) (drop i b)
plus_all b h zero c i e g = placewise_end join_at c b _ i (omega (arith, e, g)) (omega (arith, e, h)) refl
plus_all b h (suc n) c i e g =
    plus_all b h n (plus_of c i (get_or b i sums.zero)) (i + 1) (omega (arith, e)) (plus_length c i (get_or b i sums.zero) ∙ g)
    ∙ plus_step b c i (omega (arith, e, g)) (omega (arith, e, h))

-- ten lines more
abbrev pub ten_more : ℕ → ℕ
ten_more l =
    line_after (line_after (line_after (line_after (line_after (line_after (line_after (line_after (line_after (line_after l)))))))))

-- A printed block, read back where a block may begin, is joined to what was there; and a block may begin behind it.
pub read_back : (ns : List ℕ) (c : List Total) (l : ℕ) → length ns ≡ 23 → length c ≡ 23 →
    Goes c (line_from 0 l) (block_text (block_of ns)) (join_of c (block_of ns)) (line_from 0 (ten_more l))
unfolding said block_lines
read_back ns c l h g =
    let t =
    goes_then (goes_row events ns _ 1 _ refl)
    (goes_then (goes_row refusals ns _ 10 _ refl)
    (goes_then (goes_row discards ns _ 13 _ refl)
    (goes_then (goes_row joins ns _ 14 _ refl)
    (goes_then (goes_row leaves ns _ 15 _ refl)
    (goes_then (goes_row timeouts ns _ 20 _ refl)
    (goes_then (goes_row holds ns _ 21 _ refl)
    (goes_then (goes_row longest ns _ 22 _ refl)
    (goes_then (goes_row total ns _ 23 _ refl)
    (goes_then (goes_mean (mean_of (block_of ns)) _ _) goes_nowhere))))))))) in
    record { added = t.added ∙ plus_all (block_of ns) (length-map ns held ∙ h) 23 c 0 refl g; read = t.read }
