-- A number as it is printed, read as a token: it is that number, and no blank and no line end stands in it.
-- Assumes nothing.
use Prim.Native.Nat.{ℕ, zero, suc, ◌+◌, ◌*◌, ◌-◌, ◌/◌, ◌%◌, ◌^◌, ◌<◌}
use native.Mathlib.Omega.{arith}
use mathlib.Core.Path.{◌≡◌, refl, ap, subst}
use mathlib.Core.Bool.{true, false}
use mathlib.Core.List.{List, [], ◌∷◌, ◌++◌}
use lib.Dec.{eqb, ltb}
use borrow.Author.Tests.{ne_eqb, lt-ltb, le-leb, ltb-true, ltb-false}
use Rattle.octets.proofs.Branch.{by_bool, pick_both, pick_by}
use Rattle.sums.specs.Sums.{held}
use Rattle.sums.specs.Token.{no_token, word_with, seen_with, digit_fits, value_with, token_with, token_of, is_packed, over_word, number_of}
use Rattle.sums.specs.declared.token.Token.{Token}
use Rattle.sums.specs.Sums.{Total}
use Rattle.std.specs.Prelude.{Some, None}
use Rattle.sums.proofs.Totals.{held_fits, held_over}
use native.Mathlib.Nat.{pow-suc}
use Rattle.bench.specs.Block.{number_text}
use Rattle.bench.specs.Text.{tens}

-- No line end, and no blank.
pub data Plain : List ℕ → Type 0 where
  none : Plain []
  next : {x : ℕ} {xs : List ℕ} → eqb x 10 ≡ false → eqb x 32 ≡ false → Plain xs → Plain (x ∷ xs)

pub plain_append : {xs ys : List ℕ} → Plain xs → Plain ys → Plain (xs ++ ys)
plain_append none q = q
plain_append (next e f p) q = next e f (plain_append p q)

plain_digit : (d : ℕ) → Plain ((48 + d) ∷ [])
plain_digit d = next (ne_eqb (48 + d) 10 (λ e. omega (arith, e))) (ne_eqb (48 + d) 32 (λ e. omega (arith, e))) none

pub tens_plain : (k n : ℕ) → Plain (tens k n)
unfolding tens
tens_plain zero n = none
tens_plain (suc k) n = pick_both Plain (ltb n 10) (plain_digit n) (plain_append (tens_plain k (n / 10)) (plain_digit (n % 10)))

-- A number without the blank before it.
abbrev pub spell : Total → List ℕ
spell (Some n) = tens 20 n
spell None = over_word

pub spelled : (t : Total) → number_text t ≡ 32 ∷ spell t
spelled (Some n) = refl
spelled None = refl

pub spell_plain : (t : Total) → Plain (spell t)
spell_plain (Some n) = tens_plain 20 n
spell_plain None = next refl refl (next refl refl (next refl refl (next refl refl none)))

token_append : (t : Token) (xs ys : List ℕ) → token_of t (xs ++ ys) ≡ token_of (token_of t xs) ys
token_append t [] ys = refl
token_append t (x ∷ xs) ys = token_append (token_with t x) xs ys

-- What a token says of a number.
record Says (t : Token) (n : ℕ) : Type 0 where
  value : t.value ≡ n
  fits : t.fits ≡ true
  some : 0 < t.seen

fits_digit : (m d : ℕ) → d < 10 → m * 10 + d < 2 ^ 64 → digit_fits m (48 + d) ≡ true
unfolding digit_fits
fits_digit m d h g =
    rw (le-leb 48 (48 + d) (omega arith), le-leb (48 + d) 57 (omega (arith, h)))
    (lt-ltb (m * 10 + (48 + d - 48)) (2 ^ 64) (omega (arith, g)))

seen_some : (n : ℕ) → 0 < seen_with n
unfolding seen_with
seen_some n = by_bool (ltb n 9) (λ e. rw e (omega arith)) (λ e. rw e (omega (arith, ltb-false n 9 e)))

digit_more : (t : Token) (m d : ℕ) → t.value ≡ m → t.fits ≡ true → d < 10 → m * 10 + d < 2 ^ 64 → Says (token_with t (48 + d)) (m * 10 + d)
unfolding token_with value_with
digit_more t m d e f h g =
    record {
      value = rw (e, fits_digit m d h g) (omega arith);
      fits = rw (e, f, fits_digit m d h g) refl;
      some = seen_some t.seen;
    }

-- the last digit behind the others, where there is one before it
last_digit : (k n : ℕ) → Says (token_of no_token (tens k (n / 10))) (n / 10) → n < 2 ^ 64 → Says (token_of no_token (tens k (n / 10) ++ ((48 + n % 10) ∷ []))) n
last_digit k n s g =
    rw (token_append no_token (tens k (n / 10)) ((48 + n % 10) ∷ []))
    (subst (Says (token_with (token_of no_token (tens k (n / 10))) (48 + n % 10))) (omega arith)
    (digit_more (token_of no_token (tens k (n / 10))) (n / 10) (n % 10) s.value s.fits (omega arith) (omega (arith, g))))

only_digit : (n : ℕ) → n < 10 → Says (token_of no_token ((48 + n) ∷ [])) n
only_digit n h =
    subst (Says (token_with no_token (48 + n))) (omega arith) (digit_more no_token 0 n refl refl h (omega (arith, h)))

tens_says : (k n : ℕ) → n < 10 ^ suc k → n < 2 ^ 64 → Says (token_of no_token (tens (suc k) n)) n
unfolding tens
tens_says zero n h g = let i : n < 10 = omega (arith, h) in rw (lt-ltb n 10 i) (only_digit n i)
tens_says (suc k) n h g =
    pick_by (λ (xs : List ℕ). Says (token_of no_token xs) n) (ltb n 10)
    (λ e. only_digit n (ltb-true n 10 e))
    (λ e. last_digit (suc k) n (tens_says k (n / 10) (omega (arith, pow-suc 10 (suc k), h)) (omega (arith, g))) g)

number_says : (t : Token) (n : ℕ) → Says t n → number_of t ≡ Some (Some n)
unfolding number_of
number_says t n s = rw (ne_eqb t.seen 0 (λ e. omega (arith, e, s.some)), s.fits) (ap (λ (m : ℕ). Some (Some m)) s.value)

over_says : number_of (token_of no_token over_word) ≡ Some None
unfolding number_of token_with word_with seen_with value_with digit_fits is_packed
over_says = refl

-- What was printed of a number that 64 bits hold, or of one that they don't, is read as that.
pub read_number : (m : ℕ) → number_of (token_of no_token (spell (held m))) ≡ Some (held m)
read_number m =
    by_bool (ltb m (2 ^ 64))
    (λ e. rw (held_fits m (ltb-true m (2 ^ 64) e)) (number_says (token_of no_token (tens 20 m)) m (tens_says 19 m (omega (arith, ltb-true m (2 ^ 64) e)) (ltb-true m (2 ^ 64) e))))
    (λ e. rw (held_over m (ltb-false m (2 ^ 64) e)) over_says)
