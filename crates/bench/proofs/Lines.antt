-- How long a line is.
-- Assumes nothing.
use Prim.Native.Nat.{ℕ, ◌≤◌}
use mathlib.Core.Path.{◌≡◌, refl}
use Rattle.std.proofs.Common.{append_assoc}
use mathlib.Core.List.{◌++◌}
use Rattle.bench.specs.Text.{field_of}
use native.Mathlib.Omega.{arith}
use lib.ListN.{length, length-append}
use Rattle.table.specs.declared.rules.answer.Answer.{Answer}
use Rattle.table.specs.declared.rules.why.Reason.{Reason}
use Rattle.table.specs.declared.rules.why.Reason.TheVariants.{None, Refusal, NoClass, ClassFilter, GroupRule, NothingToDo}
use Rattle.table.specs.declared.rules.why.Why.{Why}
use Rattle.bench.specs.Changes.{because_text, because_word, free_line}
use Rattle.bench.specs.Line.{front_of, back_of}
use Rattle.bench.specs.Why.{reasoned_text, refusal_word, why_line, why_text, word_of}
use Rattle.bench.proofs.Digits.{field_length, tens_length}

pub front_length : (n : ℕ) (a : Answer) → length (front_of n a) ≤ 31
unfolding front_of
front_length n a =
    simp length-append (omega (arith, field_length 20 n, field_length 3 a.refusal, field_length 3 a.notice))

pub back_length : (a : Answer) → length (back_of a) ≤ 18
unfolding back_of
back_length a =
    simp length-append (omega (arith, field_length 5 a.code, field_length 5 a.written, tens_length 3 a.state))

pub word_length : (r : Reason) → length (word_of r) ≤ 14
unfolding refusal_word
word_length None = omega arith
word_length (Refusal n) = simp length-append (omega (arith, field_length 3 n))
word_length NoClass = omega arith
word_length ClassFilter = omega arith
word_length GroupRule = omega arith
word_length NothingToDo = omega arith

-- both texts end as one function puts them
pub why_is : (n : ℕ) (r : Reason) (v : ℕ) → why_text n r v ≡ field_of 20 n ++ reasoned_text r v
unfolding why_text reasoned_text
why_is n r v = simp append_assoc refl

pub because_is : (r : Reason) (v : ℕ) → because_text r v ≡ because_word ++ reasoned_text r v
unfolding because_text reasoned_text
because_is r v = refl

pub why_length : (n : ℕ) (w : Why) → length (why_line n w) ≤ 64
unfolding why_text
why_length n w = simp length-append (omega (arith, field_length 20 n, word_length w.reason, tens_length 20 w.value))

pub because_length : (r : Reason) (v : ℕ) → length (because_text r v) ≤ 64
unfolding because_text
because_length r v = simp length-append (omega (arith, word_length r, tens_length 20 v))

pub free_length : (i : ℕ) → length (free_line i) ≤ 64
unfolding free_line
free_length i = simp length-append (omega (arith, tens_length 2 i))
