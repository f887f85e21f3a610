-- The definitions over lists in the words of std, in which the methods of slices, arrays and iterators say what they give.
-- Assumes nothing.
use Rattle.std.proofs.Common.{◌≡◌, refl, sym, ◌∙◌, zero-add, ℕ, ◌+◌, ◌<◌, Bool, true, false, not, ◌&&◌, ◌||◌, List, [], ◌∷◌, map, length, get_or, take, drop, length-drop, ◌-◌, arith}
use denote.Ref.{Bor}
use Rattle.std.specs.List.{list_all, list_any, filter, find, position, position_or_len}
use Rattle.std.specs.Option.{MatchOption, option_map}
use Rattle.std.specs.declared.option.Option.{Option}
use Rattle.std.specs.declared.option.Option.TheVariants.{Some, None}
use Rattle.std.proofs.lemmas.List.{get_or_default, same_lists}
use borrow.Author.Tests.{lt-ltb, le-ltb, ltb-true, ltb-false}
use lib.Dec.{eqb, ltb}
use lib.Seq.{take_all}
use mathlib.Core.Bool.{cond}
use native.Mathlib.Nat.{add-zero}
use Prim.Native.Nat.{suc, ◌≤◌}
use Rattle.octets.proofs.Branch.{by_bool}
use Rattle.table.specs.Fit.{alone_in, apart, distinct_of, links_apart}
use Rattle.peer.specs.Record.{is_joined}
use Rattle.peer.specs.declared.record.Record.{Record}
use Rattle.table.specs.Others.{associated_of}
use Rattle.table.specs.Places.{all_of, all_tails, count_of, first_from}
use lib.ListN.{length-map, get_or-map}

pub all_listed : {A : Type 0} (f : A → Bool) (t : List A) → all_of f t ≡ list_all f t
unfolding all_tails
all_listed f [] = refl
all_listed f (p ∷ ps) = rw (all_listed f ps)

not_or : (a b : Bool) → (not a && not b) ≡ not (a || b)
not_or true b = refl
not_or false b = refl

-- an address is apart from all where none is it
pub absent_listed : (a : ℕ) (t : List ℕ) → all_of (apart a) t ≡ not (list_any (λ y. eqb y a) t)
unfolding all_tails
absent_listed a [] = refl
absent_listed a (p ∷ ps) = rw (absent_listed a ps) (not_or (eqb p a) _)

pub count_listed : {A : Type 0} (f : A → Bool) (t : List A) → length (filter f t) ≡ count_of f t
unfolding count_of
count_listed f [] = refl
count_listed f (p ∷ ps) = by_bool (f p)
    (λ e. let k : length (filter f ps) ≡ count_of f ps = count_listed f ps in rw e (omega (arith, k)))
    (λ e. let k : length (filter f ps) ≡ count_of f ps = count_listed f ps in rw e (omega (arith, k)))

-- the address of the first that has joined
found_joined : (t : List Record) (o : Option Record) → o ≡ find is_joined t → (r : ℕ) → MatchOption o (r ≡ 0) (λ p. r ≡ p.address) → r ≡ associated_of t
unfolding associated_of
found_joined [] o e r m = rw e at m
found_joined (p ∷ ps) o e r m = by_bool (is_joined p)
    (λ b. let k : o ≡ Some p = rw b at e in rw b (rw k at m))
    (λ b. rw b (found_joined ps o (rw b at e) r m))

pub lent_joined : {Q : Bor Record → Type 0} (t : List Record) (o : Option (Bor Record)) → option_map (λ x. x.now) o ≡ find is_joined t → (r : ℕ) → MatchOption o (r ≡ 0) Q → ((x : Bor Record) → Q x → r ≡ x.now.address) → r ≡ associated_of t
lent_joined t None e r m k = found_joined t None e r m
lent_joined t (Some x) e r m k = found_joined t (Some x.now) e r (k x m)

-- the place of the first that passes a test
one_more : (n k l : ℕ) → cond (ltb k l) (Some (n + 1 + k)) None ≡ cond (ltb (1 + k) (suc l)) (Some (n + (1 + k))) None
one_more n k l =
    let same : n + 1 + k ≡ n + (1 + k) = omega arith in
    by_bool (ltb k l)
    (λ e.
    let low : k < l = ltb-true k l e in
    let more : ltb (1 + k) (suc l) ≡ true = lt-ltb (1 + k) (suc l) (omega arith) in
    rw (e, more, same))
    (λ e.
    let high : l ≤ k = ltb-false k l e in
    let more : ltb (1 + k) (suc l) ≡ false = le-ltb (1 + k) (suc l) (omega arith) in
    rw (e, more))

first_listed : {A : Type 0} (f : A → Bool) (n : ℕ) (t : List A) → first_from f n t ≡ cond (ltb (position_or_len f t) (length t)) (Some (n + position_or_len f t)) None
unfolding first_from
first_listed f n [] = refl
first_listed f n (p ∷ ps) = by_bool (f p)
    (λ e. let more : ltb 0 (suc (length ps)) ≡ true = lt-ltb 0 (suc (length ps)) (omega arith) in rw (e, more, add-zero))
    (λ e. rw (e, first_listed f (n + 1) ps) (one_more n (position_or_len f ps) (length ps)))

pub found_at : {A : Type 0} (f : A → Bool) (t : List A) → position f t ≡ first_from f 0 t
found_at f t = by_bool (ltb (position_or_len f t) (length t))
    (λ b. rw (first_listed f 0 t, b, zero-add))
    (λ b. rw (first_listed f 0 t, b))

-- a list of which each element is made of that of another
pub made_of : {A B : Type 0} (f : A → B) (xs : List A) (ys : List B) → length ys ≡ length xs → ((i : ℕ) (d : A) (e : B) → i < length xs → get_or ys i e ≡ f (get_or xs i d)) → (d : A) → ys ≡ map f xs
made_of f xs ys n k d = same_lists ys (map f xs) (n ∙ sym (length-map xs f)) (λ i e h.
    let low : i < length xs = omega (arith, n) in k i d e low ∙ sym (get_or-map f xs i d) ∙ get_or_default (map f xs) i (f d) e (rw (length-map xs f) low))

four : (a b c d : Bool) → ((a && b) && (c && d)) ≡ ((a && c) && (b && d))
four true true c d = refl
four true false true d = refl
four true false false d = refl
four false b c d = refl

-- links are apart where they are distinct, and each is by itself apart from the devices
pub apart_twice : (ls ads : List ℕ) → links_apart ls ads ≡ (distinct_of ls && all_of (λ l. alone_in l ads) ls)
unfolding all_tails
apart_twice [] ads = refl
apart_twice (l ∷ ls) ads = rw (apart_twice ls ads) (four (alone_in l ls) (alone_in l ads) (distinct_of ls) (all_of (λ l. alone_in l ads) ls))

pub all_alone : (ads ls : List ℕ) → all_of (λ l. alone_in l ads) ls ≡ list_all (λ l. eqb l 0 || not (list_any (λ y. eqb y l) ads)) ls
unfolding all_tails alone_in
all_alone ads [] = refl
all_alone ads (l ∷ ls) = rw (all_alone ads ls, absent_listed l ads)

-- what is lent from a place on
pub rest_of : (n : ℕ) (xs : List ℕ) → take (length xs - n) (drop n xs) ≡ drop n xs
rest_of n xs = take_all (length xs - n) (drop n xs) (rw length-drop (omega arith))
