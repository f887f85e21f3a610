-- The octets of events, counted one behind the other, are the numbers of the events.
-- Assumes nothing.
use Rattle.std.specs.Prelude.{Option, Some, None}
use Prim.Native.Nat.{ℕ, zero, suc, ◌*◌, ◌^◌, ◌≤◌, ◌<◌}
use mathlib.Core.Path.{◌≡◌, refl, sym, ap, ◌∙◌}
use mathlib.Core.Bool.{Bool, true}
use mathlib.Core.List.{List, [], ◌∷◌, ◌++◌, append_assoc, append-nil}
use native.Mathlib.Omega.{arith}
use lib.Dec.{leb, ltb}
use lib.ListN.{length, take, drop, length-append, length-drop}
use lib.Seq.{drop-append-le, drop_at, take_all, take-append-le, take_at}
use Rattle.octets.proofs.Below.{comeback_below, drop_octets}
use Rattle.octets.proofs.Branch.{and_left, and_right, pick_both}
use Rattle.octets.proofs.Le.{le_octets, length_octets}
use Rattle.octets.specs.Element.{comeback_of}
use Rattle.octets.specs.Field.{all_octets, field, le, octets}
use Rattle.peer.specs.Association.{comeback_hold}
use Rattle.peer.specs.declared.record.Record.{Record}
use Rattle.peer.specs.declared.settings.Settings.{Settings}
use Rattle.sums.proofs.Joining.{block_both, both_assoc, both_comm}
use Rattle.sums.specs.Block.{block_of, both_of, join_of, nothing, tally}
use Rattle.sums.specs.Sums.{Total}
use Rattle.table.specs.declared.rules.answer.Answer.{Answer}
use Rattle.table.specs.declared.rules.event.Event.{Event}
use Rattle.bench.specs.Facts.{answer_numbers, facts_of, front_numbers, hold_of, hold_set, is_parted, numbers_in, numbers_of, ones_from, timeout_numbers}
use Rattle.table.specs.Input.{body_of, size_of, taken_of}
use Rattle.bench.specs.Month.{counted_in, month_of, numbers_by}
use Rattle.bench.specs.Output.{said}
use Rattle.bench.specs.Plays.{Play, lines_of, plays_from}
use Rattle.bench.specs.Printed.{Shown, Standing, begun_with, behind_first, counted, played_on, shown_by}
use Rattle.table.specs.declared.host.input.Taken.{Taken}
use Rattle.table.specs.declared.host.input.Taken.TheVariants.{Cut, Fault, First, Next}
use Rattle.bench.specs.declared.run.Prints.TheVariants as prints
use Rattle.bench.proofs.Counting.{facts_length}

-- Octets that stand for numbers give them back; the hold has four.
numbers_back : (a : Answer) (dropped : ℕ) (reports : List ℕ) (set : Bool) (hold : ℕ) → hold < 2 ^ 32 → numbers_in (facts_of a dropped reports set hold) ≡ numbers_of a dropped reports set hold
unfolding numbers_in facts_of numbers_of front_numbers answer_numbers timeout_numbers ones_from
numbers_back a dropped reports set hold h =
    let e : le (take 4 (octets 4 hold)) ≡ hold = rw (take_all 4 (octets 4 hold) (omega (arith, length_octets 4 hold))) (le_octets 4 hold h) in
    rw e

abbrev IsSmall : ℕ → Type 0
IsSmall n = n < 2 ^ 32

comeback_small : (xs : List ℕ) → all_octets xs ≡ true → (c : Option ℕ) → comeback_of xs ≡ c → IsSmall (comeback_hold c)
comeback_small xs h (Some tu) e = comeback_below xs h tu e
comeback_small xs h None e = omega arith

hold_small : (set : Bool) (xs : List ℕ) (a : Answer) → all_octets xs ≡ true → IsSmall (hold_of set xs a)
unfolding hold_of hold_set
hold_small set xs a h = pick_both IsSmall set (pick_both IsSmall (is_parted a) (omega arith) (comeback_small xs h (comeback_of xs) refl)) (omega arith)

event_back : (s : Settings) (t : List Record) (e : Event) (xs : List ℕ) → all_octets xs ≡ true → numbers_in (counted facts_of s t e xs) ≡ counted numbers_of s t e xs
event_back s t e xs h = numbers_back _ _ _ _ _ (hold_small _ xs _ h)

-- Events of octets, as all of an input of octets are.
abbrev pub OfOctets : List Play → Type 0
OfOctets [] = Unit
OfOctets (p ∷ ps) = (all_octets p.octets ≡ true) × OfOctets ps

take_octets : (n : ℕ) (xs : List ℕ) → all_octets xs ≡ true → all_octets (take n xs) ≡ true
take_octets zero xs h = refl
take_octets (suc n) [] h = refl
take_octets (suc n) (x ∷ xs) h = rw (and_left (ltb x 256) (all_octets xs) h, take_octets n xs (and_right (ltb x 256) (all_octets xs) h))

body_octets : (xs : List ℕ) → all_octets xs ≡ true → all_octets (body_of xs) ≡ true
unfolding body_of
body_octets xs h =
    pick_both (λ (l : List ℕ). all_octets l ≡ true) (leb (size_of xs) (length xs)) (take_octets (field 2 3 xs) (drop 5 xs) (drop_octets 5 xs h)) refl

record_octets : (x : ℕ) (xs : List ℕ) (s : Standing) → all_octets (x ∷ xs) ≡ true → ((k : ℕ) (u : Standing) → OfOctets (plays_from k u xs)) →
    (t : Taken) → taken_of (x ∷ xs) s.first ≡ t → OfOctets (plays_from 0 s (x ∷ xs))
unfolding plays_from
record_octets x xs s h more Cut e = rw e tt
record_octets x xs s h more Fault e = rw e tt
record_octets x xs s h more (First t) e = rw e (more (behind_first (x ∷ xs)) (begun_with s t))
record_octets x xs s h more (Next v) e = rw e (body_octets (x ∷ xs) h, more (behind_first (x ∷ xs)) (played_on s v (body_of (x ∷ xs))))

pub plays_octets : (xs : List ℕ) (k : ℕ) (s : Standing) → all_octets xs ≡ true → OfOctets (plays_from k s xs)
unfolding plays_from
plays_octets [] zero s h = tt
plays_octets [] (suc k) s h = tt
plays_octets (x ∷ xs) (suc k) s h = plays_octets xs k s (and_right (ltb x 256) (all_octets xs) h)
plays_octets (x ∷ xs) zero s h =
    record_octets x xs s h (λ k u. plays_octets xs k u (and_right (ltb x 256) (all_octets xs) h)) (taken_of (x ∷ xs) s.first) refl

-- One event more, at the front and at the back; and octets behind that are none of an event.
counted_front : (n : ℕ) (b : List Total) (f rest : List ℕ) → length f ≡ 25 → counted_in (suc n) b (f ++ rest) ≡ counted_in n (join_of b (block_of (numbers_in f))) rest
unfolding counted_in
counted_front n b f rest h = rw (take_at f rest 25 h, drop_at f rest 25 h)

pub counted_behind : (n : ℕ) (b : List Total) (fs v : List ℕ) → length fs ≡ 25 * n → length v ≡ 25 → counted_in (suc n) b (fs ++ v) ≡ join_of (counted_in n b fs) (block_of (numbers_in v))
unfolding counted_in
counted_behind zero b [] v h e = rw (take_all 25 v (omega arith))
counted_behind zero b (x ∷ fs) v h e = absurd (omega arith)
counted_behind (suc n) b fs v h e =
    let l : 25 ≤ length fs = omega arith in
    let d : length (drop 25 fs) ≡ 25 * n = omega (arith, length-drop 25 fs) in
    rw (take-append-le 25 fs v l, drop-append-le 25 fs v l) (counted_behind n (join_of b (block_of (numbers_in (take 25 fs)))) (drop 25 fs) v d e)

pub counted_before : (n : ℕ) (b : List Total) (fs v : List ℕ) → length fs ≡ 25 * n → counted_in n b (fs ++ v) ≡ counted_in n b fs
unfolding counted_in
counted_before zero b fs v h = refl
counted_before (suc n) b fs v h =
    let l : 25 ≤ length fs = omega arith in
    let d : length (drop 25 fs) ≡ 25 * n = omega (arith, length-drop 25 fs) in
    rw (take-append-le 25 fs v l, drop-append-le 25 fs v l) (counted_before n (join_of b (block_of (numbers_in (take 25 fs)))) (drop 25 fs) v d)

-- The octets of a list of events, with anything behind them.
abbrev way : Shown
way = shown_by prints.Facts

module _ (p : Play) where
  abbrev facts : List ℕ
  facts = counted facts_of p.settings p.table p.event p.octets

  facts_long : length facts ≡ 25
  facts_long = facts_length _ _ _ _ _

  lines_more : (ps : List Play) → lines_of way (p ∷ ps) ≡ facts ++ lines_of way ps
  unfolding lines_of said shown_by
  lines_more ps = ap (λ (l : List ℕ). l ++ lines_of way ps) (append-nil facts)

pub lines_length : (ps : List Play) → length (lines_of way ps) ≡ 25 * length ps
unfolding lines_of
lines_length [] = refl
lines_length (p ∷ ps) =
    ap (λ (l : List ℕ). length l) (lines_more p ps) ∙ (length-append (facts p) (lines_of way ps) ∙ omega (arith, facts_long p, lines_length ps))

pub counted_lines : (ps : List Play) (ns rest : List ℕ) → both_of ns nothing ≡ ns → OfOctets ps → counted_in (length ps) (block_of ns) (lines_of way ps ++ rest) ≡ block_of (both_of ns (month_of ps))
unfolding counted_in tally lines_of
counted_lines [] ns rest z h = ap block_of (sym z)
counted_lines (p ∷ ps) ns rest z h =
    let x = numbers_by p in
    let behind = lines_of way ps ++ rest in
    let l : lines_of way (p ∷ ps) ++ rest ≡ facts p ++ behind = ap (λ (l : List ℕ). l ++ rest) (lines_more p ps) ∙ append_assoc (facts p) (lines_of way ps) rest in
    let z' : both_of (both_of ns x) nothing ≡ both_of ns x =
    both_assoc ns x nothing ∙ (ap (both_of ns) (both_comm x nothing) ∙ (sym (both_assoc ns nothing x) ∙ ap (λ (m : List ℕ). both_of m x) z)) in
    let j : join_of (block_of ns) (block_of (numbers_in (facts p))) ≡ block_of (both_of ns x) =
    ap (λ (m : List ℕ). join_of (block_of ns) (block_of m)) (event_back p.settings p.table p.event p.octets h.0) ∙ sym (block_both ns x) in
    ap (counted_in (suc (length ps)) (block_of ns)) l
    ∙ (counted_front (length ps) (block_of ns) (facts p) behind (facts_long p)
    ∙ (ap (λ (b : List Total). counted_in (length ps) b behind) j
    ∙ (counted_lines ps (both_of ns x) rest z' h.1 ∙ ap block_of (both_assoc ns x (month_of ps)))))
