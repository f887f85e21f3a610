-- Laws of many events in one call (specs/Run.antt): each turn of the loop is one event.
-- Assumes nothing.
use Prim.Native.Nat.{ℕ, suc, ◌+◌, ◌-◌, ◌*◌, ◌/◌, ◌≤◌, ◌<◌}
use mathlib.Core.Path.{◌≡◌, refl, sym, ap, ◌∙◌}
use mathlib.Core.Bool.{Bool, true, false}
use mathlib.Core.List.{List, ◌++◌, append_assoc, append-nil}
use native.Mathlib.Omega.{arith}
use lib.Dec.{eqb, ltb}
use lib.ListN.{drop, drop_of_length-le, length, length-drop, take, take-append-drop}
use lib.Seq.{drop-append-add, drop-drop, length-take-le, take_all, take-append-add}
use borrow.Author.Tests.{eq-eqb, ne_eqb}
use borrow.Rule.Slice.PartMut.{put_mid}
use Rattle.octets.proofs.Branch.{by_bool, pick_both}
use Rattle.peer.specs.declared.settings.Settings.{Settings}
use Rattle.table.specs.Boundary.{Crossed, crossed}
use Rattle.table.specs.Host.{host_answer}
use Rattle.table.specs.Input.{taken_of}
use Rattle.table.specs.Lent.{room_of}
use Rattle.table.specs.Rows.{is_table, records_of}
use Rattle.table.specs.Run.{Goes, Gone, Knows, behind, called_with, gone, gone_of, onward_of, ran_from, ran_of, stayed}
use Rattle.table.specs.declared.host.input.Taken.{Taken}
use Rattle.table.specs.declared.host.input.Taken.TheVariants.{Cut, Fault, First, Next}
use Rattle.table.specs.declared.rules.answer.Answer.{Answer}
use Rattle.table.specs.declared.rules.event.Event.{Event}
use Rattle.table.proofs.Octets.InputLaws.{record_whole}
use Rattle.table.proofs.Octets.RowLaws.{length_records}
use Rattle.table.proofs.Theorems.WrittenCount.{written_count}

-- ---- one event

host_inside : (xs : List ℕ) (s : Settings) (e : Event) (fs l : List ℕ) → (host_answer xs s e fs l).written ≤ length l
unfolding host_answer
host_inside xs s e fs l = by_bool (is_table xs)
    (λ i. rw i (written_count s (records_of xs) e fs l (length_records 32 0 xs)).inside)
    (λ i. rw i (pick_both (λ (a : Answer). a.written ≤ length l) (ltb (length l) (room_of e)) (omega arith) (omega arith)))

module _ (s : Settings) (xs rs l ks : List ℕ) where
  abbrev Inside : Gone → Type 0
  Inside g = (g.size ≡ 0 → ⊥) → (g.size ≤ length rs) × (g.written ≤ length l)

  by_taken : (t : Taken) → taken_of rs false ≡ t → Inside (onward_of t (length l) (stayed xs l ks) (called_with s xs rs l ks))
  by_taken Cut h z = absurd (z refl)
  by_taken Fault h z = absurd (z refl)
  by_taken (First c) h z = absurd (z refl)
  by_taken (Next e) h z = pick_both Inside (ltb (length l) (room_of e)) (λ q. absurd (q refl)) (λ q. (record_whole rs false (rw h), host_inside xs s e _ l)) z

  gone_inside : Inside (gone_of s xs rs l ks)
  unfolding gone_of
  gone_inside = by_taken (taken_of rs false) refl

-- on what is left of records, buffer and answers
part : (a : ℕ) (l : List ℕ) → take (length l - a) (drop a l) ≡ drop a l
part a l = take_all (length l - a) (drop a l) (omega (arith, length-drop a l))

put : (a : ℕ) (l ys : List ℕ) → put_mid a (length l - a) l ys ≡ take a l ++ ys
put a l ys = rw (drop_of_length-le (drop a l) {i = length l - a} (omega (arith, length-drop a l)), append-nil ys)

pub part_goes :
    (s : Settings) (xs rs l ks : List ℕ) (from at place n w : ℕ) (ys o k : List ℕ)
    → gone n w ys o k ≡ gone_of s xs (take (length rs - from) (drop from rs)) (take (length l - at) (drop at l)) (take (length ks - place) (drop place ks))
    → Goes (gone_of s xs (drop from rs) (drop at l) (drop place ks)) n w ys (take at l) (put_mid at (length l - at) l o) (take place ks) (put_mid place (length ks - place) ks k)
part_goes s xs rs l ks from at place n w ys o k h =
    let e : gone n w ys o k ≡ gone_of s xs (drop from rs) (drop at l) (drop place ks) = rw (part from rs, part at l, part place ks) at h in
    record {
      size = ap (λ (g : Gone). g.size) e;
      written = ap (λ (g : Gone). g.written) e;
      table = ap (λ (g : Gone). g.table) e;
      out = put at l o ∙ ap (λ (g : Gone). take at l ++ g.out) e;
      answers = put place ks k ∙ ap (λ (g : Gone). take place ks ++ g.answers) e;
    }

-- ---- the loop: n of `most` events are played, which took `from` octets of the records rs and wrote `at` of the buffer

pub record Running (xs₀ : List ℕ) (s : Settings) (rs l₀ ks₀ : List ℕ) (most n from at : ℕ) (xs l ks : List ℕ) (well linked : Bool) : Type 0 where
  pub total : most ≡ length ks₀ / 24
  pub few : n ≤ most
  pub inside : from ≤ length rs
  pub table : length xs ≡ length xs₀
  pub room : at ≤ length l
  pub out : length l ≡ length l₀
  pub answers : length ks ≡ length ks₀
  pub knows : Knows s xs well linked
  pub rest : behind n (take at l) (take (24 * n) ks) (ran_from (most - n) s xs (drop from rs) (drop at l) (drop (24 * n) ks)) ≡ ran_of xs₀ s rs l₀ ks₀

pub run_start : (xs : List ℕ) (s : Settings) (rs l ks : List ℕ) (most : ℕ) (well linked : Bool) → most ≡ length ks / 24 → Knows s xs well linked → Running xs s rs l ks most 0 0 0 xs l ks well linked
unfolding ran_of
run_start xs s rs l ks most well linked e k =
    let all = ran_from (length ks / 24) s xs rs l ks in
    let none : most - 0 ≡ most = omega arith in
    let more : 0 + all.result ≡ all.result = omega arith in
    record {
      total = e;
      few = omega arith;
      inside = omega arith;
      table = refl;
      room = omega arith;
      out = refl;
      answers = refl;
      knows = k;
      rest = rw (none, e) (ap (λ (m : ℕ). crossed m all.table all.out all.answer) more);
    }

seam_take : (f o : List ℕ) (a w : ℕ) → length f ≡ a → take (a + w) (f ++ o) ≡ f ++ take w o
seam_take f o a w e = rw (← e) (take-append-add f o w)

seam_drop : (f o : List ℕ) (a w : ℕ) → length f ≡ a → drop (a + w) (f ++ o) ≡ drop w o
seam_drop f o a w e = rw (← e) (drop-append-add f o w)

behind_two : (n : ℕ) (f g h k : List ℕ) (c : Crossed) → behind (n + 1) (f ++ g) (h ++ k) c ≡ behind n f h (behind 1 g k c)
behind_two n f g h k c =
    let e : n + 1 + c.result ≡ n + (1 + c.result) = omega arith in
    rw (e, append_assoc f g c.out, append_assoc h k c.answer)

module _ (xs₀ : List ℕ) (s : Settings) (rs l₀ ks₀ : List ℕ) (most n from at : ℕ) (xs l ks : List ℕ) (well linked : Bool) (r : Running xs₀ s rs l₀ ks₀ most n from at xs l ks well linked) where
  pub place_inside : n < most → 24 * n + 24 ≤ length ks
  place_inside h = omega (arith, r.total, r.answers)

  -- after the last
  pub run_end : most ≤ n → crossed n xs l ks ≡ ran_of xs₀ s rs l₀ ks₀
  unfolding ran_from
  run_end h =
      let none : most - n ≡ 0 = omega arith in
      let same : n + 0 ≡ n = omega arith in
      rw (take-append-drop at l, take-append-drop (24 * n) ks) at (rw (none, same) at r.rest)

  module _ (h : n < most) (size written : ℕ) (ys out answers : List ℕ) (g : Goes (gone_of s xs (drop from rs) (drop at l) (drop (24 * n) ks)) size written ys (take at l) out (take (24 * n) ks) answers) where
    abbrev one : Gone
    one = gone_of s xs (drop from rs) (drop at l) (drop (24 * n) ks)

    more : most - n ≡ suc (most - (n + 1))
    more = omega (arith, h)

    -- no record was taken
    pub run_stop : size ≡ 0 → crossed n ys out answers ≡ ran_of xs₀ s rs l₀ ks₀
    unfolding ran_from
    run_stop z =
        let same : n + 0 ≡ n = omega arith in
        let none : eqb one.size 0 ≡ true = eq-eqb _ _ (sym g.size ∙ z) in
        rw (g.table, g.out, g.answers) (rw same at (rw none at (rw more at r.rest)))

    pub run_bounds : (size ≡ 0 → ⊥) → (from + size ≤ length rs) × (at + written ≤ length l)
    run_bounds z =
        let b = gone_inside s xs (drop from rs) (drop at l) (drop (24 * n) ks) (λ q. z (g.size ∙ q)) in
        (omega (arith, b.0, g.size, length-drop from rs, r.inside), omega (arith, b.1, g.written, length-drop at l, r.room))

    pub run_more :
        (size ≡ 0 → ⊥) → (well' linked' : Bool) → length ys ≡ length xs → length out ≡ length l → length answers ≡ length ks → Knows s ys well' linked'
        → Running xs₀ s rs l₀ ks₀ most (n + 1) (from + size) (at + written) ys out answers well' linked'
    unfolding ran_from
    run_more z well' linked' lt lo la k =
        let b = run_bounds z in
        let some : eqb one.size 0 ≡ false = ne_eqb _ _ (λ q. z (g.size ∙ q)) in
        let before = rw (← g.size, ← g.written) at (rw some at (rw more at r.rest)) in
        let rest = ran_from (most - (n + 1)) s one.table (drop size (drop from rs)) (drop written one.out) (drop 24 one.answers) in
        let place : 24 * (n + 1) ≡ 24 * n + 24 = omega arith in
        let front = length-take-le at l r.room in
        let front' = length-take-le (24 * n) ks (omega (arith, place_inside h)) in
        let t = ap (λ (x : List ℕ). take (at + written) x) g.out ∙ seam_take (take at l) one.out at written front in
        let d = ap (λ (x : List ℕ). drop (at + written) x) g.out ∙ seam_drop (take at l) one.out at written front in
        let t' = ap (λ (x : List ℕ). take (24 * n + 24) x) g.answers ∙ seam_take (take (24 * n) ks) one.answers (24 * n) 24 front' in
        let d' = ap (λ (x : List ℕ). drop (24 * n + 24) x) g.answers ∙ seam_drop (take (24 * n) ks) one.answers (24 * n) 24 front' in
        record {
          total = r.total;
          few = omega (arith, h);
          inside = b.0;
          table = lt ∙ r.table;
          room = omega (arith, b.1, lo);
          out = lo ∙ r.out;
          answers = la ∙ r.answers;
          knows = k;
          rest = rw (place, t, d, t', d', ← drop-drop size from rs, g.table) (behind_two n (take at l) (take written one.out) (take (24 * n) ks) (take 24 one.answers) rest ∙ before);
        }
