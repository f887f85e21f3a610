-- What a pass from the last place to the first has counted: of records by value and of a host's octets alike.
-- Assumes nothing.
use mathlib.Core.Path.{◌≡◌, refl, sym, ◌∙◌}
use mathlib.Core.List.{List}
use Prim.Native.Nat.{ℕ, ◌+◌, ◌-◌, ◌≤◌, ◌<◌}
use native.Mathlib.Omega.{arith}
use lib.ListN.{length, drop, get_or}
use Rattle.octets.specs.Pick.{pick}
use Rattle.peer.specs.Record.{associates, free_of, is_joined}
use Rattle.peer.specs.declared.record.Record.{Record}
use Rattle.table.specs.Fit.{crowd_of}
use Rattle.table.specs.Others.{associated_of}
use Rattle.table.specs.Places.{count_of}
use Rattle.table.proofs.Passes.Loops.{at_most_one, count_end, count_step, left_end, left_step}

-- t: the table. The places from i on are passed.
pub record Tallied (t : List Record) (associated joined associating i : ℕ) : Type 0 where
  pub long : length t ≡ 32
  pub low : i ≤ 32
  pub first : associated ≡ associated_of (drop i t)
  pub joins : joined ≡ count_of is_joined (drop i t)
  pub asks : associating ≡ count_of associates (drop i t)
  pub few : joined + i ≤ 32
  pub few' : associating + i ≤ 32

pub tallied_none : (t : List Record) → length t ≡ 32 → (i : ℕ) → i ≡ 32 → Tallied t 0 0 0 i
unfolding associated_of
tallied_none t n i e =
    let over : length t ≤ i = omega (arith, n, e) in
    record {
      long = n;
      low = omega arith;
      first = sym (left_end associated_of t i over);
      joins = sym (count_end is_joined t i over);
      asks = sym (count_end associates t i over);
      few = omega arith;
      few' = omega arith;
    }

module _ (t : List Record) (associated joined associating i : ℕ) (v : Tallied t associated joined associating i) where
  -- one place more: p its record
  pub tallied_more : 0 < i → (p : Record) → p ≡ get_or t (i - 1) free_of → (associated' : ℕ) → associated' ≡ pick (is_joined p) p.address associated
      → (joined' : ℕ) → joined' ≡ joined + pick (is_joined p) 1 0 → (associating' : ℕ) → associating' ≡ associating + pick (associates p) 1 0 → Tallied t associated' joined' associating' (i - 1)
  unfolding associated_of
  tallied_more z p e associated' ea joined' ej associating' ek =
      let next : i - 1 + 1 ≡ i = omega arith in
      let inside : i - 1 < length t = omega (arith, v.long, v.low) in
      let one = at_most_one (is_joined p) in
      let one' = at_most_one (associates p) in
      let cf : associated_of (drop (i - 1) t) ≡ pick (is_joined p) p.address (associated_of (drop i t)) = left_step associated_of t (i - 1) free_of inside ∙ rw (← e, next) in
      let cj : count_of is_joined (drop (i - 1) t) ≡ pick (is_joined p) 1 0 + count_of is_joined (drop i t) = count_step is_joined t (i - 1) free_of inside ∙ rw (← e, next) in
      let ca : count_of associates (drop (i - 1) t) ≡ pick (associates p) 1 0 + count_of associates (drop i t) = count_step associates t (i - 1) free_of inside ∙ rw (← e, next) in
      record {
        long = v.long;
        low = omega (arith, v.low);
        first = ea ∙ rw v.first (sym cf);
        joins = omega (arith, v.joins, cj, ej);
        asks = omega (arith, v.asks, ca, ek);
        few = omega (arith, v.few, ej, one);
        few' = omega (arith, v.few', ek, one');
      }

  -- a free place more
  pub tallied_free : 0 < i → free_of ≡ get_or t (i - 1) free_of → Tallied t associated joined associating (i - 1)
  unfolding is_joined associates
  tallied_free z e = tallied_more z free_of e associated refl joined (omega arith) associating (omega arith)

  -- after the first
  pub tallied_all : i ≤ 0 → (associated ≡ associated_of t) × (record { joined = joined; associating = associating } ≡ crowd_of t)
  unfolding crowd_of
  tallied_all h =
      let first : i ≡ 0 = omega arith in
      let j : joined ≡ count_of is_joined t = rw first at v.joins in
      let k : associating ≡ count_of associates t = rw first at v.asks in
      (rw first at v.first, λ n. record { joined = j n; associating = k n })
