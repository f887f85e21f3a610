-- 02, K6, "One long step or two short", at one place of a well-formed table. A step of e after one of d leaves what a step of d + e leaves, whatever
-- query runs (`tick_twice`). Where the sum reaches no retry, one of the two steps reports what the long one reports and the other nothing (`tick_parts`).
-- Assumes nothing.
use Rattle.std.proofs.Common.{◌≡◌, ℕ, ◌+◌, ◌-◌, Bool, true, false, ◌&&◌, eqb, ltb, sym, refl, ◌∙◌, arith, ltb-false, ltb-true, le-ltb, lt-ltb, eq-eqb, ne_eqb, eqb-true}
use native.Mathlib.Nat.{zero-sub}
use Rattle.octets.proofs.Branch.{by_bool}
use Rattle.octets.specs.Links.{no_links}
use Rattle.peer.specs.Fit.{place_fits}
use Rattle.peer.specs.Query.{query_in, query_report, query_retried}
use Rattle.peer.specs.Record.{changed_of, free_of, queried_of, under_way}
use Rattle.peer.specs.Tick.{freed_of, queried_timed, reported_of, tick_of, timed_of}
use Rattle.peer.specs.declared.query.Query.TheVariants as query
use Rattle.peer.specs.declared.exchange.Exchange.TheVariants.{None}
use Rattle.peer.specs.declared.record.Record.{Record}
use Rattle.peer.specs.declared.settings.Settings.{Settings}
use Rattle.peer.proofs.Fits.{both, clash}
use Rattle.peer.proofs.QuerySteps.{Shared, early, late, in_bounded, in_in, in_none, in_timed, in_unretried, query_shared}
use Rattle.peer.proofs.RecordSteps.{Sound, When, end_state, fallen, fallen_address, fallen_on, fallen_over, fallen_sound, fallen_still, fallen_twice, fallen_unretried, on, over, rest_of, sound, still, timed_on, timed_over, timed_still, when}

module _ (s : Settings) where
  -- ---- what is reported of a record

  abbrev told : Record → ℕ → ℕ
  told p d = reported_of s (timed_of s p d) d

  told_still : (p : Record) (d : ℕ) → eqb p.left 0 ≡ true → told p d ≡ query_report s (query_in p.state p.query) d
  unfolding reported_of changed_of
  told_still p d z = rw (timed_still s p d z)

  told_on : (p : Record) (d : ℕ) → eqb p.left 0 ≡ false → ltb d p.left ≡ true → p.query ≡ query.None → told p d ≡ 0
  unfolding reported_of changed_of
  told_on p d z l q = rw (timed_on s p d z l, q, in_none p.state)

  told_over :
      (p : Record) (d : ℕ) → eqb p.left 0 ≡ false → ltb d p.left ≡ false → eqb (under_way p.exchange) 0 ≡ false
      → told p d ≡ under_way p.exchange
  unfolding reported_of
  told_over p d z l u = rw (timed_over s p d z l, u)

  told_shared : (p : Record) (d e : ℕ) → Sound s p → query_retried s (d + e) p.query ≡ false → Shared (told p d) (told (fallen s p d) e) (told p (d + e))
  told_shared p d e w h = go (when s p d)
    where
      go : When s p d → Shared (told p d) (told (fallen s p d) e) (told p (d + e))
      go (still z) =
          let r = rest_of s p p.state p.exchange 0 (p.hold - d) d in
          let q = query_in p.state p.query in
          rw (fallen_still s p d z, told_still p d z, told_still r e refl, told_still p (d + e) z, in_timed s p.state q d, in_in p.state p.query)
          (query_shared s q d e (in_bounded s p.state p.query w.bounded) (in_unretried s p.state p.query (d + e) h))
      go (over z l) =
          let r = rest_of s p (end_state s p) None 0 (p.hold - d) d in
          let b = w.busy z in
          let more : ltb (d + e) p.left ≡ false = le-ltb (d + e) p.left (let k = ltb-false d p.left l in omega arith) in
          rw (fallen_over s p d z l, told_over p d z l b.0, told_still r e refl, told_over p (d + e) z more b.0, b.1, in_none (end_state s p), in_none (end_state s p))
          (early refl refl)
      go (on z l) = later (when s r e)
        where
          r : Record
          r = rest_of s p p.state p.exchange (p.left - d) (p.hold - d) d

          b : (eqb (under_way p.exchange) 0 ≡ false) × (p.query ≡ query.None)
          b = w.busy z

          none : r.query ≡ query.None
          none = rw (b.1, in_none p.state)

          later : When s r e → Shared (told p d) (told (fallen s p d) e) (told p (d + e))
          later (still y) = clash y (ne_eqb (p.left - d) 0 (λ (n : p.left - d ≡ 0). let k = ltb-true d p.left l in omega arith))
          later (on y m) =
              let more : ltb (d + e) p.left ≡ true = lt-ltb (d + e) p.left (let k = ltb-true e (p.left - d) m in omega arith) in
              rw (fallen_on s p d z l, told_on p d z l b.1, told_on r e y m none, told_on p (d + e) z more b.1) (late refl refl)
          later (over y m) =
              let more : ltb (d + e) p.left ≡ false = le-ltb (d + e) p.left (let k = ltb-false e (p.left - d) m in omega arith) in
              rw (fallen_on s p d z l, told_on p d z l b.1, told_over r e y m b.0, told_over p (d + e) z more b.0) (late refl refl)

  -- ---- a record that may be freed

  abbrev idle : Record → Bool
  idle p = eqb p.state 1 && (eqb p.hold 0 && (eqb (under_way p.exchange) 0 && no_links p.links))

  freed_yes : (p : Record) → idle p ≡ true → freed_of p ≡ free_of
  unfolding freed_of
  freed_yes p h = rw h

  freed_no : (p : Record) → idle p ≡ false → freed_of p ≡ p
  unfolding freed_of
  freed_no p h = rw h

  -- it is in State 1 and runs no time, so no query stands there; and a step leaves it so
  idle_still : (p : Record) → Sound s p → idle p ≡ true → (eqb p.left 0 ≡ true) × (p.state ≡ 1)
  idle_still p w h =
      let a = both (eqb p.state 1) _ h in
      let u = both (eqb (under_way p.exchange) 0) _ (both (eqb p.hold 0) _ a.1).1 in
      (by_bool (eqb p.left 0) (λ z. z) (λ z. clash u.0 (w.busy z).0), eqb-true p.state 1 a.0)

  idle_falls : (p : Record) (e : ℕ) → Sound s p → idle p ≡ true → freed_of (fallen s p e) ≡ free_of
  idle_falls p e w h =
      let a = both (eqb p.state 1) _ h in
      let b = both (eqb p.hold 0) _ a.1 in
      let zero : eqb (p.hold - e) 0 ≡ true = eq-eqb (p.hold - e) 0 (let z : p.hold ≡ 0 = eqb-true p.hold 0 b.0 in omega arith) in
      rw (fallen_still s p e (idle_still p w h).0) (freed_yes (rest_of s p p.state p.exchange 0 (p.hold - e) e) (rw (a.0, zero) b.1))

  idle_told : (p : Record) (e : ℕ) → Sound s p → idle p ≡ true → told p e ≡ 0
  unfolding query_in
  idle_told p e w h = let k = idle_still p w h in rw (told_still p e k.0, k.1)

  -- "A free place is all zero", stays free, and nothing is told of it.
  pub tick_free : (d : ℕ) → ((tick_of s free_of d).peer ≡ free_of) × ((tick_of s free_of d).report ≡ 0)
  unfolding tick_of timed_of freed_of changed_of query_in queried_timed queried_of reported_of
  tick_free d = (rw (zero-sub d), refl)

  -- ---- the laws

  -- One of two steps reports what the long one reports, the other nothing; if the second, the record is still there.
  pub data Parts (p : Record) (d e : ℕ) : Type 0 where
    first : (tick_of s p d).report ≡ (tick_of s p (d + e)).report → (tick_of s (tick_of s p d).peer e).report ≡ 0 → Parts p d e
    second :
        (tick_of s p d).report ≡ 0 → (tick_of s (tick_of s p d).peer e).report ≡ (tick_of s p (d + e)).report
        → (tick_of s p d).peer.address ≡ p.address → Parts p d e

  module _ (p : Record) (h : place_fits s p ≡ true) (d e : ℕ) where
    w : Sound s p
    w = sound s p h

    abbrev x : Record
    x = fallen s p d

    v : Sound s x
    v = fallen_sound s p d w

    pub tick_twice : (tick_of s (tick_of s p d).peer e).peer ≡ (tick_of s p (d + e)).peer
    unfolding tick_of
    tick_twice = by_bool (idle x)
        (λ i. rw (freed_yes x i, ← fallen_twice s p d e w) ((tick_free e).0 ∙ sym (idle_falls x e v i)))
        (λ i. rw (freed_no x i, fallen_twice s p d e w))

    pub tick_parts : query_retried s (d + e) p.query ≡ false → Parts p d e
    unfolding tick_of
    tick_parts n = by_bool (idle x) gone kept
      where
        shared : Shared (told p d) (told x e) (told p (d + e))
        shared = told_shared p d e w n

        gone : idle x ≡ true → Parts p d e
        gone i = at shared
          where
            nothing : (tick_of s (tick_of s p d).peer e).report ≡ 0
            nothing = rw (freed_yes x i) (tick_free e).1

            at : Shared (told p d) (told x e) (told p (d + e)) → Parts p d e
            at (early a b) = first a nothing
            at (late a b) = first (a ∙ sym (idle_told x e v i) ∙ b) nothing

        kept : idle x ≡ false → Parts p d e
        kept i = at shared
          where
            at : Shared (told p d) (told x e) (told p (d + e)) → Parts p d e
            at (early a b) = first a (rw (freed_no x i) b)
            at (late a b) = second a (rw (freed_no x i) b) (rw (freed_no x i) (fallen_address s p d))

    -- what the sum does not reach, the second step does not
    pub tick_unretried : query_retried s (d + e) p.query ≡ false → query_retried s e (tick_of s p d).peer.query ≡ false
    unfolding tick_of
    tick_unretried n = by_bool (idle x)
        (λ i. rw (freed_yes x i))
        (λ i. rw (freed_no x i) (fallen_unretried s p d e w n))
