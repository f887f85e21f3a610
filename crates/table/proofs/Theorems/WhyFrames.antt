-- Steps 6 to 8 of a received frame as specs/Reasons.antt words them, over octets and the whole table, are what the rule asks of the frame's class, of what
-- is heard, and of one record.
-- Assumes nothing.
use Prim.Native.Nat.{ℕ, suc, ◌+◌, ◌-◌, ◌≤◌}
use mathlib.Core.Path.{◌≡◌, refl, ap as apply, sym, ◌∙◌}
use mathlib.Core.Bool.{Bool, true, false, not, ◌&&◌, ◌||◌, or-false}
use mathlib.Core.List.{List, [], ◌∷◌}
use native.Mathlib.Omega.{arith}
use lib.Dec.{eqb, leb, ltb}
use lib.ListN.{length, get_or}
use borrow.Author.Tests.{eqb-false, eqb-true, le-ltb, leb-false, leb-true, lt-ltb}
use Rattle.octets.proofs.Branch.{by_bool}
use Rattle.octets.specs.Address.{group_of}
use Rattle.octets.specs.Class.{class_in, class_of, classless, direct_class, number_of}
use Rattle.octets.specs.Field.{field, subtype_of, type_of}
use Rattle.octets.specs.Heard.{authentication_of, heard_of, query_of, response_of}
use Rattle.octets.specs.Pick.{pick}
use Rattle.octets.specs.declared.class.FrameClass.TheVariants as class
use Rattle.octets.specs.declared.class.FrameClass.{FrameClass}
use Rattle.octets.specs.declared.heard.Heard.TheVariants as heard
use Rattle.peer.proofs.Fits.{wrong}
use Rattle.peer.specs.Filter.{passes_of}
use Rattle.peer.specs.Hear.{is_exchange}
use Rattle.peer.specs.Idle.{group_barred}
use Rattle.peer.specs.Record.{free_of, fresh_of}
use Rattle.peer.specs.Settings.{role_associates}
use Rattle.peer.specs.declared.record.Record.{Record}
use Rattle.table.specs.Places.{addresses_of, find_link_of, find_of, first_from, has_link, on_found, seek_of}
use Rattle.table.specs.Reasons.{device_told, first_told, out_of_class, sender_told, to_group}
use Rattle.table.specs.Seat.{peer_of}
use Rattle.std.specs.Prelude.{Option, Some, None}
use Rattle.table.proofs.Passes.Lists.{first_at}

-- ---- the event's own peer

module _ {A : Type 0} (f : Record → A) where
  -- what is told of the first record is told of the one at the place found ..
  told_at : (m : Record → Bool) (z : A) (t : List Record) (n i : ℕ) → first_from m n t ≡ Some i → first_told m z f t ≡ f (get_or t (i - n) free_of)
  unfolding first_from first_told
  told_at m z [] n i e = let w : ◌≡◌ {A = ℕ} 0 1 = cc in absurd (omega arith)
  told_at m z (p ∷ ps) n i e = by_bool (m p)
      (λ b.
      let q : Some n ≡ Some i = rw b at e in
      let same : n ≡ i = cc in
      let zero_left : i - n ≡ 0 = omega arith in
      rw (b, zero_left))
      (λ b.
      let low : n + 1 ≤ i = (first_at m free_of ps (n + 1) i (rw b at e)).0 in
      let more : i - n ≡ suc (i - (n + 1)) = omega arith in
      rw (b, more) (told_at m z ps (n + 1) i (rw b at e)))

  -- .. and where none is found, nothing is
  told_none : (m : Record → Bool) (z : A) (t : List Record) (n : ℕ) → first_from m n t ≡ None → first_told m z f t ≡ z
  unfolding first_from first_told
  told_none m z [] n e = refl
  told_none m z (p ∷ ps) n e = by_bool (m p)
      (λ b. let q : Some n ≡ None = rw b at e in let w : ◌≡◌ {A = ℕ} 0 1 = cc in absurd (omega arith))
      (λ b. rw b (told_none m z ps (n + 1) (rw b at e)))

  first_map : (a : ℕ) (t : List Record) (n : ℕ) → first_from (λ b. eqb b a) n (addresses_of t) ≡ first_from (λ p. eqb p.address a) n t
  unfolding first_from
  first_map a [] n = refl
  first_map a (p ∷ ps) n = apply (pick (eqb p.address a) (Some n)) (first_map a ps (n + 1))

  told_place : (m : Record → Bool) (z : A) (t : List Record) (at : Option ℕ) → first_from m 0 t ≡ at → first_told m z f t ≡ on_found at z (λ i. f (get_or t i free_of))
  told_place m z t None e = told_none m z t 0 e
  told_place m z t (Some i) e = let at_i : i - 0 ≡ i = omega arith in rw at_i at (told_at m z t 0 i e)

  placed : (t : List Record) (a : ℕ) (at : Option ℕ) → on_found at (f (fresh_of a)) (λ i. f (get_or t i free_of)) ≡ f (peer_of t at a)
  placed t a None = refl
  placed t a (Some i) = refl

  -- of a primitive's peer: its record, fresh where it has none
  pub device_told_lem : (t : List Record) (a : ℕ) → device_told t a (f (fresh_of a)) f ≡ f (peer_of t (find_of (addresses_of t) a) a)
  device_told_lem t a =
      told_place (λ p. eqb p.address a) (f (fresh_of a)) t (find_of (addresses_of t) a) (sym (first_map a t 0))
      ∙ placed t a (find_of (addresses_of t) a)

  -- of a frame's sender
  pub sender_told_lem :
      (t : List Record) (xs : List ℕ) → eqb (field 6 10 xs) 0 ≡ false
      → sender_told t xs (f (fresh_of (field 6 10 xs))) f ≡ f (peer_of t (seek_of t (addresses_of t) (field 6 10 xs)) (field 6 10 xs))
  unfolding seek_of find_link_of
  sender_told_lem t xs z = go (first_from (has_link (field 6 10 xs)) 0 t) refl
    where
      a : ℕ
      a = field 6 10 xs

      go : (l : Option ℕ) → first_from (has_link (field 6 10 xs)) 0 t ≡ l
          → sender_told t xs (f (fresh_of (field 6 10 xs))) f ≡ f (peer_of t (on_found (pick (eqb (field 6 10 xs) 0) None (first_from (has_link (field 6 10 xs)) 0 t)) (find_of (addresses_of t) (field 6 10 xs)) (λ i. Some i)) (field 6 10 xs))
      go None e = rw (z, e) (told_place (has_link (field 6 10 xs)) _ t None e ∙ device_told_lem t (field 6 10 xs))
      go (Some i) e = rw (z, e) (told_place (has_link (field 6 10 xs)) _ t (Some i) e)

-- ---- 6.

not_leb : (m n : ℕ) → ltb n m ≡ not (leb m n)
not_leb m n = by_bool (leb m n)
    (λ e. rw (e, le-ltb n m (leb-true m n e)))
    (λ e. rw (e, lt-ltb n m (leb-false m n e)))

pub kept_same : (role state : ℕ) (xs : List ℕ) → classless (class_of xs) ≡ false → out_of_class role state xs ≡ not (passes_of role (class_in (role_associates role) xs) state)
unfolding class_in
kept_same role state xs c = by_bool (role_associates role)
    (λ r. rw r (joined r (class_of xs) c))
    (λ r. rw r (alone r (direct_class xs (class_of xs))))
  where
    joined : role_associates role ≡ true → (k : FrameClass) → classless k ≡ false → ((eqb (number_of k) 2 && ltb state 2) || (eqb (number_of k) 3 && ltb state 3)) ≡ not (passes_of role k state)
    joined r class.None c = wrong (sym c)
    joined r class.One c = refl
    joined r class.Two c = rw r (or-false (ltb state 2) ∙ not_leb 2 state)
    joined r class.Three c = rw r (not_leb 3 state)

    alone : role_associates role ≡ false → (k : FrameClass) → not (eqb (number_of k) 1) ≡ not (passes_of role k state)
    alone r class.None = refl
    alone r class.One = refl
    alone r class.Two = rw r
    alone r class.Three = rw r

-- ---- 7.

unqueried : (xs : List ℕ) → is_exchange (query_of xs) ≡ false
unfolding query_of
unqueried xs = by (ltb (length xs) 28) (eqb (field 1 24 xs) 8) (eqb (field 1 25 xs) 0) (eqb (field 1 25 xs) 1)
  where
    by : (a b c d : Bool) → is_exchange (pick a heard.Other (pick b (pick c (heard.QueryRequest (field 2 26 xs)) (pick d (heard.QueryResponse (field 2 26 xs)) heard.Other)) heard.Other)) ≡ false
    by true b c d = refl
    by false false c d = refl
    by false true true d = refl
    by false true false true = refl
    by false true false false = refl

exchange_same : (xs : List ℕ) → (eqb (type_of (field 1 0 xs)) 0 && (ltb (subtype_of (field 1 0 xs)) 4 || eqb (subtype_of (field 1 0 xs)) 11)) ≡ is_exchange (heard_of xs)
unfolding heard_of authentication_of response_of
exchange_same xs = by_bool (eqb (type_of (field 1 0 xs)) 0)
    (λ t.
    by_bool (eqb (subtype_of (field 1 0 xs)) 0) (λ e. rw (t, eqb-true (subtype_of (field 1 0 xs)) 0 e)) (λ e0.
    by_bool (eqb (subtype_of (field 1 0 xs)) 1) (λ e. rw (t, eqb-true (subtype_of (field 1 0 xs)) 1 e)) (λ e1.
    by_bool (eqb (subtype_of (field 1 0 xs)) 2) (λ e. rw (t, eqb-true (subtype_of (field 1 0 xs)) 2 e)) (λ e2.
    by_bool (eqb (subtype_of (field 1 0 xs)) 3) (λ e. rw (t, eqb-true (subtype_of (field 1 0 xs)) 3 e)) (λ e3.
    by_bool (eqb (subtype_of (field 1 0 xs)) 10) (λ e. rw (t, eqb-true (subtype_of (field 1 0 xs)) 10 e)) (λ e10.
    by_bool (eqb (subtype_of (field 1 0 xs)) 11) (λ e. rw (t, eqb-true (subtype_of (field 1 0 xs)) 11 e)) (λ e11.
    by_bool (eqb (subtype_of (field 1 0 xs)) 12) (λ e. rw (t, eqb-true (subtype_of (field 1 0 xs)) 12 e)) (λ e12.
    by_bool (eqb (subtype_of (field 1 0 xs)) 13) (λ e. rw (t, eqb-true (subtype_of (field 1 0 xs)) 13 e) (sym (unqueried xs))) (λ e13.
    let high : 4 ≤ subtype_of (field 1 0 xs) = omega (arith, eqb-false (subtype_of (field 1 0 xs)) 0 e0, eqb-false (subtype_of (field 1 0 xs)) 1 e1, eqb-false (subtype_of (field 1 0 xs)) 2 e2, eqb-false (subtype_of (field 1 0 xs)) 3 e3) in
    rw (t, e0, e1, e2, e3, e10, e11, e12, e13, le-ltb (subtype_of (field 1 0 xs)) 4 high))))))))))
    (λ t. rw t)

pub group_same : (xs : List ℕ) → to_group xs ≡ group_barred (group_of (field 6 4 xs)) (heard_of xs)
unfolding group_barred
group_same xs = apply (λ b. group_of (field 6 4 xs) && b) (exchange_same xs)
