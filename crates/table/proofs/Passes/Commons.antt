-- The frames that come most: how they read (`common_read`); and that a frame that passes, and for which nothing is named, leaves
-- the table as it is (`quiet_turn`).
-- Assumes nothing.
use Prim.Native.Nat.{ℕ, ◌%◌, ◌/◌, ◌≤◌}
use mathlib.Core.Bool.{Bool, true, false, not, ◌&&◌}
use mathlib.Core.List.{List}
use mathlib.Core.Path.{◌≡◌, refl, sym}
use native.Mathlib.Omega.{arith}
use borrow.Author.Tests.{eqb-true, le-ltb}
use lib.Dec.{eqb}
use lib.ListN.{length, get_or}
use lib.Seq.{set-get_or}
use Rattle.std.proofs.Common.{None}
use Rattle.octets.proofs.Branch.{and_left, and_right, by_bool}
use Rattle.octets.specs.Address.{group_of, valid_of}
use Rattle.octets.specs.Class.{class_of, is_public_action}
use Rattle.octets.specs.Element.{broken_of, is_response}
use Rattle.octets.specs.Field.{field}
use Rattle.octets.specs.Heard.{heard_of}
use Rattle.octets.specs.Links.{no_links}
use Rattle.octets.specs.Shape.{is_bare, least_management, least_of, shape_of}
use Rattle.octets.specs.Sort.{is_listed, sort_of}
use Rattle.octets.specs.declared.class.FrameClass.{FrameClass}
use Rattle.octets.specs.declared.heard.Heard.TheVariants.{Other}
use Rattle.octets.specs.declared.shape.Shape.TheVariants.{Full}
use Rattle.octets.specs.declared.sort.Sort.TheVariants.{Listed}
use Rattle.peer.proofs.Fits.{clash}
use Rattle.peer.proofs.Roles.{ds_beside}
use Rattle.peer.specs.Filter.{passes_of}
use Rattle.peer.specs.Hear.{group_heard, hear_of}
use Rattle.peer.specs.Record.{free_of, fresh_of}
use Rattle.peer.specs.Turn.{admit, nothing_told, replied_of, still_of, towards_of, turn_of}
use Rattle.peer.specs.declared.record.Record.{Record}
use Rattle.peer.specs.declared.settings.Settings.{Settings}
use Rattle.peer.specs.declared.turn.Turn.{Turn}
use Rattle.table.specs.Answer.{settled_of}
use Rattle.table.specs.Common.{common_of}
use Rattle.table.specs.Places.{on_found}
use Rattle.table.specs.Read.{for_us, read_from, read_full, read_of}
use Rattle.table.specs.Seat.{newcomer_of, peer_of, seated_of, starts_of, stranger_of, turn_in}
use Rattle.table.specs.declared.rules.read.Reading.TheVariants.{From}
use Rattle.std.specs.Prelude.{Option, Some, None}

-- ---- the first octet

not_true : (b : Bool) → not b ≡ true → b ≡ false
not_true true h = sym h
not_true false h = refl

-- data of version 0, and not of subtype 13
data_first : (first : ℕ) → common_of first ≡ true → eqb first 128 ≡ false → (first % 4 ≡ 0) × (first / 4 % 4 ≡ 2) × (eqb (first / 16) 13 ≡ false)
unfolding common_of
data_first first h n =
    let d : (eqb (first % 16) 8 && not (eqb first 216)) ≡ true = rw n at h in
    let low : first % 16 ≡ 8 = eqb-true (first % 16) 8 (and_left _ _ d) in
    let other : eqb first 216 ≡ false = not_true _ (and_right (eqb (first % 16) 8) _ d) in (
      omega arith,
      omega arith,
      by_bool (eqb (first / 16) 13)
          (λ e.
          let thirteen : first / 16 ≡ 13 = eqb-true (first / 16) 13 e in
          let all : first ≡ 216 = omega arith in
          clash (rw all) other)
          (λ e. e),
    )

-- ---- the reading

record Plain (xs : List ℕ) : Type 0 where
  full : shape_of xs ≡ Full
  whole : broken_of xs ≡ false
  listed : sort_of true xs ≡ Listed (field 1 0 xs)
  unnamed : heard_of xs ≡ Other

module _ (xs : List ℕ) (l : 24 ≤ length xs) (m : length xs ≤ 4096) where
  beacon_plain : field 1 0 xs ≡ 128 → Plain xs
  unfolding shape_of class_of is_public_action least_of is_bare least_management broken_of is_response sort_of is_listed heard_of
  beacon_plain e =
      record {
        full = rw (e, le-ltb (length xs) 10 (omega arith), le-ltb 4096 (length xs) m, le-ltb (length xs) 24 l);
        whole = rw e;
        listed = rw e;
        unnamed = rw e;
      }

  data_plain : (field 1 0 xs % 4 ≡ 0) × (field 1 0 xs / 4 % 4 ≡ 2) × (eqb (field 1 0 xs / 16) 13 ≡ false) → Plain xs
  unfolding shape_of class_of is_public_action least_of is_bare broken_of is_response sort_of is_listed heard_of
  data_plain d =
      record {
        full = rw (d.0, d.1, d.2, le-ltb (length xs) 10 (omega arith), le-ltb 4096 (length xs) m, le-ltb (length xs) 24 l);
        whole = rw d.1;
        listed = rw (d.0, d.1);
        unnamed = rw d.1;
      }

  pub common_read :
      (own : ℕ) → common_of (field 1 0 xs) ≡ true → for_us own (field 6 4 xs) ≡ true → eqb (field 6 10 xs) own ≡ false → valid_of (field 6 10 xs) ≡ true
      → read_of own true xs ≡ From (field 6 10 xs) (group_of (field 6 4 xs)) (Listed (field 1 0 xs)) Other
  unfolding read_of read_full read_from
  common_read own c u n v =
      let p = by_bool (eqb (field 1 0 xs) 128) (λ e. beacon_plain (eqb-true (field 1 0 xs) 128 e)) (λ e. data_plain (data_first (field 1 0 xs) c e)) in
      rw (p.full, u, n, v, p.whole, p.listed, p.unnamed)

-- ---- the turn

module _ (s : Settings) where
  -- nothing is told and nothing said, and the record stays
  heard_still : (p : Record) (k : FrameClass) (group : Bool) → passes_of s.role k p.state ≡ true → hear_of s p k group Other ≡ record { peer = p; told = nothing_told; verdict = admit; ds = 0; sole = false; reply = None }
  unfolding hear_of group_heard still_of replied_of turn_of
  heard_still p k true h = rw (h, ds_beside s.role p.state p.state refl)
  heard_still p k false h = rw (h, ds_beside s.role p.state p.state refl)

  pub quiet_turn :
      (t : List Record) (at free : Option ℕ) (a : ℕ) (k : FrameClass) (group : Bool) (full : Turn) → passes_of s.role k (peer_of t at a).state ≡ true
      → turn_in t at free (towards_of a (hear_of s (peer_of t at a) k group Other)) full
      ≡ settled_of t (record { current = 0; code = 0; written = 0; refusal = 0; verdict = admit; notice = 0; ds = 0; state = on_found at 0 (λ i. (peer_of t at a).state) })
  unfolding newcomer_of starts_of stranger_of seated_of settled_of towards_of no_links fresh_of
  quiet_turn t None free a k group full h = rw (heard_still (fresh_of a) k group h)
  quiet_turn t (Some i) free a k group full h = rw (heard_still (get_or t i free_of) k group h, set-get_or t i free_of)
