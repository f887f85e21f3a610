-- A well-formed table stays so where a place is stored to, in a peer's turn.
-- Assumes nothing.
use Prim.Native.Nat.{ℕ, ◌≤◌}
use mathlib.Core.Path.{◌≡◌, refl, sym, subst, ◌∙◌}
use mathlib.Core.Bool.{Bool, true, false}
use mathlib.Core.List.{List, [], ◌∷◌, map}
use native.Mathlib.Omega.{arith}
use lib.Dec.{eqb}
use lib.ListN.{get_or, set, length-set, length-map}
use lib.Seq.{set-get_or}
use borrow.Author.Tests.{eqb-true}
use Rattle.octets.proofs.Branch.{by_bool}
use Rattle.octets.specs.Pick.{pick}
use Rattle.peer.proofs.Fits.{Placed, or_right, placed, wrong}
use Rattle.peer.proofs.Keeps.{Turns, parted_associates, parted_joined, parted_keeps}
use Rattle.peer.proofs.Links.{parted_links}
use Rattle.peer.proofs.TickKeeps.{freed_by, freed_placed}
use Rattle.peer.specs.Association.{parted_of}
use Rattle.peer.specs.Fit.{place_fits}
use Rattle.peer.specs.Record.{associates, free_of, fresh_of, is_joined}
use Rattle.peer.specs.Tick.{freed_of}
use Rattle.peer.specs.Settings.{role_answers}
use Rattle.peer.specs.declared.record.Record.{Record}
use Rattle.peer.specs.declared.settings.Settings.{Settings}
use Rattle.peer.specs.declared.turn.Turn.{Turn}
use Rattle.table.specs.Fit.{alone_in, apart, distinct_of, links_apart}
use Rattle.table.specs.Places.{addresses_of, all_of, count_of, find_of, link_addresses_of, on_found}
use Rattle.table.specs.Seat.{newcomer_of, peer_of, seated_of, starts_of, stranger_of, turn_in}
use Rattle.std.specs.Prelude.{Option, Some, None}
use Rattle.table.proofs.Passes.Lists.{all_map, all_set, count_map, count_none, count_set_low, count_set_one, distinct_set, get_map, map_same, map_set}
use Rattle.table.proofs.Passes.LinkStores.{apart_lone, emptied_all, emptied_apart, links_same, named_apart, set_again, set_links_map, zero_lone}
use Rattle.table.proofs.Theorems.Well.{Leads, Well, free_links}

freed_apart :
    (t : List Record) (ads : List ℕ) (i : ℕ) (q : Record) → links_apart (link_addresses_of (set t i q)) ads ≡ true
    → links_apart (link_addresses_of (set t i (freed_of q))) ads ≡ true
freed_apart t ads i q h =
    freed_by (λ r. links_apart (link_addresses_of (set t i r)) ads ≡ true) q
    (λ z n. rw (set_again t i q free_of) at (emptied_apart (set t i q) ads i h)) h

freed_lone :
    (t : List Record) (a i : ℕ) (q : Record) → all_of (λ l. alone_in l (a ∷ [])) (link_addresses_of (set t i q)) ≡ true
    → all_of (λ l. alone_in l (a ∷ [])) (link_addresses_of (set t i (freed_of q))) ≡ true
unfolding alone_in
freed_lone t a i q h =
    freed_by (λ r. all_of (λ l. alone_in l (a ∷ [])) (link_addresses_of (set t i r)) ≡ true) q
    (λ z n. emptied_all (λ (l : ℕ). alone_in l (a ∷ [])) refl t i q h) h

-- What a place may be stored with: the record that a turn leaves; or that record freed, as the clock frees one. (What speaks against freeing
-- a place in a turn is demand 3, not that a table is well formed.)
ruleset seats = (placed, freed_placed, freed_apart, freed_lone)

-- ---- a place stored

module _ (s : Settings) (t : List Record) (w : Well s t) (busy : Bool) (none : role_answers s.role ≡ false → busy ≡ false → count_of associates t ≡ 0) where
  seated :
      (i : ℕ) (p q : Record) (sole : Bool) → Placed s busy p q sole → distinct_of (set (addresses_of t) i q.address) ≡ true
      → links_apart (link_addresses_of (set t i q)) (set (addresses_of t) i q.address) ≡ true
      → (is_joined p ≡ true → is_joined (get_or t i free_of) ≡ true) → (associates p ≡ true → associates (get_or t i free_of) ≡ true)
      → Well s (set (pick sole (map parted_of t) t) i q)
  seated i p q false k d a joined starts =
      record {
        settings = w.settings;
        long = length-set t i q ∙ w.long;
        places = all_set (place_fits s) t i q w.places k.place;
        distinct = rw (map_set (λ (p : Record). p.address) t i q) d;
        apart = rw (map_set (λ (p : Record). p.address) t i q) a;
        joined = λ r. omega (arith, count_set_low is_joined t i free_of q (λ j. joined (k.joins r refl j)), w.joined r);
        associating = λ r. by_bool busy
            (λ b. omega (arith, count_set_low associates t i free_of q (λ j. starts (k.starts r b j)), w.associating r))
            (λ b. omega (arith, count_set_one associates t i q, none r b));
      }
  seated i p q true k d a joined starts =
      record {
        settings = w.settings;
        long = length-set (map parted_of t) i q ∙ length-map t parted_of ∙ w.long;
        places = all_set (place_fits s) (map parted_of t) i q (all_map (place_fits s) (place_fits s) parted_of (parted_keeps s) t w.places) k.place;
        distinct = rw (map_set (λ (p : Record). p.address) (map parted_of t) i q, map_same (λ (p : Record). p.address) parted_of (λ p. (parted_links p).0) t) d;
        apart = rw (set_links_map parted_of (λ p. (parted_links p).1) t i q, map_set (λ (p : Record). p.address) (map parted_of t) i q, map_same (λ (p : Record). p.address) parted_of (λ p. (parted_links p).0) t) a;
        joined = λ r. omega (arith, count_set_one is_joined (map parted_of t) i q, count_none is_joined parted_of parted_joined t);
        associating = λ r. by_bool busy
            (λ b. omega (arith, count_set_low associates (map parted_of t) i (parted_of free_of) q (λ j. stays (starts (k.starts r b j))), w.associating r, fewer))
            (λ b. omega (arith, count_set_one associates (map parted_of t) i q, none r b, fewer));
      }
    where
      stays : associates (get_or t i free_of) ≡ true → associates (get_or (map parted_of t) i (parted_of free_of)) ≡ true
      stays h = rw (get_map parted_of t i free_of, parted_associates (get_or t i free_of)) h

      fewer : count_of associates (map parted_of t) ≤ count_of associates t
      fewer = count_map (place_fits s) associates associates parted_of (λ p e j. sym (parted_associates p) ∙ j) t w.places

  -- at the place of the record, and at any place for a record of an address that is nowhere; with links that may stand there
  again :
      (i : ℕ) {q : Record} {sole : Bool} → Placed s busy (get_or t i free_of) q sole → links_apart (link_addresses_of (set t i q)) (addresses_of t) ≡ true
      → Well s (set (pick sole (map parted_of t) t) i q)
  unfolding alone_in
  again i {q} {sole} k a = seated i (get_or t i free_of) q sole k (by_bool (eqb q.address 0)
      (λ z. distinct_set (addresses_of t) i q.address w.distinct (rw z))
      (λ z. rw (k.same z ∙ sym (get_map (λ (p : Record). p.address) t i free_of), set-get_or (addresses_of t) i 0) w.distinct))
      (by_bool (eqb q.address 0)
      (λ z. subst At-i (sym (eqb-true q.address 0 z)) (named_apart (link_addresses_of (set t i q)) (addresses_of t) i 0 a (zero_lone (link_addresses_of (set t i q)))))
      (λ z. subst At-i (sym (k.same z ∙ sym (get_map (λ (p : Record). p.address) t i free_of))) (rw (set-get_or (addresses_of t) i 0) a)))
      (λ j. j) (λ j. j)
    where
      At-i : ℕ → Type 0
      At-i b = links_apart (link_addresses_of (set t i q)) (set (addresses_of t) i b) ≡ true

  anew :
      (a i : ℕ) → all_of (apart a) (addresses_of t) ≡ true → {q : Record} {sole : Bool} → Placed s busy (fresh_of a) q sole
      → links_apart (link_addresses_of (set t i q)) (addresses_of t) ≡ true → all_of (λ l. alone_in l (a ∷ [])) (link_addresses_of (set t i q)) ≡ true
      → Well s (set (pick sole (map parted_of t) t) i q)
  unfolding alone_in fresh_of is_joined associates
  anew a i n {q} {sole} k l m = seated i (fresh_of a) q sole k (distinct_set (addresses_of t) i q.address w.distinct (by_bool (eqb q.address 0)
      (λ z. rw z)
      (λ z. or_right (eqb q.address 0) _ (rw (k.same z) n))))
      (by_bool (eqb q.address 0)
      (λ z. subst At-i (sym (eqb-true q.address 0 z)) (named_apart (link_addresses_of (set t i q)) (addresses_of t) i 0 l (zero_lone (link_addresses_of (set t i q)))))
      (λ z. subst At-i (sym (k.same z)) (named_apart (link_addresses_of (set t i q)) (addresses_of t) i a l m)))
      (λ j. wrong j) (λ j. wrong j)
    where
      At-i : ℕ → Type 0
      At-i b = links_apart (link_addresses_of (set t i q)) (set (addresses_of t) i b) ≡ true

  -- ---- a peer's turn

  pub at_place : (i : ℕ) (turn : Turn) → Turns s busy (get_or t i free_of) turn → links_apart (link_addresses_of (set t i turn.peer)) (addresses_of t) ≡ true → Well s (seated_of t i turn).table
  unfolding seated_of
  at_place i turn k a = search (again i, seats)

  pub new_place :
      (a i : ℕ) (turn : Turn) → all_of (apart a) (addresses_of t) ≡ true → Turns s busy (fresh_of a) turn
      → links_apart (link_addresses_of (set t i turn.peer)) (addresses_of t) ≡ true → all_of (λ l. alone_in l (a ∷ [])) (link_addresses_of (set t i turn.peer)) ≡ true
      → Well s (seated_of t i turn).table
  unfolding seated_of
  new_place a i turn n k l m = search (anew a i n, seats)

  -- with the links that stand there
  pub in_turn :
      (a : ℕ) (at free : Option ℕ) (turn full : Turn) → Leads s t w a at → find_of (addresses_of t) 0 ≡ free
      → Turns s busy (peer_of t at a) turn → turn.peer.links ≡ (peer_of t at a).links → Well s (turn_in t at free turn full).table
  unfolding newcomer_of stranger_of fresh_of
  in_turn a None free turn full l e k same = by_bool (starts_of turn) (λ b. rw b (placed free e)) (λ b. rw b w)
    where
      placed : (free : Option ℕ) → find_of (addresses_of t) 0 ≡ free → Well s (on_found free (stranger_of t full) (λ i. seated_of t i turn)).table
      placed None e = w
      placed (Some i) e =
          let kept = links_same t i turn.peer (same ∙ sym (free_links s t w i e)) in
          new_place a i turn l.0 k (rw kept w.apart) (rw kept (apart_lone a (link_addresses_of t) l.1))
  in_turn a (Some i) free turn full l e k same = at_place i turn k (rw (links_same t i turn.peer same) w.apart)
