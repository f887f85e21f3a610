-- Primitive 12 keeps a table well formed: the links that it takes may stand at their device, and are no other record's.
-- Assumes nothing.
use Prim.Native.Nat.{ℕ, zero, suc, ◌+◌, ◌*◌, ◌≤◌}
use mathlib.Core.Path.{◌≡◌, refl, sym, ◌∙◌}
use mathlib.Core.Bool.{Bool, true, false, not, ◌&&◌}
use mathlib.Core.List.{List, [], ◌∷◌}
use native.Mathlib.Omega.{arith}
use lib.Dec.{eqb, leb}
use lib.ListN.{length, drop, get_or, set, take, drop_of_length-le}
use borrow.Author.Tests.{eqb-true, leb-true, not-false, not-true}
use Rattle.octets.proofs.Branch.{by_bool}
use Rattle.octets.specs.Address.{valid_of}
use Rattle.octets.specs.Field.{field}
use Rattle.octets.specs.Links.{links_at, links_of}
use Rattle.octets.specs.declared.links.Links.{Links}
use Rattle.peer.proofs.Fits.{both, or_left, wrong}
use Rattle.peer.proofs.Links.{linking_turns}
use Rattle.peer.specs.Fit.{links_stand, slot_fits}
use Rattle.peer.specs.Record.{associates, free_of, fresh_of, linked_of}
use Rattle.peer.specs.Settings.{ap, role_answers}
use Rattle.peer.specs.Turn.{linking_of, turn_of}
use Rattle.peer.specs.declared.record.Record.{Record}
use Rattle.peer.specs.declared.settings.Settings.{Settings}
use Rattle.peer.specs.declared.turn.Turn.{Turn}
use Rattle.table.specs.Fit.{alone_in, apart, distinct_of}
use Rattle.table.specs.Link.{count_fits, count_in, device_in, given_in, link_allowed, links_in, may_link, used_elsewhere}
use Rattle.table.specs.Places.{addresses_of, all_of, all_tails, count_of, find_link_of, find_of, has_link, is_found, link_addresses_of, on_found}
use Rattle.table.specs.Seat.{newcomer_of, peer_of, seated_of, starts_of, stranger_of, turn_in}
use Rattle.std.specs.Prelude.{Option, Some, None}
use Rattle.table.proofs.Passes.LinkLaws.{all_links, all_weak, apart_both, apart_links, free_without, link_found, link_nowhere, only_here, unfound}
use Rattle.table.proofs.Passes.LinkStores.{apart_lone, stored_apart}
use Rattle.table.proofs.Passes.Lists.{all_set, first_none, join}
use Rattle.table.proofs.Theorems.Seated.{at_place, new_place}
use Rattle.table.proofs.Theorems.Well.{Well, find_leads, found_address}
use Rattle.table.proofs.Theorems.WordedRecords.{valid_named}

-- ---- the links in primitive 12's octets: those given, and 0 behind them

past : (k : ℕ) (xs : List ℕ) → length xs ≤ k → field 6 k xs ≡ 0
past k xs h = rw (drop_of_length-le xs h)

-- a slot behind the last link has no octets
pub none_behind : (xs : List ℕ) → count_fits xs ≡ true → all_of (λ l. eqb l 0) (drop (count_in xs) (links_of (links_in xs))) ≡ true
unfolding count_fits links_at all_tails
none_behind xs h =
    let k = both (leb (count_in xs) 4) _ h in
    go (count_in xs) (leb-true (count_in xs) 4 k.0) (eqb-true (length xs) (7 + 6 * count_in xs) k.1)
  where
    go : (n : ℕ) → n ≤ 4 → length xs ≡ 7 + 6 * n → all_of (λ l. eqb l 0) (drop n (links_of (links_in xs))) ≡ true
    go zero l e = rw (past 7 xs (omega arith), past 13 xs (omega arith), past 19 xs (omega arith), past 25 xs (omega arith))
    go (suc zero) l e = rw (past 13 xs (omega arith), past 19 xs (omega arith), past 25 xs (omega arith))
    go (suc (suc zero)) l e = rw (past 19 xs (omega arith), past 25 xs (omega arith))
    go (suc (suc (suc zero))) l e = rw (past 25 xs (omega arith))
    go (suc (suc (suc (suc n)))) l e = let z : n ≡ 0 = omega arith in rw z

-- what holds of 0 and of each link given holds in each slot
pub each_slot :
    (given P : ℕ → Bool) → P 0 ≡ true → ((l : ℕ) → given l ≡ true → P l ≡ true) → (n : ℕ) (ls : List ℕ) → all_of given (take n ls) ≡ true
    → all_of (λ l. eqb l 0) (drop n ls) ≡ true → all_of P ls ≡ true
unfolding all_tails
each_slot given P z k zero ls g h = all_weak (λ (l : ℕ). eqb l 0) P (λ l e. rw (eqb-true l 0 e) z) ls h
each_slot given P z k (suc n) [] g h = refl
each_slot given P z k (suc n) (l ∷ ls) g h = join (k l (both (given l) _ g).0) (each_slot given P z k n ls (both (given l) _ g).1 h)

-- the slots are filled from the first on
unfoldable standing : ℕ → ℕ → List ℕ → Bool
standing own before [] = true
standing own before (l ∷ ls) = slot_fits own before l && standing own l ls

all_stand :
    (own : ℕ) (given : ℕ → Bool) → ((l : ℕ) → given l ≡ true → (not (eqb l own) && valid_of l) ≡ true) → (n before : ℕ) (ls : List ℕ) → eqb before 0 ≡ false
    → all_of given (take n ls) ≡ true → all_of (λ l. eqb l 0) (drop n ls) ≡ true → standing own before ls ≡ true
unfolding all_tails standing slot_fits
all_stand own given k n before [] z g h = refl
all_stand own given k zero before (l ∷ ls) z g h =
    let e = both (eqb l 0) _ h in
    rw e.0 (behind ls l e.1)
  where
    behind : (ls : List ℕ) (b : ℕ) → all_of (λ l. eqb l 0) ls ≡ true → standing own b ls ≡ true
    behind [] b h = refl
    behind (l ∷ ls) b h = let e = both (eqb l 0) _ h in rw e.0 (behind ls l e.1)
all_stand own given k (suc n) before (l ∷ ls) z g h =
    let e = both (given l) _ g in
    let f = both (not (eqb l own)) _ (k l e.0) in
    let some = valid_named l f.1 in
    rw (some, z, f.0, f.1) (all_stand own given k n l ls some e.1 h)

stands_of : (own a : ℕ) (ls : Links) → standing own a (links_of ls) ≡ true → links_stand own a ls ≡ true
unfolding standing links_stand
stands_of own a ls h =
    let e = both (slot_fits own a ls.one) _ h in
    let f = both (slot_fits own ls.one ls.two) _ e.1 in
    let g = both (slot_fits own ls.two ls.three) _ f.1 in
    rw (e.0, f.0, g.0) (both (slot_fits own ls.three ls.four) _ g.1).0

-- ---- what refusal 3 asks

module _ (s : Settings) (t : List Record) (w : Well s t) (xs : List ℕ) where
  abbrev ads : List ℕ
  ads = addresses_of t

  abbrev device : ℕ
  device = device_in xs

  abbrev ls : Links
  ls = links_in xs

  abbrev allowed : Option ℕ → ℕ → Bool
  allowed at l = link_allowed s at (find_of ads l) (find_link_of t l) l

  pub record May (at : Option ℕ) : Type 0 where
    pub counts : count_fits xs ≡ true
    pub valid : valid_of device ≡ true
    pub own : not (eqb device s.own) ≡ true
    pub alone : find_link_of t device ≡ None
    pub distinct : distinct_of (device ∷ links_of ls) ≡ true
    pub given : all_of (allowed at) (given_in xs) ≡ true

  pub may_of : (at : Option ℕ) → may_link s t ads at xs ≡ true → May at
  unfolding may_link
  may_of at h =
      let a = both (count_fits xs) _ h in
      let b = both (valid_of device) _ a.1 in
      let c = both (not (eqb device s.own)) _ b.1 in
      let d = both (not (is_found (find_link_of t device))) _ c.1 in
      let e = both (distinct_of (device ∷ links_of ls)) _ d.1 in
      record {
        counts = a.0;
        valid = b.0;
        own = c.0;
        alone = unfound (find_link_of t device) (not-true _ d.0);
        distinct = e.0;
        given = e.1;
      }

  module _ (at : Option ℕ) (m : May at) where
    -- each slot has 0 or a link that is allowed
    every : (P : ℕ → Bool) → P 0 ≡ true → ((l : ℕ) → allowed at l ≡ true → P l ≡ true) → all_of P (links_of ls) ≡ true
    every P z k = each_slot (allowed at) P z k (count_in xs) (links_of ls) m.given (none_behind xs m.counts)

    stand : links_stand s.own device ls ≡ true
    unfolding link_allowed
    stand =
        stands_of s.own device ls
        (all_stand s.own (allowed at)
        (λ l e. let v = both (valid_of l) _ e in join {a = not (eqb l s.own)} (both (not (eqb l s.own)) _ v.1).0 v.0)
        (count_in xs) device (links_of ls) (valid_named device m.valid) m.given (none_behind xs m.counts))

    unused : (l : ℕ) → allowed at l ≡ true → (valid_of l ≡ true) × (used_elsewhere at (find_of ads l) (find_link_of t l) ≡ false)
    unfolding link_allowed
    unused l e = let v = both (valid_of l) _ e in (v.0, not-true _ (both (not (eqb l s.own)) _ v.1).1)

    -- no device has it ..
    named : all_of (λ l. alone_in l ads) (links_of ls) ≡ true
    unfolding alone_in used_elsewhere
    named = every (λ l. alone_in l ads) refl (λ l e.
        let u = unused l e in
        let none = unfound (find_of ads l) (or_left (is_found (find_of ads l)) _ u.1).0 in
        rw (valid_named l u.0) (first_none (λ (b : ℕ). eqb b l) ads 0 none))

    -- .. and no other record
    others : (i : ℕ) → ((l : ℕ) (j : ℕ) → find_link_of t l ≡ Some j → used_elsewhere at (find_of ads l) (Some j) ≡ false → j ≡ i) → all_of (λ l. alone_in l (link_addresses_of (set t i free_of))) (links_of ls) ≡ true
    unfolding alone_in
    others i here = every (λ l. alone_in l (link_addresses_of (set t i free_of))) refl (λ l e.
        let u = unused l e in
        let z = valid_named l u.0 in
        rw z (apart_links l (set t i free_of) (go l z u.1 (find_link_of t l) refl)))
      where
        go : (l : ℕ) → eqb l 0 ≡ false → used_elsewhere at (find_of ads l) (find_link_of t l) ≡ false → (link : Option ℕ) → find_link_of t l ≡ link
            → all_of (λ p. not (has_link l p)) (set t i free_of) ≡ true
        go l z u None e = all_set (λ (p : Record). not (has_link l p)) t i free_of (link_nowhere t l z e) (rw (free_without l z))
        go l z u (Some j) e =
            let same = here l j e (rw e at u) in
            only_here l z t i (apart_both (link_addresses_of t) ads w.apart).0 (rw same at (link_found t l j e).1)

  -- the device found at a place, and a new one
  abbrev turn_on : Record → Turn
  turn_on p = linking_of s p ls

  nobody : role_answers s.role ≡ false → true ≡ false → count_of associates t ≡ 0
  nobody r b = wrong (sym b)

  at_device : (i : ℕ) → May (Some i) → eqb s.role ap ≡ true → find_of ads device ≡ Some i → Well s (seated_of t i (turn_on (get_or t i free_of))).table
  unfolding linking_of turn_of linked_of used_elsewhere all_tails
  at_device i m role e =
      let p = get_or t i free_of in
      let fits = find_leads s t w device m.own m.valid (Some i) m.alone e in
      let stands : links_stand s.own p.address ls ≡ true = rw (found_address t device i e) (stand (Some i) m) in
      at_place s t w true nobody i (turn_on p) (linking_turns s p fits ls role stands true)
      (stored_apart t ads i (linked_of p ls) w.apart (both (alone_in device (links_of ls)) _ m.distinct).1
      (others (Some i) m i (λ l j g u. sym (eqb-true i j (not-false _ (or_left (is_found (find_of ads l)) _ u).1)))) (named (Some i) m))

  new_device : (i : ℕ) → May None → eqb s.role ap ≡ true → find_of ads device ≡ None → Well s (seated_of t i (turn_on (fresh_of device))).table
  unfolding linking_of turn_of linked_of fresh_of used_elsewhere all_tails alone_in
  new_device i m role e =
      let z = valid_named device m.valid in
      let leads = find_leads s t w device m.own m.valid None m.alone e in
      let d = both (alone_in device (links_of ls)) _ m.distinct in
      let f : ℕ → Bool = λ l. alone_in l (device ∷ []) in
      let apart-new : all_of (apart device) (links_of ls) ≡ true = rw z at d.0 in
      new_place s t w true nobody device i (turn_on (fresh_of device)) leads.0 (linking_turns s (fresh_of device) leads.2 ls role (stand None m) true)
      (stored_apart t ads i (linked_of (fresh_of device) ls) w.apart d.1
      (others None m i (λ l j g u. wrong (sym (or_left (is_found (find_of ads l)) _ u).1))) (named None m))
      (all_links f (set t i (linked_of (fresh_of device) ls))
      ∙ all_set (λ (p : Record). all_of f (links_of p.links)) t i (linked_of (fresh_of device) ls)
      (sym (all_links f t) ∙ apart_lone device (link_addresses_of t) leads.1) (apart_lone device (links_of ls) apart-new))

  pub linking :
      may_link s t ads (find_of ads device) xs ≡ true → eqb s.role ap ≡ true → (at : Option ℕ) → find_of ads device ≡ at → (free : Option ℕ)
      → Well s (turn_in t at free (turn_on (peer_of t at device)) (turn_on (peer_of t at device))).table
  unfolding newcomer_of stranger_of
  linking h role None e free = by_bool (starts_of (turn_on (fresh_of device))) (λ b. rw b (placed free)) (λ b. rw b w)
    where
      placed : (free : Option ℕ) → Well s (on_found free (stranger_of t (turn_on (fresh_of device))) (λ i. seated_of t i (turn_on (fresh_of device)))).table
      placed None = w
      placed (Some i) = new_device i (may_of None (rw e at h)) role e
  linking h role (Some i) e free = at_device i (may_of (Some i) (rw e at h)) role e

-- ---- the rule, as what may be named and whether each link is allowed

pub may_both :
    (s : Settings) (t : List Record) (ads : List ℕ) (at : Option ℕ) (xs : List ℕ) (m : Bool)
    → m ≡ (count_fits xs && (valid_of (device_in xs) && (not (eqb (device_in xs) s.own) && (not (is_found (find_link_of t (device_in xs))) && distinct_of (device_in xs ∷ links_of (links_in xs))))))
    → may_link s t ads at xs ≡ (m && all_of (λ l. link_allowed s at (find_of ads l) (find_link_of t l) l) (given_in xs))
unfolding may_link
may_both s t ads at xs m e = rw e (last (count_fits xs) (valid_of (device_in xs)) (not (eqb (device_in xs) s.own)) (not (is_found (find_link_of t (device_in xs)))) _ _)
  where
    last : (a b c d e f : Bool) → (a && (b && (c && (d && (e && f))))) ≡ ((a && (b && (c && (d && e)))) && f)
    last true true true true e f = refl
    last true true true false e f = refl
    last true true false d e f = refl
    last true false c d e f = refl
    last false b c d e f = refl
