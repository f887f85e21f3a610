-- The refusals of primitive 12, worded over the table as a whole (specs/Exactly.antt), are those that the rule asks: in a well-formed table no
-- address leads to two records.
-- Assumes nothing.
use Prim.Native.Nat.{ℕ, suc, ◌+◌, ◌*◌}
use mathlib.Core.Path.{◌≡◌, refl, sym, ◌∙◌}
use mathlib.Core.Bool.{Bool, true, false, not, ◌&&◌, ◌||◌}
use mathlib.Core.List.{List, [], ◌∷◌}
use lib.Dec.{eqb, ltb, leb}
use lib.ListN.{length}
use borrow.Author.Tests.{le-ltb, leb-false, leb-true, lt-ltb, not-false, not-true}
use Rattle.octets.proofs.Branch.{by_bool}
use Rattle.octets.specs.Address.{valid_of}
use Rattle.octets.specs.Frame.{longest}
use Rattle.octets.specs.Links.{links_of}
use Rattle.peer.proofs.Fits.{both, or_left, wrong}
use Rattle.peer.specs.Record.{fresh_of}
use Rattle.peer.specs.declared.record.Record.{Record}
use Rattle.peer.specs.declared.settings.Settings.{Settings}
use Rattle.table.specs.Exactly as exactly
use Rattle.table.specs.Exactly.{elsewhere, not_to_be_linked, twice, unfit_address}
use Rattle.table.specs.Fit.{apart, distinct_of, well_formed}
use Rattle.table.specs.Link.{count_fits, count_in, device_in, given_in, link_allowed, link_refusals, links_in, may_link, used_elsewhere}
use Rattle.table.specs.Places.{addresses_of, all_of, all_tails, find_link_of, find_of, has_link, is_found, some_of}
use Rattle.table.specs.Refusals.{first_of}
use Rattle.table.specs.Seat.{peer_of}
use Rattle.std.specs.Prelude.{Option}
use Rattle.table.proofs.Passes.LinkLaws.{all_weak, link_some}
use Rattle.table.proofs.Passes.Lists.{join}
use Rattle.table.proofs.Theorems.LinkKeeps.{none_behind}
use Rattle.table.proofs.Theorems.WordedElsewhere.{distinct_twice, elsewhere_same, none_some, turn_eqb}
use Rattle.table.proofs.Theorems.Worded.{Facts, facts, has_peer, has_record}
use Rattle.table.proofs.Theorems.WordedRecords.{some_free, valid_named}

-- ---- 3

module _ (s : Settings) (t : List Record) (w : Facts s t) (xs : List ℕ) where
  abbrev device : ℕ
  device = device_in xs

  abbrev at : Option ℕ
  at = find_of (addresses_of t) device

  abbrev allowed : ℕ → Bool
  allowed l = link_allowed s at (find_of (addresses_of t) l) (find_link_of t l) l

  count_same : (ltb 4 (count_in xs) || not (eqb (length xs) (7 + 6 * count_in xs))) ≡ not (count_fits xs)
  unfolding count_fits
  count_same = by_bool (leb (count_in xs) 4)
      (λ e. rw (e, le-ltb 4 (count_in xs) (leb-true _ 4 e)))
      (λ e. rw (e, lt-ltb 4 (count_in xs) (leb-false _ 4 e)))

  -- each given link by itself, where it is not the device's address
  given_same : eqb device 0 ≡ false → (l : ℕ) → eqb l device ≡ false → allowed l ≡ not (unfit_address s l || elsewhere t device l)
  unfolding link_allowed
  given_same z l other = by_bool (valid_of l)
      (λ v. by_bool (eqb l s.own) (λ o. rw (v, o)) (λ o. rw (v, o, elsewhere_same s t w device z l (valid_named l v) other)))
      (λ v. rw v)

  all_given :
      eqb device 0 ≡ false → (ls : List ℕ) → all_of (apart device) ls ≡ true → all_of allowed ls ≡ not (some_of (unfit_address s) ls || some_of (elsewhere t device) ls)
  unfolding all_tails some_of
  all_given z [] h = refl
  all_given z (l ∷ ls) h =
      let k = both (apart device l) _ h in
      rw (given_same z l (not-true _ k.0), all_given z ls k.1) (regroup (unfit_address s l) (elsewhere t device l) (some_of (unfit_address s) ls) (some_of (elsewhere t device) ls))
    where
      regroup : (a b c d : Bool) → (not (a || b) && not (c || d)) ≡ not ((a || c) || (b || d))
      regroup true b c d = refl
      regroup false true true d = refl
      regroup false true false d = refl
      regroup false false true d = refl
      regroup false false false d = refl

  fit_named : (ls : List ℕ) → some_of (unfit_address s) ls ≡ false → all_of (λ l. not (eqb l 0)) ls ≡ true
  fit_named ls h =
      all_weak (λ (l : ℕ). not (unfit_address s l)) (λ l. not (eqb l 0))
      (λ l e. rw (valid_named l (not-false _ (or_left (not (valid_of l)) _ (not-true _ e)).0))) ls (none_some (unfit_address s) ls h)

  -- where some given link is unfit, not all are allowed
  unfit_barred : (ls : List ℕ) → some_of (unfit_address s) ls ≡ true → all_of allowed ls ≡ false
  unfolding all_tails some_of link_allowed
  unfit_barred [] h = wrong h
  unfit_barred (l ∷ ls) h = by_bool (valid_of l)
      (λ v. by_bool (eqb l s.own) (λ o. rw (v, o)) (λ o. later (not (used_elsewhere at (find_of (addresses_of t) l) (find_link_of t l))) v o (unfit_barred ls (rw (v, o) at h))))
      (λ v. rw v)
    where
      later : (u : Bool) → valid_of l ≡ true → eqb l s.own ≡ false → all_of allowed ls ≡ false → ((valid_of l && (not (eqb l s.own) && u)) && all_of allowed ls) ≡ false
      later true v o e = rw (v, o, e)
      later false v o e = rw (v, o)

  abbrev given : List ℕ
  given = given_in xs

  -- the device is fit, and the count
  fit_same :
      count_fits xs ≡ true → unfit_address s device ≡ false
      → (some_of (unfit_address s) given || (twice (device ∷ given) || (some_of (elsewhere t device) given || some_of (has_link device) t)))
      ≡ not (not (is_found (find_link_of t device)) && (distinct_of (device ∷ links_of (links_in xs)) && all_of allowed given))
  unfolding twice all_tails
  fit_same counts fit =
      by_bool (some_of (unfit_address s) given)
      (λ u. rw (u, unfit_barred given u) (no_both (is_found (find_link_of t device)) (distinct_of (device ∷ links_of (links_in xs)))))
      (λ u.
      let all = join {a = not (eqb device 0)} (rw z) (fit_named given u) in
      let same : distinct_of (device ∷ links_of (links_in xs)) ≡ not (twice (device ∷ given)) = distinct_twice (suc (count_in xs)) (device ∷ links_of (links_in xs)) all (none_behind xs counts) in
      rw (u, same, link_some t device z) (by_bool (twice (device ∷ given))
      (λ d. rw d (no_distinct (is_found (find_link_of t device))))
      (λ d.
      let alone = none_some (eqb device) given (or_left (some_of (eqb device) given) _ d).0 in
      let others = all_weak (λ (l : ℕ). not (eqb device l)) (apart device) (λ l e. rw (turn_eqb l device) e) given alone in
      rw (d, all_given z given others, u) (last (some_of (elsewhere t device) given) (is_found (find_link_of t device))))))
    where
      z : eqb device 0 ≡ false
      z = valid_named device (not-false _ (or_left (not (valid_of device)) _ fit).0)

      no_both : (a b : Bool) → true ≡ not (not a && (b && false))
      no_both true b = refl
      no_both false true = refl
      no_both false false = refl

      no_distinct : (a : Bool) → true ≡ not (not a && false)
      no_distinct true = refl
      no_distinct false = refl

      last : (a b : Bool) → (a || b) ≡ not (not b && not a)
      last true true = refl
      last true false = refl
      last false true = refl
      last false false = refl

  pub links_same : not_to_be_linked s t xs ≡ not (may_link s t (addresses_of t) at xs)
  unfolding may_link some_of
  links_same = shift (ltb 4 (count_in xs)) (not (eqb (length xs) (7 + 6 * count_in xs))) _ ∙ rw count_same (by_bool (count_fits xs)
      (λ c. rw c (by_bool (unfit_address s device)
      (λ u. rw u (unfit (valid_of device) (eqb device s.own) _ u))
      (λ u. rw u (fit_same c u ∙ fit (valid_of device) (eqb device s.own) _ u))))
      (λ c. rw c))
    where
      shift : (a b c : Bool) → (a || (b || c)) ≡ ((a || b) || c)
      shift true b c = refl
      shift false b c = refl

      unfit : (v o c : Bool) → (not v || o) ≡ true → true ≡ not (v && (not o && c))
      unfit true true c e = refl
      unfit true false c e = wrong e
      unfit false o c e = refl

      fit : (v o c : Bool) → (not v || o) ≡ false → not c ≡ not (v && (not o && c))
      fit true true c e = wrong (sym e)
      fit true false c e = refl
      fit false o c e = wrong (sym e)

-- ---- the list of primitive 12

abbrev pub ruled_links_at : Settings → List Record → List ℕ → List ℕ → List (ℕ × Bool)
ruled_links_at s t ads xs =
    let at = find_of ads (device_in xs) in
    link_refusals s (peer_of t at (device_in xs)) (may_link s t ads at xs) at (find_of ads 0) (count_in xs)

abbrev pub ruled_links : Settings → List Record → List ℕ → ℕ → List (ℕ × Bool)
ruled_links s t xs n = (1, ltb n longest) ∷ (2, not (well_formed s t)) ∷ ruled_links_at s t (addresses_of t) xs

pub worded_links : (s : Settings) (t : List Record) (xs : List ℕ) (n : ℕ) → first_of (exactly.link_refusals s t xs n) ≡ first_of (ruled_links s t xs n)
unfolding first_of may_link fresh_of
worded_links s t xs n =
    by_bool (ltb n longest) (λ e. rw e) (λ e.
    by_bool (well_formed s t) (λ f.
    let w = facts s t f in
    rw (e, f, links_same s t w xs) (by_bool (may_link s t (addresses_of t) (find_of (addresses_of t) (device_in xs)) xs) (λ g.
    let valid : valid_of (device_in xs) ≡ true = (both (valid_of (device_in xs)) _ (both (count_fits xs) _ g).1).0 in
    rw (g, has_peer s t w (device_in xs) valid (λ (p : Record). not (eqb p.state 1)) refl, has_record s t w (device_in xs) valid, some_free s t 0 w.places))
    (λ g. rw g)))
    (λ f. rw (e, f)))
