-- What one pass over records by value finds, and that well-formedness follows from it.
-- Assumes nothing.
use mathlib.Core.Path.{◌≡◌, sym, ◌∙◌}
use mathlib.Core.Bool.{Bool, ◌&&◌, ◌||◌}
use mathlib.Core.List.{List, ◌∷◌}
use Prim.Native.Nat.{ℕ, ◌+◌, ◌-◌, ◌<◌, ◌≤◌}
use native.Mathlib.Omega.{arith}
use lib.Dec.{leb}
use lib.ListN.{length, drop, get_or, set, length-map, length-set, get_or-map}
use lib.Seq.{drop-set-lt, get_or-set_same}
use Rattle.peer.specs.Fit.{place_fits}
use Rattle.peer.specs.Record.{free_of}
use Rattle.peer.specs.Settings.{role_answers, settings_fit}
use Rattle.peer.specs.declared.settings.Settings.{Settings}
use Rattle.peer.specs.declared.record.Record.{Record}
use Rattle.table.specs.Places.{all_of, addresses_of, link_addresses_of}
use Rattle.table.specs.Others.{associated_of}
use Rattle.table.specs.Fit.{crowd_of, distinct_of, links_apart, sparse_of, well_formed}
use Rattle.table.specs.declared.records.fit.View.{View}
use Rattle.table.proofs.Passes.Loops.{left_end, left_step}

-- what a pass finds
abbrev pub Sees : Settings → List Record → View → Type 0
Sees s t v = (v.fit ≡ all_of (place_fits s) t) × (v.crowd ≡ crowd_of t) × (v.associated ≡ associated_of t) × (v.addresses ≡ addresses_of t)

pub well_of : (s : Settings) (t : List Record) (v : View) → Sees s t v → (b : Bool)
    → b ≡ (settings_fit s && (v.fit && (distinct_of v.addresses && (links_apart (link_addresses_of t) v.addresses && (role_answers s.role || (leb v.crowd.joined 1 && leb v.crowd.associating 1)))))) → b ≡ well_formed s t
unfolding well_formed sparse_of
well_of s t v h b e = e ∙ rw (h.0, h.1, h.3)

-- The addresses of the places from i on are written down.
pub record Named (t : List Record) (addresses : List ℕ) (i : ℕ) : Type 0 where
  pub wide : length addresses ≡ 32
  pub same : drop i addresses ≡ drop i (addresses_of t)

pub named_none : (t : List Record) (addresses : List ℕ) → length t ≡ 32 → length addresses ≡ 32 → Named t addresses 32
named_none t addresses h k =
    record {
      wide = k;
      same = left_end (λ l. l) addresses 32 (omega (arith, k)) ∙ sym (left_end (λ l. l) (addresses_of t) 32 (rw (length-map t (λ p. p.address)) (omega (arith, h))));
    }

-- one place more: p its record
pub named_more : (t : List Record) (addresses : List ℕ) (i : ℕ) → length t ≡ 32 → i ≤ 32 → Named t addresses i → 0 < i → (p : Record) → p ≡ get_or t (i - 1) free_of
    → Named t (set addresses (i - 1) p.address) (i - 1)
named_more t addresses i long low v z p e =
    let next : i - 1 + 1 ≡ i = omega arith in
    let inside : i - 1 < length t = omega (arith, long, low) in
    let inside' : i - 1 < length addresses = omega (arith, v.wide, low) in
    let behind : drop i (set addresses (i - 1) p.address) ≡ drop i addresses = drop-set-lt i addresses (i - 1) p.address (omega arith) in
    let mine : drop (i - 1) (set addresses (i - 1) p.address) ≡ p.address ∷ drop i addresses =
    left_step (λ l. l) (set addresses (i - 1) p.address) (i - 1) 0 (rw (length-set addresses (i - 1) p.address) inside') ∙ rw (next, behind, get_or-set_same addresses (i - 1) p.address 0 inside') in
    let theirs : drop (i - 1) (addresses_of t) ≡ p.address ∷ drop i (addresses_of t) =
    left_step (λ l. l) (addresses_of t) (i - 1) free_of.address (rw (length-map t (λ p. p.address)) inside) ∙ rw (next, get_or-map (λ (p : Record). p.address) t (i - 1) free_of, ← e) in
    record { wide = length-set addresses (i - 1) p.address ∙ v.wide; same = mine ∙ rw v.same (sym theirs) }
