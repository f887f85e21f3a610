-- A record by itself, its links apart: it fits where it would without links (`bare_of`), and its links fit; so all places of a table.
-- Assumes nothing.
use Prim.Native.Nat.{ℕ, ◌+◌, ◌≤◌}
use mathlib.Core.Path.{◌≡◌, refl, sym, ◌∙◌}
use mathlib.Core.Bool.{Bool, true, false, not, ◌&&◌, ◌||◌}
use mathlib.Core.List.{List, [], ◌∷◌}
use lib.Dec.{eqb, leb}
use lib.ListN.{length}
use Rattle.octets.specs.Address.{valid_of}
use Rattle.octets.specs.Links.{no_links, unlinked}
use Rattle.octets.specs.Row.{linkless_at, row_at}
use Rattle.octets.proofs.Branch.{by_bool}
use Rattle.octets.proofs.RowTrip.{linkless_row, row_linkless}
use Rattle.peer.proofs.Fits.{clash}
use Rattle.peer.specs.Fit.{exchange_fits, highest_state, hold_fits, links_fit, links_stand, place_fits, query_allowed, record_fits}
use Rattle.peer.specs.Record.{is_free, linked_of}
use Rattle.peer.specs.Settings.{ap}
use Rattle.peer.specs.declared.record.Record.{Record}
use Rattle.peer.specs.declared.settings.Settings.{Settings}
use Rattle.table.specs.Places.{all_tails, all_of}
use Rattle.table.specs.Rows.{record_of}
use Rattle.table.proofs.Passes.Loops.{and_false, and_true}
use Rattle.table.proofs.Walks.LinkLists.{free_unlinked}

-- a record without its links
abbrev pub bare_of : Record → Record
bare_of p = linked_of p unlinked

abbrev pub bare_fits : Settings → Record → Bool
bare_fits s p = is_free p || record_fits s (bare_of p)

pub record_both : (s : Settings) (p : Record) → record_fits s p ≡ (record_fits s (bare_of p) && links_fit s p)
unfolding record_fits linked_of query_allowed links_fit no_links
record_both s p =
    apart_last (leb 1 p.state) (leb p.state (highest_state s.role)) (not (eqb p.address s.own)) (valid_of p.address) (hold_fits s.role p.hold)
    (exchange_fits p.exchange s.role p.state p.left) (query_allowed s p) (links_fit s p)
  where
    apart_last : (a b c d e f g l : Bool) → (a && (b && (c && (d && (e && (f && (g && l))))))) ≡ ((a && (b && (c && (d && (e && (f && (g && true))))))) && l)
    apart_last false b c d e f g l = refl
    apart_last true false c d e f g l = refl
    apart_last true true false d e f g l = refl
    apart_last true true true false e f g l = refl
    apart_last true true true true false f g l = refl
    apart_last true true true true true false g l = refl
    apart_last true true true true true true g l = rw (and_true g)

without : (s : Settings) (p : Record) → p.links ≡ unlinked → links_fit s p ≡ true
unfolding links_fit no_links
without s p e = rw e

pub place_both : (s : Settings) (p : Record) → place_fits s p ≡ (bare_fits s p && links_fit s p)
unfolding place_fits
place_both s p = by_bool (is_free p)
    (λ f. rw f (sym (without s p (free_unlinked p f))))
    (λ f. rw f (record_both s p))

-- of all places
pub all_both : (s : Settings) (t : List Record) → all_of (place_fits s) t ≡ (all_of (bare_fits s) t && all_of (links_fit s) t)
unfolding all_tails
all_both s [] = refl
all_both s (p ∷ ps) =
    rw (place_both s p, all_both s ps) (swap (bare_fits s p) (links_fit s p) (all_of (bare_fits s) ps) (all_of (links_fit s) ps))
  where
    swap : (a b c d : Bool) → ((a && b) && (c && d)) ≡ ((a && c) && (b && d))
    swap true true c d = refl
    swap true false c d = sym (and_false c)
    swap false b c d = refl

-- a row's links, by its octets
pub linkless_links : (k : ℕ) (xs : List ℕ) → k + 48 ≤ length xs → linkless_at k xs ≡ no_links (row_at k xs).links
unfolding no_links
linkless_links k xs h = by_bool (linkless_at k xs)
    (λ q. q ∙ rw (linkless_row k xs q))
    (λ q. by_bool (no_links (row_at k xs).links) (λ n. clash (row_linkless k xs h n) q) (λ n. q ∙ sym n))

pub links_by : (s : Settings) (k : ℕ) (xs : List ℕ) → k + 48 ≤ length xs → (plain : Bool) → plain ≡ linkless_at k xs
    → links_fit s (record_of (row_at k xs)) ≡ (plain || (eqb s.role ap && links_stand s.own (row_at k xs).address (row_at k xs).links))
unfolding links_fit record_of
links_by s k xs h plain e = rw (e, linkless_links k xs h)
