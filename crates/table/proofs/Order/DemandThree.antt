-- Demand 3: at an access point, and in an ad hoc network, the order between different peers' events does not matter. The rules of a role that
-- answers have the laws of `Local`, so that AnyOrder gives the theorem.
-- Assumes nothing.
use Prim.Native.Nat.{ℕ, ◌<◌}
use mathlib.Core.Path.{◌≡◌, refl, sym, ap, ◌∙◌}
use mathlib.Core.Bool.{true}
use mathlib.Core.Option.{Option, some}
use mathlib.Core.List.{List, map}
use lib.ListN.{length, get_or, set}
use lib.Seq.{set-get_or}
use Rattle.octets.specs.declared.links.Links.{Links}
use Rattle.peer.specs.Settings.{role_answers}
use Rattle.peer.specs.Record.{free_of}
use Rattle.peer.specs.declared.settings.Settings.{Settings}
use Rattle.peer.specs.declared.record.Record.{Record}
use Rattle.table.specs.Order.{Moved, Named, SameOutcome, Gets, Handed, happens, event_of, octets_of, Whole, peer_named, address_of, OrderFree}
use Rattle.table.proofs.Order.AnyOrder.{Local, any_order, coarser}
use Rattle.table.proofs.Order.NamedPeer.{named_same, names}
use Rattle.table.proofs.Order.OwnTurn.{acts, alone, alone_same, next, said, same_of, stays}
use Rattle.table.proofs.Passes.Lists.{get_map, map_set}
use Rattle.table.proofs.Theorems.StepKeeps.{step_keeps_answering}

-- What holds of every table on the way: it is well formed, and its records are known by the addresses and links of those at the start, so that an
-- event names the same peer throughout.
module _ (s : Settings) (role : role_answers s.role ≡ true) (t : List Record) where
  abbrev OnTheWay : List Record → Type 0
  OnTheWay u = Whole s u × (map names u ≡ map names t)

  acts_on : (u : List Record) (e : Handed) (i : ℕ) → OnTheWay u → i < length u → peer_named s t e ≡ some (address_of (get_or u i free_of)) → happens s u e ≡ (set u i (next s i (get_or u i free_of) e), said s i (get_or u i free_of) e)
  acts_on u e i w h k = acts s role u e i w.0 h (named_same t u w.1 s e ∙ k)

  -- the law `keeps`: each step keeps the table well formed, and its 32 records
  keeps : (u : List Record) (e : Handed) (i : ℕ) → OnTheWay u → i < length u → peer_named s t e ≡ some (address_of (get_or u i free_of)) → OnTheWay (happens s u e).0
  unfolding happens
  keeps u e i w h k =
      let p = get_or u i free_of in
      let table : (happens s u e).0 ≡ set u i (next s i p e) = ap (λ (r : List Record × Gets). r.0) (acts_on u e i w h k) in (
        step_keeps_answering s role u w.0.0 w.0.1 (event_of e.coming) (octets_of e.coming) (length e.out),
        ap (map names) table ∙ map_set names u i (next s i p e) ∙ rw (same_of s i p e.coming ∙ sym (get_map names u i free_of)) (set-get_or (map names u) i (names free_of)) ∙ w.1,
      )

  local : Local free_of address_of (peer_named s t) OnTheWay (happens s) (next s) (said s) (alone s t)
  local =
      record {
        keeps = keeps;
        acts = acts_on;
        same = λ i p e. ap (λ (n : ℕ × Links). n.0) (same_of s i p e.coming);
        stays = λ u e w k. stays s role u e w.0 (named_same t u w.1 s e ∙ k) ∙ (λ i. (u, alone_same s t u w.1 e i));
      }

-- Demand 3, for every settings: "the end table is the same place for place, and every event gets the same answer and the same bytes".
pub demand_3 : (s : Settings) → OrderFree s
demand_3 s t l₁ l₂ to from role w named moved =
    any_order free_of address_of (peer_named s t) (OnTheWay s role t) (happens s) (next s) (said s) (alone s t) (local s role t) t (w, refl) l₁ l₂ to from moved named

-- However else what an event names is read, so long as no less is named: more is then asked of the rearrangement, and the outcome is the same.
pub demand_3_coarser : (s : Settings) (t : List Record) (wide : Handed → Option ℕ) → ((e : Handed) (a : ℕ) → peer_named s t e ≡ some a → wide e ≡ some a) → (l₁ l₂ : List Handed) (to from : ℕ → ℕ) → role_answers s.role ≡ true → Whole s t → Named free_of address_of wide t l₁ → Moved wide l₁ l₂ to from → SameOutcome (happens s) t l₁ l₂ to
demand_3_coarser s t wide h l₁ l₂ to from role w named moved =
    demand_3 s t l₁ l₂ to from role w (λ k e a p q. named k e a p (h e a q)) (coarser (peer_named s t) wide h l₁ l₂ to from moved)
