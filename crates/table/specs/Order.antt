-- Demand 3: a run over a list of events, what it is to move the events about, and that the outcome is the same.
-- The first part is for any rules: R is a record of the table, E an event with the buffer that it is handed, A what it gets. The second is
-- the rules of a role that answers. proofs/Order/DemandThree.antt proves `demand_3`.
-- Assumes nothing.
use Rattle.std.specs.Prelude.{ℕ, ◌<◌, ◌≡◌, true, not, ◌&&◌, List, [], ◌∷◌, ltb, length, get_or}
use Rattle.std.proofs.Math.Option.{Option, none, some}
use Rattle.std.proofs.Math.ListN.{get_elem?}
use Rattle.octets.specs.Pick.{pick}
use Rattle.octets.specs.Frame.{longest}
use Rattle.peer.specs.Settings.{role_answers, role_associates}
use Rattle.peer.specs.Record.{free_of}
use Rattle.peer.specs.Refuse.{role_allowed}
use Rattle.peer.specs.declared.settings.Settings.{Settings}
use Rattle.peer.specs.declared.record.Record.{Record}
use Rattle.table.specs.Places.{on_found, is_found, find_link_of}
use Rattle.table.specs.Fit.{well_formed}
use Rattle.table.specs.Read.{read_of}
use Rattle.table.specs.Ask.{may_ask}
use Rattle.table.specs.Step.{step_of, step_in}
use Rattle.table.specs.declared.rules.read.Reading.{Reading}
use Rattle.table.specs.declared.rules.read.Reading.TheVariants.{Refused, Discarded, Admitted, From}
use Rattle.table.specs.declared.rules.answer.Answer.{Answer}
use Rattle.table.specs.declared.rules.event.Event.{Event}
use Rattle.table.specs.declared.rules.event.Event.TheVariants as event

module _ {R E A : Type 0} (step : List R → E → List R × A) where
  -- The table after all events, one after the other.
  abbrev pub end : List R → List E → List R
  end t [] = t
  end t (e ∷ l) = end (step t e).0 l

  -- What each event gets, in the events' order.
  abbrev pub answers : List R → List E → List A
  answers t [] = []
  answers t (e ∷ l) = (step t e).1 ∷ answers (step t e).0 l

-- "Move the events about, but keep each peer's own events in order; events that name no valid peer may go anywhere."
-- l₂ is l₁ with its events moved about: `to k` is the place in l₂ of the event at place k of l₁, and `from` goes back. An event whose key is
-- `none` names no valid peer.
pub record Moved {E : Type 0} (key : E → Option ℕ) (l₁ l₂ : List E) (to from : ℕ → ℕ) : Type 0 where
  pub to_in : (k : ℕ) → k < length l₁ → to k < length l₂
  pub from_in : (k : ℕ) → k < length l₂ → from k < length l₁
  pub from_to : (k : ℕ) → k < length l₁ → from (to k) ≡ k
  pub to_from : (k : ℕ) → k < length l₂ → to (from k) ≡ k
  pub same_event : (k : ℕ) → k < length l₁ → get_elem? l₂ (to k) ≡ get_elem? l₁ k
  pub in_order : (j k : ℕ) (e f : E) (a : ℕ) → j < k → get_elem? l₁ j ≡ some e → get_elem? l₁ k ≡ some f → key e ≡ some a → key f ≡ some a → to j < to k

-- A record of the table has the address a.
abbrev pub Has : {R : Type 0} → R → (R → ℕ) → List R → ℕ → Type 0
Has d addr t a = (i : ℕ) × (i < length t) × (addr (get_or t i d) ≡ a)

-- "every peer named already has a record"
abbrev pub Named : {R E : Type 0} → R → (R → ℕ) → (E → Option ℕ) → List R → List E → Type 0
Named {E = E} d addr key t l = (k : ℕ) (e : E) (a : ℕ) → get_elem? l k ≡ some e → key e ≡ some a → Has d addr t a

-- "the end table is the same place for place, and every event gets the same answer and the same bytes": the event at place k, wherever it went
pub record SameOutcome {R E A : Type 0} (step : List R → E → List R × A) (t : List R) (l₁ l₂ : List E) (to : ℕ → ℕ) : Type 0 where
  pub table : end step t l₂ ≡ end step t l₁
  pub answer : (k : ℕ) → k < length l₁ → get_elem? (answers step t l₂) (to k) ≡ get_elem? (answers step t l₁) k

-- "events without clock steps": a frame's octets; or a primitive, with number, peer address and code
pub data Coming : Type 0 where
  frame : List ℕ → Coming
  primitive : ℕ → ℕ → ℕ → Coming

-- "each handed a buffer of its own"
pub record Handed : Type 0 where
  pub coming : Coming
  pub out : List ℕ

-- "the same answer and the same bytes"
pub record Gets : Type 0 where
  pub answer : Answer
  pub bytes : List ℕ

abbrev pub event_of : Coming → Event
event_of (frame xs) = event.Frame
event_of (primitive q a c) = event.Ask q a c

abbrev pub octets_of : Coming → List ℕ
octets_of (frame xs) = xs
octets_of (primitive q a c) = []

-- "By the rules of demand 2": the step that the code is proved equal to
unfoldable pub happens : Settings → List Record → Handed → List Record × Gets
happens s t e = (
  (step_of s t (event_of e.coming) (octets_of e.coming) (length e.out)).table,
  record {
    answer = (step_of s t (event_of e.coming) (octets_of e.coming) (length e.out)).answer;
    bytes = step_in s t (event_of e.coming) (octets_of e.coming) e.out;
  },
)

-- The peer that a frame names: Address 2, where the frame is read as far as that and it is valid.
abbrev pub read_peer : Reading → Option ℕ
read_peer (Refused n) = none
read_peer Discarded = none
read_peer Admitted = none
read_peer (From peer group k h) = some peer

-- 02, K11: "In demand 3 the peer is the device": the record that has the address among its links, else the address itself.
abbrev pub device_of : List Record → ℕ → ℕ
device_of t a = on_found (find_link_of t a) a (λ i. (get_or t i free_of).address)

abbrev pub device_named : List Record → Option ℕ → Option ℕ
device_named t none = none
device_named t (some a) = some (device_of t a)

-- The peer that a primitive names: its address, where neither 3 nor 5 refuses it.
abbrev pub coming_peer : Settings → List Record → Coming → Option ℕ
coming_peer s t (frame xs) = device_named t (read_peer (read_of s.own (role_associates s.role) xs))
coming_peer s t (primitive q a c) =
    pick (may_ask s q a c && not (is_found (find_link_of t a))) (pick (role_allowed q s.role) (some a) none) none

-- The valid peer that an event names, by the links in the table at the start; none, too, where its buffer is refused.
unfoldable pub peer_named : Settings → List Record → Handed → Option ℕ
peer_named s t e = pick (ltb (length e.out) longest) none (coming_peer s t e.coming)

abbrev pub address_of : Record → ℕ
address_of p = p.address

-- A well-formed table of 32 records.
abbrev pub Whole : Settings → List Record → Type 0
Whole s t = (well_formed s t ≡ true) × (length t ≡ 32)

-- Demand 3: "At an access point, take fixed settings, a well-formed table and a list of events without clock steps, each handed a buffer of its
-- own, where every peer named already has a record. Move the events about .. the end table is the same place for place, and every event gets
-- the same answer and the same bytes." 02, K10: "Demand 3 holds for role 3 too": for each role that answers. 02, K11: "the peer
-- is the device and primitive 12 is left out as the clock is".
abbrev pub OrderFree : Settings → Type 0
OrderFree s =
    (t : List Record) (l₁ l₂ : List Handed) (to from : ℕ → ℕ)
    → role_answers s.role ≡ true → Whole s t
    → Named free_of address_of (peer_named s t) t l₁
    → Moved (peer_named s t) l₁ l₂ to from
    → SameOutcome (happens s) t l₁ l₂ to
