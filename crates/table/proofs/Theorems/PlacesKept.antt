-- 01, "Errors that look right": "Freeing a place at deauthentication: AIDs then depend on others." A place that holds a peer keeps its address
-- under every event but a clock step, so nothing else frees a place, or gives one away.
-- Assumes nothing.
use Prim.Native.Nat.{ℕ, ◌-◌}
use mathlib.Core.Path.{◌≡◌, refl, sym, ◌∙◌}
use mathlib.Core.Bool.{Bool, true, false, not}
use mathlib.Core.List.{List, [], ◌∷◌, map}
use native.Mathlib.Omega.{arith}
use lib.Dec.{eqb, ltb}
use lib.ListN.{get_or, set}
use lib.Seq.{get_or-set_other, set-get_or}
use Rattle.octets.proofs.Branch.{by_bool, pick_both}
use Rattle.octets.specs.Frame.{longest}
use Rattle.octets.specs.Links.{unlinked}
use Rattle.octets.specs.Sort.{class_by}
use Rattle.peer.proofs.ErrorsThatLookRight.{ask_kept, hear_kept}
use Rattle.peer.proofs.Fits.{clash, wrong}
use Rattle.peer.proofs.Links.{parted_links}
use Rattle.peer.specs.Association.{parted_of}
use Rattle.peer.specs.Record.{free_of, linked_of as withLinks}
use Rattle.peer.specs.Turn.{linking_of, towards_of, turn_of}
use Rattle.peer.specs.declared.exchange.Exchange.TheVariants.{None}
use Rattle.peer.specs.declared.query.Query.TheVariants as query
use Rattle.peer.specs.declared.record.Record.{Record}
use Rattle.peer.specs.Settings.{role_associates}
use Rattle.peer.specs.declared.settings.Settings.{Settings}
use Rattle.peer.specs.declared.turn.Turn.{Turn}
use Rattle.table.specs.Answer.{refused_of, settled_of, stepped_of}
use Rattle.table.specs.Ask.{asked_at, asked_of}
use Rattle.table.specs.Fit.{well_formed}
use Rattle.table.specs.Link.{device_in, linked_at, linked_of}
use Rattle.table.specs.Order.{address_of}
use Rattle.table.specs.Others.{others_of}
use Rattle.table.specs.Places.{addresses_of, find_of, seek_of}
use Rattle.table.specs.Read.{read_of}
use Rattle.table.specs.Receive.{heard_at, heard_from, received_of}
use Rattle.table.specs.Refusals.{unless}
use Rattle.table.specs.Seat.{aid_of, newcomer_of, peer_of, seated_of, starts_of, stranger_of, turn_in}
use Rattle.table.specs.Step.{step_of}
use Rattle.table.specs.declared.rules.answer.Met.{Met}
use Rattle.std.specs.Prelude.{Option}
use Rattle.std.specs.declared.option.Option.TheVariants as option
use Rattle.table.specs.declared.rules.read.Reading.TheVariants.{Admitted, Discarded, From, Refused}
use Rattle.table.specs.declared.rules.read.Reading.{Reading}
use Rattle.table.specs.declared.rules.event.Event.TheVariants as event
use Rattle.table.specs.declared.rules.event.Event.{Event}
use Rattle.table.proofs.Passes.Lists.{first_at, get_map, map_same, map_set}

abbrev pub is_clock : Event → Bool
is_clock event.Frame = false
is_clock (event.Ask q a c) = false
is_clock event.Links = false
is_clock (event.Clock d) = true

-- the statement: every role, every rule, in a table of any kind
abbrev pub PlaceKept : Type 0
PlaceKept =
    (s : Settings) (t : List Record) (e : Event) (xs : List ℕ) (n : ℕ) → is_clock e ≡ false → (i : ℕ) → eqb (get_or t i free_of).address 0 ≡ false
    → (get_or (step_of s t e xs n).table i free_of).address ≡ (get_or t i free_of).address

-- what is shown of each step, over the addresses place for place
abbrev Stays : List Record → Met → Type 0
Stays t m = (i : ℕ) → eqb (get_or (addresses_of t) i 0) 0 ≡ false → get_or (addresses_of m.table) i 0 ≡ get_or (addresses_of t) i 0

module _ (t : List Record) where
  seated_addresses : (j : ℕ) (turn : Turn) → addresses_of (seated_of t j turn).table ≡ set (addresses_of t) j turn.peer.address
  unfolding seated_of
  seated_addresses j turn = by_bool turn.sole
      (λ e. rw (e, map_set address_of (map parted_of t) j turn.peer, map_same address_of parted_of (λ p. (parted_links p).0) t))
      (λ e. rw (e, map_set address_of t j turn.peer))

  -- in a place found by its address
  at_place : (j : ℕ) (turn : Turn) → turn.peer.address ≡ (get_or t j free_of).address → Stays t (seated_of t j turn)
  at_place j turn e i z =
      rw (seated_addresses j turn, e ∙ sym (get_map address_of t j free_of), set-get_or (addresses_of t) j 0)

  -- in a place found free, which no peer held
  new_place : (j : ℕ) (turn : Turn) → find_of (addresses_of t) 0 ≡ option.Some j → Stays t (seated_of t j turn)
  new_place j turn e i z = rw (seated_addresses j turn) (get_or-set_other (addresses_of t) j i turn.peer.address 0 other)
    where
      empty : eqb (get_or (addresses_of t) j 0) 0 ≡ true
      empty = let at_j : j - 0 ≡ j = omega arith in rw at_j at (first_at (λ (b : ℕ). eqb b 0) 0 (addresses_of t) 0 j e).1

      other : i ≡ j → ⊥
      other q = clash empty (rw q at z)

  in_turn :
      (a : ℕ) (at free : Option ℕ) (turn full : Turn) → find_of (addresses_of t) 0 ≡ free → turn.peer.address ≡ (peer_of t at a).address
      → Stays t (turn_in t at free turn full)
  unfolding newcomer_of stranger_of
  in_turn a option.None option.None turn full f e = pick_both (Stays t) (starts_of turn) (λ i z. refl) (λ i z. refl)
  in_turn a option.None (option.Some j) turn full f e = pick_both (Stays t) (starts_of turn) (new_place j turn f) (λ i z. refl)
  in_turn a (option.Some j) free turn full f e = at_place j turn e

  module _ (s : Settings) where
    heard : (r : Reading) → Stays t (heard_at s t (addresses_of t) r)
    unfolding refused_of settled_of heard_from towards_of
    heard (Refused n) = λ i z. refl
    heard Discarded = λ i z. refl
    heard Admitted = λ i z. refl
    heard (From peer group k h) =
        in_turn peer (seek_of t (addresses_of t) peer) (find_of (addresses_of t) 0) _ _ refl
        (hear_kept s (peer_of t (seek_of t (addresses_of t) peer) peer) (class_by k) group h)

    frame_stays : (xs : List ℕ) (n : ℕ) → Stays t (received_of s t xs n)
    unfolding received_of refused_of settled_of
    frame_stays xs n =
        pick_both (Stays t) (ltb n longest) (λ i z. refl)
        (pick_both (Stays t) (not (well_formed s t)) (λ i z. refl) (heard (read_of s.own (role_associates s.role) xs)))

    unless_stays : (n : ℕ) (m : Met) → Stays t m → Stays t (unless n t m)
    unfolding unless refused_of settled_of
    unless_stays n m k = pick_both (Stays t) (eqb n 0) k (λ i z. refl)

    primitive_stays : (q a c n : ℕ) → Stays t (asked_of s t q a c n)
    unfolding asked_of asked_at towards_of
    primitive_stays q a c n = unless_stays _ _ (unless_stays _ _
        (in_turn a (find_of (addresses_of t) a) (find_of (addresses_of t) 0) _ _ refl
        (ask_kept s (peer_of t (find_of (addresses_of t) a) a) (aid_of (find_of (addresses_of t) a)) (others_of s t) q c)))

    links_stay : (xs : List ℕ) (n : ℕ) → Stays t (linked_of s t xs n)
    unfolding linked_of linked_at linking_of turn_of withLinks
    links_stay xs n = unless_stays _ _ (unless_stays _ _
        (in_turn (device_in xs) (find_of (addresses_of t) (device_in xs)) (find_of (addresses_of t) 0) _ _ refl refl))

-- from the addresses to the records
placed : (t u : List Record) → ((i : ℕ) → eqb (get_or (addresses_of t) i 0) 0 ≡ false → get_or (addresses_of u) i 0 ≡ get_or (addresses_of t) i 0)
    → (i : ℕ) → eqb (get_or t i free_of).address 0 ≡ false → (get_or u i free_of).address ≡ (get_or t i free_of).address
placed t u k i z = sym (get_map address_of u i free_of) ∙ k i (rw (get_map address_of t i free_of) z) ∙ get_map address_of t i free_of

pub place_kept : PlaceKept
unfolding stepped_of
place_kept s t event.Frame xs n c i z = placed t (received_of s t xs n).table (frame_stays t s xs n) i z
place_kept s t (event.Ask q a d) xs n c i z = placed t (asked_of s t q a d n).table (primitive_stays t s q a d n) i z
place_kept s t event.Links xs n c i z = placed t (linked_of s t xs n).table (links_stay t s xs n) i z
place_kept s t (event.Clock d) xs n c i z = wrong (sym c)

-- For one: a peer in State 4 at place 0 of an access point, deauthenticated from our own side.
abbrev ours : Settings
ours = record { own = 2; network = 0; authentication = 100; association = 100; role = 1; rsna = 0; edition = 1; protection = 0; retry = 201; maximum = 1000 }

abbrev peer : Record
peer = record { address = 4; state = 4; exchange = None; left = 0; hold = 0; query = query.None; identifier = 0; links = unlinked }

peer_stays : (get_or (step_of ours (peer ∷ []) (event.Ask 3 4 1) [] 37).table 0 free_of).address ≡ 4
peer_stays = place_kept ours (peer ∷ []) (event.Ask 3 4 1) [] 37 refl 0 refl
