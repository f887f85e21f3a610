-- 02, K2: "What both editions share is proved once over the edition." Of the whole table: the edition and the flag are looked at for a rejection
-- of ours and (02, K5) for a (re)association request of a peer in State 4, and for nothing else; in a role that asks, for nothing at all.
--     steps_alike, written-alike  every event but these two: the same table, answer and octets in any edition
--     asking-alike                in a role that asks every event
-- Assumes nothing.
use Prim.Native.Nat.{ℕ, ◌+◌}
use mathlib.Core.Path.{◌≡◌, refl}
use mathlib.Core.Bool.{Bool, true, false}
use mathlib.Core.List.{List, [], ◌∷◌, map}
use lib.Dec.{eqb}
use lib.ListN.{length}
use borrow.Author.Tests.{eqb-true, not-true}
use Rattle.octets.proofs.Branch.{by_bool}
use Rattle.octets.specs.Sort.{class_by}
use Rattle.octets.specs.declared.sort.Sort.{Sort}
use Rattle.octets.specs.declared.heard.Heard.{Heard}
use Rattle.peer.specs.Fit.{links_fit, place_fits, query_allowed, query_fits, query_stands, record_fits, running_fits}
use Rattle.peer.specs.Refuse.{one, role_allowed}
use Rattle.peer.specs.Hear.{hear_of}
use Rattle.peer.specs.Turn.{linking_of, turn_of}
use Rattle.peer.specs.Settings.{ap, network_fits, query_times_fit, role_asks, role_associates, settings_fit}
use Rattle.peer.proofs.Editions.{rejects}
use Rattle.peer.proofs.EditionsAlike.{asks_alike, full_alike, hears_alike, in_edition, may_be_forged, station_hears_alike, ticks_alike}
use Rattle.peer.proofs.Fits.{both}
use Rattle.peer.specs.declared.settings.Settings.{Settings}
use Rattle.peer.specs.declared.query.Query.{Query}
use Rattle.peer.specs.declared.query.Query.TheVariants as query
use Rattle.peer.specs.declared.record.Record.{Record}
use Rattle.table.specs.Fit.{sparse_of, well_formed}
use Rattle.table.specs.Others.{others_of}
use Rattle.table.specs.Places.{addresses_of, all_of, all_tails, find_of, seek_of}
use Rattle.table.specs.Read.{read_of}
use Rattle.table.specs.Receive.{heard_at, heard_from, received_of}
use Rattle.table.specs.Ask.{asked_at, asked_of, may_ask}
use Rattle.table.specs.Link.{link_allowed, linked_at, linked_of, may_link}
use Rattle.table.specs.Pass.{after_of, clocked_of, passed_in, passed_of, reports_of}
use Rattle.table.specs.Refusals.{first_of, unless}
use Rattle.table.specs.Seat.{aid_of, peer_of}
use Rattle.table.specs.Step.{step_in, step_of}
use Rattle.table.specs.declared.rules.answer.Met.{Met}
use Rattle.table.specs.declared.rules.event.Event.{Event}
use Rattle.table.specs.declared.rules.event.Event.TheVariants as event
use Rattle.table.specs.declared.rules.read.Reading.{Reading}
use Rattle.table.specs.declared.rules.read.Reading.TheVariants.{Refused, Discarded, Admitted, From}
use Rattle.table.proofs.Theorems.Editions.{site}

-- 02, K5: "a (re)association request from a peer in State 4", as a frame is read
abbrev pub forged_in : List Record → Reading → Bool
forged_in t (Refused n) = false
forged_in t Discarded = false
forged_in t Admitted = false
forged_in t (From peer group k h) = may_be_forged (peer_of t (seek_of t (addresses_of t) peer) peer) h

-- Such a frame; or, "when an AP answers anything but success", the event of primitive 7 or 8 with a status other than 0.
abbrev pub edition_asked : Settings → List Record → Event → List ℕ → Bool
edition_asked s t event.Frame xs = forged_in t (read_of s.own (role_associates s.role) xs)
edition_asked s t (event.Ask q a c) xs = rejects q c
edition_asked s t event.Links xs = false
edition_asked s t (event.Clock d) xs = false

-- who asks is no AP
no_ap : (role : ℕ) → role_asks role ≡ true → eqb role ap ≡ false
unfolding role_asks
no_ap role asks = not-true (eqb role ap) asks

-- "primitive not for this role", 5, and the first that applies
not_for_askers : (role q c : ℕ) → role_asks role ≡ true → rejects q c ≡ true → role_allowed q role ≡ false
unfolding role_allowed
not_for_askers role q c asks r =
    let no = no_ap role asks in
    by_bool (eqb q 7) (λ e. rw (eqb-true q 7 e, no)) (λ e. rw (eqb-true q 8 (rw e at (both (one q 7 8) _ r).0), no))

barred :
    (m : Bool) (rest others : List (ℕ × Bool)) (t : List Record) (x y : Met)
    → unless (first_of ((3, m) ∷ (5, true) ∷ rest)) t x ≡ unless (first_of ((3, m) ∷ (5, true) ∷ others)) t y
unfolding unless first_of
barred true rest others t x y = refl
barred false rest others t x y = refl

module _ (s : Settings) (edition protection : ℕ) (fit : settings_fit (in_edition s edition protection) ≡ settings_fit s) where
  abbrev other : Settings
  other = in_edition s edition protection

  query_alike : (state : ℕ) (q : Query) → query_fits other state q ≡ query_fits s state q
  unfolding in_edition running_fits query_stands
  query_alike state query.None = refl
  query_alike state (query.Running left due) = refl
  query_alike state query.TimedOut = refl

  place_alike : (p : Record) → place_fits other p ≡ place_fits s p
  unfolding in_edition place_fits record_fits query_allowed links_fit
  place_alike p = rw (query_alike p.state p.query)

  places_alike : (t : List Record) → all_of (place_fits other) t ≡ all_of (place_fits s) t
  unfolding all_tails
  places_alike [] = refl
  places_alike (p ∷ ps) = rw (place_alike p, places_alike ps)

  well_alike : (t : List Record) → well_formed other t ≡ well_formed s t
  unfolding in_edition well_formed sparse_of
  well_alike t = rw (fit, places_alike t)

  -- where a peer's turn is the same, so is what the frame is met with
  turn_alike :
      (t : List Record) (peer : ℕ) (group : Bool) (k : Sort) (h : Heard)
      → hear_of other (peer_of t (seek_of t (addresses_of t) peer) peer) (class_by k) group h ≡ hear_of s (peer_of t (seek_of t (addresses_of t) peer) peer) (class_by k) group h
      → heard_at other t (addresses_of t) (From peer group k h) ≡ heard_at s t (addresses_of t) (From peer group k h)
  unfolding heard_from
  turn_alike t peer group k h e = rw (e, full_alike s edition protection (peer_of t (seek_of t (addresses_of t) peer) peer))

  read_alike : (t : List Record) (r : Reading) → forged_in t r ≡ false → heard_at other t (addresses_of t) r ≡ heard_at s t (addresses_of t) r
  read_alike t (Refused n) e = refl
  read_alike t Discarded e = refl
  read_alike t Admitted e = refl
  read_alike t (From peer group k h) e =
      turn_alike t peer group k h (hears_alike s edition protection (peer_of t (seek_of t (addresses_of t) peer) peer) (class_by k) group h e)

  received_alike :
      (t : List Record) (xs : List ℕ) (n : ℕ) → heard_at other t (addresses_of t) (read_of s.own (role_associates s.role) xs) ≡ heard_at s t (addresses_of t) (read_of s.own (role_associates s.role) xs)
      → received_of other t xs n ≡ received_of s t xs n
  unfolding in_edition received_of
  received_alike t xs n e = rw (well_alike t, e)

  reports_alike : (d n : ℕ) (t : List Record) → reports_of other d n t ≡ reports_of s d n t
  unfolding reports_of
  reports_alike d n [] = refl
  reports_alike d n (p ∷ ps) = rw (ticks_alike s edition protection p d, reports_alike d (n + 1) ps)

  clocked_alike : (d : ℕ) (t : List Record) → map (after_of other d) t ≡ map (after_of s d) t
  clocked_alike d [] = refl
  clocked_alike d (p ∷ ps) = λ i. (ticks_alike s edition protection p d i).peer ∷ clocked_alike d ps i

  passed_alike : (t : List Record) (d n : ℕ) → passed_of other t d n ≡ passed_of s t d n
  unfolding passed_of clocked_of
  passed_alike t d n = rw (well_alike t, clocked_alike d t, reports_alike d 0 t)

  asked_alike : (t : List Record) (q a c n : ℕ) → rejects q c ≡ false → asked_of other t q a c n ≡ asked_of s t q a c n
  unfolding in_edition asked_of asked_at others_of may_ask
  asked_alike t q a c n r =
      let at = find_of (addresses_of t) a in
      rw (well_alike t, asks_alike s edition protection (peer_of t at a) (aid_of at) (others_of s t) q c r)

  linked_alike : (t : List Record) (xs : List ℕ) (n : ℕ) → linked_of other t xs n ≡ linked_of s t xs n
  unfolding in_edition linked_of linked_at may_link link_allowed linking_of turn_of
  linked_alike t xs n = rw (well_alike t)

  -- No event looks at the edition or the flag but these two: neither the table, nor the answer, nor what is written.
  pub steps_alike :
      (t : List Record) (e : Event) (xs : List ℕ) (n : ℕ) → edition_asked s t e xs ≡ false → step_of other t e xs n ≡ step_of s t e xs n
  steps_alike t event.Frame xs n r = rw (received_alike t xs n (read_alike t (read_of s.own (role_associates s.role) xs) r))
  steps_alike t (event.Ask q a c) xs n r = rw (asked_alike t q a c n r)
  steps_alike t event.Links xs n r = rw (linked_alike t xs n)
  steps_alike t (event.Clock d) xs n r = passed_alike t d n

  pub written_alike :
      (t : List Record) (e : Event) (xs l : List ℕ) → edition_asked s t e xs ≡ false → step_in other t e xs l ≡ step_in s t e xs l
  unfolding passed_in
  written_alike t event.Frame xs l r = rw (received_alike t xs (length l) (read_alike t (read_of s.own (role_associates s.role) xs) r))
  written_alike t (event.Ask q a c) xs l r = rw (asked_alike t q a c (length l) r)
  written_alike t event.Links xs l r = rw (linked_alike t xs (length l))
  written_alike t (event.Clock d) xs l r = rw (well_alike t, reports_alike d 0 t)

  -- Who asks answers no (re)association request, and refuses primitives 7 and 8, so there it holds of every event.
  module _ (asks : role_asks s.role ≡ true) where
    asking_read : (t : List Record) (r : Reading) → heard_at other t (addresses_of t) r ≡ heard_at s t (addresses_of t) r
    asking_read t (Refused n) = refl
    asking_read t Discarded = refl
    asking_read t Admitted = refl
    asking_read t (From peer group k h) =
        turn_alike t peer group k h (station_hears_alike s edition protection (peer_of t (seek_of t (addresses_of t) peer) peer) (no_ap s.role asks) (class_by k) group h)

    asking_asked : (t : List Record) (q a c n : ℕ) → asked_of other t q a c n ≡ asked_of s t q a c n
    unfolding in_edition asked_of asked_at others_of may_ask
    asking_asked t q a c n = by_bool (rejects q c) refused (asked_alike t q a c n)
      where
        refused : rejects q c ≡ true → asked_of other t q a c n ≡ asked_of s t q a c n
        refused r =
            let away = not_for_askers s.role q c asks r in
            let x : asked_at other t (addresses_of t) q a c ≡ asked_at s t (addresses_of t) q a c = rw away (barred _ _ _ t _ _) in
            rw (well_alike t, x)

    pub asking_alike : (t : List Record) (e : Event) (xs : List ℕ) (n : ℕ) → step_of other t e xs n ≡ step_of s t e xs n
    asking_alike t event.Frame xs n = rw (received_alike t xs n (asking_read t (read_of s.own (role_associates s.role) xs)))
    asking_alike t (event.Ask q a c) xs n = rw (asking_asked t q a c n)
    asking_alike t event.Links xs n = steps_alike t event.Links xs n refl
    asking_alike t (event.Clock d) xs n = steps_alike t (event.Clock d) xs n refl

-- ---- For one: a station in the two editions, and a peer of an ad hoc network, asked for what they refuse.

same_at_station : step_of (in_edition (site 2 1 0) 2 1) [] (event.Ask 7 4 1) [] 37 ≡ step_of (site 2 1 0) [] (event.Ask 7 4 1) [] 37
unfolding in_edition settings_fit query_times_fit network_fits role_asks role_associates
same_at_station = asking_alike (site 2 1 0) 2 1 refl refl [] (event.Ask 7 4 1) [] 37

same_ad_hoc : step_of (in_edition (site 3 1 0) 2 1) [] (event.Ask 7 4 1) [] 37 ≡ step_of (site 3 1 0) [] (event.Ask 7 4 1) [] 37
unfolding in_edition settings_fit query_times_fit network_fits role_asks role_associates
same_ad_hoc = asking_alike (site 3 1 0) 2 1 refl refl [] (event.Ask 7 4 1) [] 37
