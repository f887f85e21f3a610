-- The refusals of a primitive, worded over the table as a whole (specs/Exactly.antt), are those that the rule asks of one record and of what
-- it knows of the others: in a well-formed table no address leads to two records, and a station has joined one at most.
-- Assumes nothing.
use Prim.Native.Nat.{ℕ, ◌≤◌}
use mathlib.Core.Path.{◌≡◌, refl, ap as apply, sym, ◌∙◌}
use mathlib.Core.Bool.{Bool, true, false, not, ◌&&◌, ◌||◌, or-false, not-not}
use mathlib.Core.List.{List, ◌∷◌}
use lib.Dec.{eqb, ltb, leb}
use borrow.Author.Tests.{le-ltb, leb-false, leb-true, lt-ltb, not-false}
use Rattle.octets.proofs.Branch.{and_right, by_bool}
use Rattle.octets.specs.Address.{valid_of}
use Rattle.octets.specs.Frame.{longest}
use Rattle.octets.specs.declared.heard.Kind.{Kind}
use Rattle.octets.specs.declared.heard.Kind.TheVariants.{Authentication, Association, Reassociation}
use Rattle.peer.proofs.Fits.{both, or_left}
use Rattle.peer.specs.Fit.{place_fits}
use Rattle.peer.specs.Query.{is_due}
use Rattle.peer.specs.Record.{associates, awaiting_of, fresh_of, is_asked, is_free, is_joined}
use Rattle.peer.specs.Refuse.{code_allowed, role_allowed, conflict_of, join_conflict, joined_elsewhere, mismatch_of, held_of}
use Rattle.peer.specs.Settings.{role_answers, settings_fit, station}
use Rattle.peer.specs.declared.record.Record.{Record}
use Rattle.peer.specs.declared.refuse.Others.{Others}
use Rattle.peer.specs.declared.settings.Settings.{Settings}
use Rattle.table.specs.Ask.{may_ask, no_place, refusals_at}
use Rattle.table.specs.Refusals.{first_of}
use Rattle.table.specs.Exactly.{peer_has, other_has, has_exchange, under_way_already, no_match, peer_held, no_room, ask_refusals}
use Rattle.table.specs.Fit.{crowd_of, distinct_of, links_apart, sparse_of, well_formed}
use Rattle.table.specs.Others.{others_of}
use Rattle.table.specs.Places.{addresses_of, all_of, count_of, find_link_of, find_of, is_found, link_addresses_of, on_found, some_of}
use Rattle.table.specs.Seat.{peer_of}
use Rattle.std.specs.Prelude.{Option, Some, None}
use Rattle.table.proofs.Passes.Lists.{first_none}
use Rattle.table.proofs.Theorems.Well.{found_address}
use Rattle.table.proofs.Theorems.WordedPrimitives.{by_number, roles_same, may_same}
use Rattle.table.proofs.Theorems.WordedRecords.{some_none, some_at, some_count, other_same, valid_named, some_free}

-- ---- 9, 7, 8 and 6, in a well-formed table

flip : (f : Option ℕ) → not (on_found f false (λ i. true)) ≡ on_found f true (λ i. false)
flip None = refl
flip (Some i) = refl

not_leb : (n : ℕ) → not (leb 3 n) ≡ ltb n 3
not_leb n = by_bool (leb 3 n)
    (λ e. rw (e, le-ltb n 3 (leb-true 3 n e)))
    (λ e. rw (e, lt-ltb n 3 (leb-false 3 n e)))

pub record Facts (s : Settings) (t : List Record) : Type 0 where
  pub places : all_of (place_fits s) t ≡ true
  pub distinct : distinct_of (addresses_of t) ≡ true
  pub apart : links_apart (link_addresses_of t) (addresses_of t) ≡ true
  pub joined : role_answers s.role ≡ false → count_of is_joined t ≤ 1

pub facts : (s : Settings) (t : List Record) → well_formed s t ≡ true → Facts s t
unfolding well_formed sparse_of crowd_of
facts s t h =
    let b = both (all_of (place_fits s) t) _ (both (settings_fit s) _ h).1 in
    let c = both (distinct_of (addresses_of t)) _ b.1 in
    let d = both (links_apart (link_addresses_of t) (addresses_of t)) _ c.1 in
    record {
      places = b.0;
      distinct = c.0;
      apart = d.0;
      joined = λ r. leb-true (count_of is_joined t) 1 (both (leb (count_of is_joined t) 1) _ (rw r at d.1)).0;
    }

module _ (s : Settings) (t : List Record) (w : Facts s t) (a : ℕ) (v : valid_of a ≡ true) where
  named : eqb a 0 ≡ false
  named = valid_named a v

  abbrev pub peer : Record
  peer = peer_of t (find_of (addresses_of t) a) a

  abbrev others : Others
  others = others_of s t

  peer_address : peer.address ≡ a
  unfolding fresh_of
  peer_address = go (find_of (addresses_of t) a) refl
    where
      go : (at : Option ℕ) → find_of (addresses_of t) a ≡ at → (peer_of t at a).address ≡ a
      go None e = refl
      go (Some i) e = found_address t a i e

  -- what some record of the peer's passes, the peer's record passes, where a fresh one does not
  pub has_peer : (f : Record → Bool) → f (fresh_of a) ≡ false → peer_has t a f ≡ f peer
  has_peer f none = go (find_of (addresses_of t) a) refl
    where
      go : (at : Option ℕ) → find_of (addresses_of t) a ≡ at → peer_has t a f ≡ f (peer_of t at a)
      go None e = some_none a f t (first_none (λ (b : ℕ). eqb b a) (addresses_of t) 0 e) ∙ sym none
      go (Some i) e = some_at a f named t i w.distinct (found_address t a i e)

  pub has_record : peer_has t a (λ p. true) ≡ on_found (find_of (addresses_of t) a) false (λ i. true)
  has_record = go (find_of (addresses_of t) a) refl
    where
      go : (at : Option ℕ) → find_of (addresses_of t) a ≡ at → peer_has t a (λ p. true) ≡ on_found at false (λ i. true)
      go None e = some_none a (λ p. true) t (first_none (λ (b : ℕ). eqb b a) (addresses_of t) 0 e)
      go (Some i) e = some_at a (λ p. true) named t i w.distinct (found_address t a i e)

  record Same (q : ℕ) : Type 0 where
    nine : under_way_already t q a ≡ conflict_of peer others q
    seven : no_match t q a ≡ mismatch_of peer others q
    eight : peer_held t q a ≡ held_of peer q
    six : no_room t q a ≡ no_place (find_of (addresses_of t) a) (find_of (addresses_of t) 0) q

  exchange_same : peer_has t a has_exchange ≡ has_exchange peer
  unfolding fresh_of
  exchange_same = has_peer has_exchange refl

  asked_same : (k : Kind) → not (peer_has t a (λ p. is_asked k p.exchange)) ≡ not (is_asked k peer.exchange)
  unfolding fresh_of
  asked_same Authentication = apply not (has_peer (λ (p : Record). is_asked Authentication p.exchange) refl)
  asked_same Association = apply not (has_peer (λ (p : Record). is_asked Association p.exchange) refl)
  asked_same Reassociation = apply not (has_peer (λ (p : Record). is_asked Reassociation p.exchange) refl)

  held_same : peer_has t a (λ p. ltb 0 p.hold) ≡ ltb 0 peer.hold
  unfolding fresh_of
  held_same = has_peer (λ (p : Record). ltb 0 p.hold) refl

  room_same : (not (peer_has t a (λ p. true)) && not (some_of is_free t)) ≡ (on_found (find_of (addresses_of t) a) true (λ i. false) && on_found (find_of (addresses_of t) 0) true (λ i. false))
  room_same = rw (has_record, some_free s t 0 w.places, flip (find_of (addresses_of t) a), flip (find_of (addresses_of t) 0))

  secure_same : not (peer_has t a is_joined) ≡ ltb peer.state 3
  unfolding is_joined fresh_of
  secure_same = apply not (has_peer is_joined refl) ∙ not_leb peer.state

  awaits_same : not (peer_has t a (λ p. not (eqb (awaiting_of p.exchange) 0))) ≡ eqb (awaiting_of peer.exchange) 0
  unfolding fresh_of
  awaits_same = apply not (has_peer (λ (p : Record). not (eqb (awaiting_of p.exchange) 0)) refl) ∙ not-not (eqb (awaiting_of peer.exchange) 0)

  due_same : not (peer_has t a (λ p. is_due p.query)) ≡ not (is_due peer.query)
  unfolding fresh_of
  due_same = apply not (has_peer (λ (p : Record). is_due p.query) refl)

  -- where the role answers nobody
  module _ (r : role_answers s.role ≡ false) where
    busy_same : some_of associates t ≡ others.busy
    unfolding others_of crowd_of
    busy_same = rw r (some_count associates t)

    join_same : (peer_has t a has_exchange || some_of associates t) ≡ join_conflict peer others
    unfolding join_conflict
    join_same = rw (exchange_same, busy_same)

    elsewhere_same : other_has t a is_joined ≡ joined_elsewhere peer others
    unfolding joined_elsewhere others_of
    elsewhere_same = rw (r, peer_address) (other_same s a t w.places (w.joined r))

  answers_none : eqb s.role station ≡ true → role_answers s.role ≡ false
  unfolding role_answers
  answers_none e = rw e

  abbrev Agree : ℕ → Type 0
  Agree q = role_allowed q s.role ≡ true → Same q

  agree : (q : ℕ) → Agree q
  unfolding role_allowed conflict_of mismatch_of held_of no_place
  agree =
      by_number Agree
      (λ r. record { nine = or-false _ ∙ exchange_same; seven = refl; eight = refl; six = room_same })
      (λ r. record { nine = refl; seven = or-false _ ∙ asked_same Authentication; eight = refl; six = refl })
      (λ r. record { nine = refl; seven = refl; eight = refl; six = refl })
      (λ r. record { nine = join_same (answers_none r); seven = or-false _ ∙ elsewhere_same (answers_none r); eight = held_same; six = refl })
      (λ r. record { nine = join_same (answers_none r); seven = refl; eight = held_same; six = refl })
      (λ r. record { nine = refl; seven = refl; eight = refl; six = refl })
      (λ r. record { nine = refl; seven = or-false _ ∙ asked_same Association; eight = refl; six = refl })
      (λ r. record { nine = refl; seven = or-false _ ∙ asked_same Reassociation; eight = refl; six = refl })
      (λ r. record { nine = refl; seven = or-false _ ∙ secure_same; eight = refl; six = refl })
      (λ r. record { nine = refl; seven = or-false _ ∙ awaits_same; eight = refl; six = refl })
      (λ r. record { nine = refl; seven = due_same; eight = refl; six = refl })
      (λ q o r. record {
        nine = simp (o.is1, o.is4, o.is5);
        seven = simp (o.is2, o.is4, o.is7, o.is8, o.is9, o.is10, o.is11);
        eight = simp (o.is4, o.is5);
        six = simp o.is1;
      })

-- ---- the list of a primitive

-- the rule's list after 1 and 2, in a table with these addresses
abbrev pub ruled_at : Settings → List Record → List ℕ → ℕ → ℕ → ℕ → List (ℕ × Bool)
ruled_at s t ads q a c =
    let at = find_of ads a in
    refusals_at s (peer_of t at a) (others_of s t) at (find_of ads 0) (find_link_of t a) q a c

abbrev pub ruled_list : Settings → List Record → ℕ → ℕ → ℕ → ℕ → List (ℕ × Bool)
ruled_list s t q a c n =
    (1, ltb n longest)
    ∷ (2, not (well_formed s t))
    ∷ ruled_at s t (addresses_of t) q a c

-- The first condition of the worded list that holds has the number of the first of the rule's.
pub worded : (s : Settings) (t : List Record) (q a c n : ℕ) → first_of (ask_refusals s t q a c n) ≡ first_of (ruled_list s t q a c n)
unfolding first_of may_ask
worded s t q a c n =
    by_bool (ltb n longest) (λ e. rw e) (λ e.
    by_bool (well_formed s t) (λ f.
    rw (e, f, may_same s t q a c) (by_bool (not (may_ask s q a c) || is_found (find_link_of t a)) (λ g. rw g) (λ g.
    let may = not-false _ (or_left (not (may_ask s q a c)) _ g).0 in
    rw (g, roles_same s.role q) (by_bool (role_allowed q s.role) (λ h.
    let valid : valid_of a ≡ true = and_right (not (eqb a s.own)) _ (and_right (code_allowed q c) _ may) in
    let k = agree s t (facts s t f) a valid q h in
    rw (h, k.nine, k.seven, k.eight, k.six))
    (λ h. rw h)))))
    (λ f. rw (e, f)))
