-- 01, "Primitives from our own side", in the table: "primitives 1, 2, 3, 5, 9, 7, 8, 6".
-- Assumes nothing.
use Rattle.std.specs.Prelude.{ℕ, Bool, true, false, not, ◌&&◌, ◌||◌, List, [], ◌∷◌, ltb, eqb, Option}
use Rattle.octets.specs.Address.{valid_of}
use Rattle.octets.specs.Frame.{longest}
use Rattle.peer.specs.Refuse.{code_allowed, role_allowed, conflict_of, mismatch_of, held_of}
use Rattle.peer.specs.Ask.{ask_of}
use Rattle.peer.specs.Record.{spoken_at}
use Rattle.peer.specs.Turn.{towards_of}
use Rattle.peer.specs.declared.settings.Settings.{Settings}
use Rattle.peer.specs.declared.record.Record.{Record}
use Rattle.peer.specs.declared.refuse.Others.{Others}
use Rattle.table.specs.Places.{on_found, is_found, addresses_of, find_of, find_link_of}
use Rattle.table.specs.Fit.{well_formed}
use Rattle.table.specs.Others.{others_of}
use Rattle.table.specs.Refusals.{first_of, unless}
use Rattle.table.specs.Seat.{peer_of, aid_of, turn_in}
use Rattle.table.specs.declared.rules.answer.Met.{Met}

-- 3: not "unknown primitive; peer address invalid or own; code not allowed"
unfoldable pub may_ask : Settings → ℕ → ℕ → ℕ → Bool
may_ask s q a c = code_allowed q c && (not (eqb a s.own) && valid_of a)

-- 6: "a new record is needed by a primitive and no place is free". "Only 1 makes a record."
unfoldable pub no_place : Option ℕ → Option ℕ → ℕ → Bool
no_place at free q = eqb q 1 && (on_found at true (λ i. false) && on_found free true (λ i. false))

-- The refusals after 1 and 2, for a peer with record p, found at a place or not, the lowest free place, and where its address is a link's.
-- 02, K11: "Primitives name the device"; "3 for .. a link address named in a primitive".
abbrev pub refusals_at : Settings → Record → Others → Option ℕ → Option ℕ → Option ℕ → ℕ → ℕ → ℕ → List (ℕ × Bool)
refusals_at s p o at free link q a c =
    (3, not (may_ask s q a c) || is_found link)
    ∷ (5, not (role_allowed q s.role))
    ∷ (9, conflict_of p o q)
    ∷ (7, mismatch_of p o q)
    ∷ (8, held_of p q)
    ∷ (6, no_place at free q)
    ∷ []

-- A primitive to a peer with record p, once 1 and 2 do not apply. The second turn of `turn_in` is that of a newcomer for whom no place is
-- free; of a primitive it is not needed, as refusal 6 came first, and the one turn stands for both.
-- 02, K11: "frames asked by a primitive to the first link (none: the device)".
abbrev pub asked_by : Settings → List Record → Record → Others → Option ℕ → Option ℕ → Option ℕ → ℕ → ℕ → ℕ → Met
asked_by s t p o at free link q a c =
    let turn = towards_of (spoken_at p) (ask_of s (aid_of at) p o q c) in
    unless (first_of (refusals_at s p o at free link q a c)) t (turn_in t at free turn turn)

-- The same with what a table with these addresses has of the peer: the place where it is found, its record, and the lowest free place.
unfoldable pub asked_at : Settings → List Record → List ℕ → ℕ → ℕ → ℕ → Met
asked_at s t ads q a c =
    let at = find_of ads a in
    asked_by s t (peer_of t at a) (others_of s t) at (find_of ads 0) (find_link_of t a) q a c

-- A primitive, lent a buffer of n octets.
unfoldable pub asked_of : Settings → List Record → ℕ → ℕ → ℕ → ℕ → Met
asked_of s t q a c n =
    unless (first_of ((1, ltb n longest) ∷ (2, not (well_formed s t)) ∷ [])) t
    (asked_at s t (addresses_of t) q a c)
