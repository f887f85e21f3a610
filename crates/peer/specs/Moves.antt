-- The moves of a state, and what the distribution system is told of them.
-- Assumes nothing.
use Rattle.std.specs.Prelude.{ℕ, ◌==◌, nat_lt}
use Rattle.octets.specs.Pick.{pick}
use Rattle.peer.specs.Settings.{ap}
use Rattle.peer.specs.declared.moves.Move.TheVariants.{Authenticate, Deauthenticate, Drop, Join, Keep, Lower, Secure}
use Rattle.peer.specs.declared.moves.Move.{Move}

-- The state after each move. Nothing else changes a state but the freeing of a place.
abbrev pub moved_of : ℕ → ℕ → Move → ℕ
moved_of rsna state Keep = state
-- "status 0 moves State 1 to 2, others kept"
moved_of rsna state Authenticate = pick (state == 1) 2 state
-- "Deauthentication in State 2-4: State 1"
moved_of rsna state Deauthenticate = 1
-- "Disassociation ..: State 2"; "Other status: State 2"; "any other record in State 3 or 4 goes to State 2"; "the others set State 2"
moved_of rsna state Drop = 2
-- 02, K2: "moves State 4 to 3 only"
moved_of rsna state Lower = pick (state == 4) 3 state
-- "State 3 if RSNA required, else 4"
moved_of rsna state Join = pick (rsna == 1) 3 4
-- "State 3 to 4; State 4 kept"
moved_of rsna state Secure = pick (state == 3) 4 state

-- What the distribution system is told.
abbrev pub ds_none : ℕ
ds_none = 0

abbrev pub ds_joined : ℕ
ds_joined = 1

abbrev pub ds_left : ℕ
ds_left = 2

-- "An AP also tells the distribution system "joined" when a state rises from 1-2 to 3-4, "left" when it falls back."
unfoldable pub ds_of : ℕ → ℕ → ℕ → ℕ
ds_of role before after =
    pick (role == ap)
    (pick (nat_lt before 3) (pick (nat_lt after 3) ds_none ds_joined) (pick (nat_lt after 3) ds_left ds_none))
    ds_none
