-- A peer's turn in the table: "A peer without a record counts as State 1. New records take the lowest free place."
-- Assumes nothing.
use Rattle.std.specs.Prelude.{ℕ, ◌+◌, Bool, not, ◌||◌, List, map, ltb, eqb, get_or, set, Option}
use Rattle.octets.specs.Links.{no_links}
use Rattle.octets.specs.Pick.{pick}
use Rattle.peer.specs.Record.{fresh_of, free_of, under_way}
use Rattle.peer.specs.Association.{parted_of}
use Rattle.peer.specs.declared.record.Record.{Record}
use Rattle.peer.specs.declared.turn.Turn.{Turn}
use Rattle.table.specs.Places.{on_found}
use Rattle.table.specs.Answer.{turn_answer}
use Rattle.table.specs.declared.rules.answer.Met.{Met}
use Rattle.table.specs.declared.rules.seat.Change.{Change}

-- The table with a record stored at a place, after every record in State 3 or 4 was put to State 2 where it is so.
abbrev pub stored_in : List Record → Bool → ℕ → Record → List Record
stored_in t sole i p = set (pick sole (map parted_of t) t) i p

-- A table with a change.
unfoldable pub met_of : List Record → Change → Met
met_of t c =
    record {
      table = on_found c.place t (λ i. stored_in t c.sole i c.peer);
      answer = c.answer;
      reply = c.reply;
    }

-- The record of a peer, by the place where its address was found; a fresh one where it has none.
abbrev pub peer_of : List Record → Option ℕ → ℕ → Record
peer_of t at a = on_found at (fresh_of a) (λ i. get_or t i free_of)

-- "An AP gives AID = place + 1 (house)." (A place is below 32.)
abbrev pub aid_of : Option ℕ → ℕ
aid_of at = on_found at 0 (λ i. pick (ltb i 32) (i + 1) 0)

-- The record at place i goes to what the turn says; where the turn says so, any other record in State 3 or 4 goes to State 2.
unfoldable pub seated_of : List Record → ℕ → Turn → Met
seated_of t i turn =
    record {
      table = stored_in t turn.sole i turn.peer;
      answer = turn_answer turn turn.peer.state;
      reply = turn.reply;
    }

-- A peer that has no record and gets none shows state 0.
unfoldable pub stranger_of : List Record → Turn → Met
stranger_of t turn = record { table = t; answer = turn_answer turn 0; reply = turn.reply }

-- A record is made for an authentication asked or sent, the only turns that leave a stranger with an exchange, and for links named (02, K11).
unfoldable pub starts_of : Turn → Bool
starts_of turn = not (eqb (under_way turn.peer.exchange) 0) || not (no_links turn.peer.links)

unfoldable pub newcomer_of : List Record → Option ℕ → Turn → Turn → Met
newcomer_of t free turn full =
    pick (starts_of turn) (on_found free (stranger_of t full) (λ i. seated_of t i turn)) (stranger_of t turn)

abbrev pub turn_in : List Record → Option ℕ → Option ℕ → Turn → Turn → Met
turn_in t at free turn full = on_found at (newcomer_of t free turn full) (λ i. seated_of t i turn)
