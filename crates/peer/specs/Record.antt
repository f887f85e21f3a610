-- 01, Settings, table, clock: a peer's record.
-- Assumes nothing.
use Rattle.std.specs.Prelude.{ℕ, ◌+◌, Bool, true, false, ◌&&◌, ◌==◌, nat_le}
use Rattle.octets.specs.Links.{no_links, unlinked}
use Rattle.octets.specs.Pick.{pick}
use Rattle.octets.specs.declared.heard.Kind.TheVariants.{Association, Authentication, Reassociation}
use Rattle.octets.specs.declared.heard.Kind.{Kind}
use Rattle.octets.specs.declared.links.Links.{Links}
use Rattle.peer.specs.Query.{query_in, query_number}
use Rattle.peer.specs.declared.query.Query.TheVariants as query
use Rattle.peer.specs.declared.query.Query.{Query}
use Rattle.peer.specs.declared.exchange.Exchange.TheVariants.{Asked, Awaiting, None, Sent}
use Rattle.peer.specs.declared.exchange.Exchange.{Exchange}
use Rattle.peer.specs.declared.record.Record.{Record}

-- kind (1 authentication, 2 association, 3 reassociation)
abbrev pub kind_of : Kind → ℕ
kind_of Authentication = 1
kind_of Association = 2
kind_of Reassociation = 3

-- The number of the kind of exchange that is asked; awaits its acknowledgement; was sent; is under way at all. 0 where none is.
abbrev pub asked_of : Exchange → ℕ
asked_of None = 0
asked_of (Asked k) = kind_of k
asked_of (Awaiting k) = 0
asked_of (Sent k) = 0

abbrev pub awaiting_of : Exchange → ℕ
awaiting_of None = 0
awaiting_of (Asked k) = 0
awaiting_of (Awaiting k) = kind_of k
awaiting_of (Sent k) = 0

abbrev pub sent_of : Exchange → ℕ
sent_of None = 0
sent_of (Asked k) = 0
sent_of (Awaiting k) = 0
sent_of (Sent k) = kind_of k

abbrev pub under_way : Exchange → ℕ
under_way None = 0
under_way (Asked k) = kind_of k
under_way (Awaiting k) = kind_of k
under_way (Sent k) = kind_of k

-- Whether an exchange of a kind is asked; was sent.
abbrev pub is_asked : Kind → Exchange → Bool
is_asked k e = asked_of e == kind_of k

abbrev pub is_sent : Kind → Exchange → Bool
is_sent k e = sent_of e == kind_of k

-- One number for an exchange, where a table is shown: 0 none, 1 to 3 asked, 4 to 6 awaiting acknowledgement, 7 to 9 sent.
abbrev pub exchange_number : Exchange → ℕ
exchange_number None = 0
exchange_number (Asked k) = kind_of k
exchange_number (Awaiting k) = 3 + kind_of k
exchange_number (Sent k) = 6 + kind_of k

-- The exchange of a number, and none where it is no exchange's.
unfoldable pub exchange_of : ℕ → Exchange
exchange_of n =
    pick (n == 1) (Asked Authentication)
    (pick (n == 2) (Asked Association)
    (pick (n == 3) (Asked Reassociation)
    (pick (n == 4) (Awaiting Authentication)
    (pick (n == 5) (Awaiting Association)
    (pick (n == 6) (Awaiting Reassociation)
    (pick (n == 7) (Sent Authentication)
    (pick (n == 8) (Sent Association)
    (pick (n == 9) (Sent Reassociation) None))))))))

abbrev pub is_associating : Kind → Bool
is_associating Authentication = false
is_associating Association = true
is_associating Reassociation = true

-- State 3 or 4
unfoldable pub is_joined : Record → Bool
is_joined p = nat_le 3 p.state

-- a (re)association is under way
unfoldable pub associates : Record → Bool
associates p = nat_le (kind_of Association) (under_way p.exchange)

-- "a fresh record has one fixed form: State 1, no exchange, times zero"; 02, K5: "The identifier starts at 0", and no query runs;
-- 02, K11: it has no links
unfoldable pub fresh_of : ℕ → Record
fresh_of a = record { address = a; state = 1; exchange = None; left = 0; hold = 0; query = query.None; identifier = 0; links = unlinked }

-- "A free place is all zero."
abbrev pub free_of : Record
free_of = record { address = 0; state = 0; exchange = None; left = 0; hold = 0; query = query.None; identifier = 0; links = unlinked }

unfoldable pub is_free : Record → Bool
is_free p =
    (p.address == 0) && (p.state == 0
    && (p.left == 0
    && (p.hold == 0
    && (p.identifier == 0
    && (query_number p.query == 0
    && (no_links p.links
    && under_way p.exchange == 0))))))

-- The record of the same peer with another state, exchange and times. 02, K5: "Leaving State 4 clears both", the query and the mark: here, and
-- nowhere else; the identifier "is kept in the record".
unfoldable pub changed_of : Record → ℕ → Exchange → ℕ → ℕ → Record
changed_of p state e left hold =
    record {
      address = p.address;
      state = state;
      exchange = e;
      left = left;
      hold = hold;
      query = query_in state p.query;
      identifier = p.identifier;
      links = p.links;
    }

-- The same record with another query: "the record else untouched".
unfoldable pub queried_of : Record → Query → ℕ → Record
queried_of p q identifier =
    record {
      address = p.address;
      state = p.state;
      exchange = p.exchange;
      left = p.left;
      hold = p.hold;
      query = q;
      identifier = identifier;
      links = p.links;
    }

-- The same record with other links. 02, K11: "another count replaces them"
unfoldable pub linked_of : Record → Links → Record
linked_of p ls =
    record {
      address = p.address;
      state = p.state;
      exchange = p.exchange;
      left = p.left;
      hold = p.hold;
      query = p.query;
      identifier = p.identifier;
      links = ls;
    }

-- 02, K11: "frames asked by a primitive to the first link (none: the device)"
unfoldable pub spoken_at : Record → ℕ
spoken_at p = pick (p.links.one == 0) p.address p.links.one

-- "2 s is 1,953.125 TU." In whole TU, rounded up.
abbrev pub default_hold : ℕ
default_hold = 1954
