-- The table as octets, as it crosses to a host: 32 rows of 48 octets. Octets to records, and back.
-- Assumes nothing.
use Rattle.std.specs.Prelude.{ℕ, zero, suc, ◌+◌, Bool, true, not, ◌&&◌, ◌||◌, List, [], ◌∷◌, ◌++◌, map, leb, eqb, length}
use Rattle.octets.specs.Links.{no_links}
use Rattle.octets.specs.Row.{row_at, row_octets}
use Rattle.octets.specs.declared.links.Links.{Links}
use Rattle.octets.specs.declared.row.Row.{Row}
use Rattle.peer.specs.Query.{query_left, query_number, query_of}
use Rattle.peer.specs.Record.{exchange_number, exchange_of}
use Rattle.peer.specs.declared.record.Record.{Record}
use Rattle.table.specs.Places.{some_of}

-- A row's record, and a record's row. They differ in the exchange and the query: a number, 0 to 9 and 0 to 3, and what it stands for.
unfoldable pub record_of : Row → Record
record_of r =
    record {
      address = r.address;
      state = r.state;
      exchange = exchange_of r.exchange;
      left = r.left;
      hold = r.hold;
      query = query_of r.query r.remaining;
      identifier = r.identifier;
      links = r.links;
    }

unfoldable pub row_of : Record → Row
row_of p =
    record {
      address = p.address;
      hold = p.hold;
      left = p.left;
      state = p.state;
      exchange = exchange_number p.exchange;
      identifier = p.identifier;
      remaining = query_left p.query;
      query = query_number p.query;
      links = p.links;
    }

-- Whether a query's number and what is left of it stand for a query: 0 to 3, and time is left of one that runs alone (1 and 2).
unfoldable pub query_numbered : ℕ → ℕ → Bool
query_numbered n left = leb n 3 && (eqb left 0 || (eqb n 1 || eqb n 2))

-- Whether a row's numbers stand for something: each exchange has one from 0 to 9.
unfoldable pub row_numbered : Row → Bool
row_numbered r = query_numbered r.query r.remaining && leb r.exchange 9

-- The n records from octet k on; whether each row has such numbers.
unfoldable pub records_at : ℕ → ℕ → List ℕ → List Record
records_at zero k xs = []
records_at (suc n) k xs = record_of (row_at k xs) ∷ records_at n (k + 48) xs

unfoldable pub numbered_at : ℕ → ℕ → List ℕ → Bool
numbered_at zero k xs = true
numbered_at (suc n) k xs = row_numbered (row_at k xs) && numbered_at n (k + 48) xs

-- Octets to records ..
abbrev pub records_of : List ℕ → List Record
records_of xs = records_at 32 0 xs

-- .. and back.
unfoldable pub octets_of : List Record → List ℕ
octets_of [] = []
octets_of (p ∷ ps) = row_octets (row_of p) ++ octets_of ps

-- Whether octets are a table at all: 1536, and the numbers of each exchange and query stand for one. Any other is refusal 2.
unfoldable pub is_table : List ℕ → Bool
is_table xs = eqb (length xs) 1536 && numbered_at 32 0 xs

-- The links of each record.
abbrev pub links_over : List Record → List Links
links_over t = map (λ (p : Record). p.links) t

-- Whether any record has links: where none has, none is looked for.
abbrev pub linked_in : List Record → Bool
linked_in t = some_of (λ p. not (no_links p.links)) t
