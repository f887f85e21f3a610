-- A record of a peer as it crosses to a host: 48 octets, little-endian: address 8, hold 4, left 2, state 1, exchange 1; then of the
-- query its identifier 2, what is left of it 2, and its number 4; then four link addresses of 6.
-- Assumes nothing.
use Rattle.std.specs.Prelude.{ℕ, ◌+◌, List, ◌∷◌, ◌++◌, Bool, ◌&&◌, leb, eqb, length}
use Rattle.std.proofs.lemmas.List.Edits.{sets}
use Rattle.octets.specs.Pick.{pick}
use Rattle.octets.specs.Field.{field, octets}
use Rattle.octets.specs.Links.{link_octets, links_at, unlinked}
use Rattle.octets.specs.declared.row.Row.{Row}

abbrev pub no_row : Row
no_row = record { address = 0; hold = 0; left = 0; state = 0; exchange = 0; identifier = 0; remaining = 0; query = 0; links = unlinked }

-- The row at place k; all zero where the octets end before it does.
unfoldable pub row_at : ℕ → List ℕ → Row
row_at k xs =
    pick (leb (k + 48) (length xs))
    (record {
      address = field 8 k xs;
      hold = field 4 (k + 8) xs;
      left = field 2 (k + 12) xs;
      state = field 1 (k + 14) xs;
      exchange = field 1 (k + 15) xs;
      identifier = field 2 (k + 16) xs;
      remaining = field 2 (k + 18) xs;
      query = field 4 (k + 20) xs;
      links = links_at (k + 24) xs;
    })
    no_row

-- Whether 24 octets are all zero; whether the 48 at place k are there and all zero; whether they are there and have no link.
unfoldable pub empty_at : ℕ → List ℕ → Bool
empty_at k xs = eqb (field 8 k xs) 0 && (eqb (field 8 (k + 8) xs) 0 && eqb (field 8 (k + 16) xs) 0)

unfoldable pub blank_at : ℕ → List ℕ → Bool
blank_at k xs = leb (k + 48) (length xs) && (empty_at k xs && empty_at (k + 24) xs)

unfoldable pub linkless_at : ℕ → List ℕ → Bool
linkless_at k xs = leb (k + 48) (length xs) && empty_at (k + 24) xs

-- The octets of a row: its head, which has those of its query last, and then those of its links.
unfoldable pub query_octets : Row → List ℕ
query_octets r = octets 2 r.identifier ++ octets 2 r.remaining ++ octets 4 r.query

unfoldable pub head_octets : Row → List ℕ
head_octets r = octets 8 r.address ++ octets 4 r.hold ++ octets 2 r.left ++ r.state ∷ r.exchange ∷ query_octets r

unfoldable pub row_octets : Row → List ℕ
row_octets r = head_octets r ++ link_octets r.links

-- The octets xs with a row's head, or with a row, stored at place k, where there is room for the row.
unfoldable pub head_in : ℕ → Row → List ℕ → List ℕ
head_in k r xs = pick (leb (k + 48) (length xs)) (sets xs k (head_octets r)) xs

unfoldable pub row_in : ℕ → Row → List ℕ → List ℕ
row_in k r xs = pick (leb (k + 48) (length xs)) (sets xs k (row_octets r)) xs
