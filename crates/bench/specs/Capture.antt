-- 02, K8: "pcap captures: a 24-octet file header with the number a1b2c3d4 in either byte order, link type 105, then a 16-octet header and the
-- octets of each packet." What such a file holds.
-- Assumes nothing.
use Rattle.std.specs.Prelude.{ℕ, zero, suc, ◌+◌, ◌*◌, Bool, true, false, not, ◌&&◌, ◌||◌, List, [], ◌∷◌, ltb, leb, eqb, length, take, drop}
use Rattle.octets.specs.Pick.{pick}
use Rattle.octets.specs.Field.{field}

-- "in either byte order": a number of four octets at place k, the highest octet first or the lowest.
unfoldable pub big_field : ℕ → List ℕ → ℕ
big_field k xs = 16777216 * field 1 k xs + 65536 * field 1 (k + 1) xs + 256 * field 1 (k + 2) xs + field 1 (k + 3) xs

unfoldable pub number_in : Bool → ℕ → List ℕ → ℕ
number_in big k xs = pick big (big_field k xs) (field 4 k xs)

-- "the number a1b2c3d4": it stands first, and its own order is that of all numbers in the file.
unfoldable pub big_of : List ℕ → Bool
big_of xs = eqb (number_in true 0 xs) 0xa1b2c3d4

unfoldable pub numbered : List ℕ → Bool
numbered xs = big_of xs || eqb (number_in false 0 xs) 0xa1b2c3d4

-- "link type 105": the whole field, octets 20 to 23.
unfoldable pub linked : List ℕ → Bool
linked xs = eqb (number_in (big_of xs) 20 xs) 105

-- A packet: its time in microseconds, the octets that were captured, and how many it had on the air.
pub record Packet : Type 0 where
  pub time : ℕ
  pub original : ℕ
  pub octets : List ℕ

-- Its header: seconds and microseconds, as they stand; how many octets follow; how many there were.
unfoldable pub time_at : Bool → List ℕ → ℕ
time_at big xs = 1000000 * number_in big 0 xs + number_in big 4 xs

abbrev pub captured_at : Bool → List ℕ → ℕ
captured_at big xs = number_in big 8 xs

abbrev pub original_at : Bool → List ℕ → ℕ
original_at big xs = number_in big 12 xs

abbrev pub packet_at : Bool → List ℕ → Packet
packet_at big xs = record { time = time_at big xs; original = original_at big xs; octets = take (captured_at big xs) (drop 16 xs) }

-- Whether a packet's header and all octets that it announces are there.
unfoldable pub whole_at : Bool → List ℕ → Bool
whole_at big xs = leb (captured_at big xs + 16) (length xs)

-- "Packets cut short in capture or over 4,096 octets are left out": by how many octets were captured, and how many there were.
unfoldable pub keeps_of : ℕ → ℕ → Bool
keeps_of captured original = not (ltb captured original) && leb captured 4096

abbrev pub kept_of : Packet → Bool
kept_of p = keeps_of (length p.octets) p.original

-- The packets behind the file's header, up to the end or to the first that is cut.
pub record Walk : Type 0 where
  pub packets : List Packet
  pub cut : Bool

abbrev pub ended : Bool → Walk
ended cut = record { packets = []; cut = cut }

abbrev pub behind : Packet → Walk → Walk
behind p w = record { packets = p ∷ w.packets; cut = w.cut }

-- With k octets of the packet before still to pass.
unfoldable pub walk_from : Bool → ℕ → List ℕ → Walk
walk_from big (suc k) [] = ended false
walk_from big (suc k) (x ∷ xs) = walk_from big k xs
walk_from big zero [] = ended false
walk_from big zero (x ∷ xs) =
    pick (whole_at big (x ∷ xs)) (behind (packet_at big (x ∷ xs)) (walk_from big (captured_at big (x ∷ xs) + 15) xs)) (ended true)
