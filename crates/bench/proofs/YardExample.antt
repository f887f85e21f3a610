-- A capture, imported: a frame at once; a packet cut short, whose time still counts; 1,048 microseconds, a TU with 24 over; a gap of 65,536 TU;
-- time that goes back. The same in the other byte order; and the three refusals.
-- Assumes nothing.
use Prim.Native.Nat.{ℕ}
use mathlib.Core.Path.{◌≡◌, refl}
use mathlib.Core.Bool.{Bool, true, false}
use mathlib.Core.List.{List, [], ◌∷◌, ◌++◌, reverse}
use lib.ListN.{length, take}
use Rattle.octets.specs.Field.{octets}
use Rattle.octets.specs.Pick.{pick}
use Rattle.bench.specs.Capture.{big_field, number_in, big_of, numbered, linked, time_at, whole_at, keeps_of, walk_from}
use Rattle.bench.specs.Import.{Imported, step, frame, full_steps, rest_of, steps_then, moved_of, due_of, paid_of, items_from, counted_of, counts_from, walked_of, file_of, imported_of, stops_at, none}
use Rattle.bench.specs.Play.{number_after}

-- a number of four octets, in either order
abbrev number : Bool → ℕ → List ℕ
number big v = pick big (reverse (octets 4 v)) (octets 4 v)

abbrev header : Bool → ℕ → List ℕ
header big link = number big 0xa1b2c3d4 ++ (number big 0x00040002 ++ (number big 0 ++ (number big 0 ++ (number big 4096 ++ number big link))))

abbrev packet : Bool → ℕ → ℕ → ℕ → List ℕ → List ℕ
packet big seconds over original vs = number big seconds ++ (number big over ++ (number big (length vs) ++ (number big original ++ vs)))

abbrev file : Bool → List ℕ
file big =
    header big 105 ++
    (packet big 5 0 2 (1 ∷ 2 ∷ []) ++
    (packet big 5 1000 2 (9 ∷ []) ++
    (packet big 5 1048 1 (3 ∷ []) ++
    (packet big 72 109888 0 [] ++
    packet big 1 0 1 (7 ∷ [])))))

abbrev meant : Imported
meant =
    record {
      items = frame (1 ∷ 2 ∷ []) ∷ step 1 ∷ frame (3 ∷ []) ∷ step 65535 ∷ step 1 ∷ frame [] ∷ frame (7 ∷ []) ∷ [];
      counts = record { packets = 5; left = 1 };
      refusal = 0;
    }

pub imported_lowest_first : imported_of (file false) ≡ meant
unfolding file_of numbered linked big_of number_in big_field walk_from whole_at time_at keeps_of walked_of items_from moved_of due_of paid_of steps_then full_steps rest_of counts_from counted_of number_after octets
imported_lowest_first = refl

pub imported_highest_first : imported_of (file true) ≡ meant
unfolding file_of numbered linked big_of number_in big_field walk_from whole_at time_at keeps_of walked_of items_from moved_of due_of paid_of steps_then full_steps rest_of counts_from counted_of number_after octets
imported_highest_first = refl

-- a header of 23 octets, another number, another link type, and a last packet that is one octet short: the records before it stand
pub cut_header : imported_of (take 23 (header false 105)) ≡ stops_at none 3
unfolding file_of octets
cut_header = refl

pub other_number : imported_of (0 ∷ header false 105) ≡ stops_at none 1
unfolding file_of numbered big_of number_in big_field octets
other_number = refl

pub other_link : imported_of (header true 127) ≡ stops_at none 2
unfolding file_of numbered linked big_of number_in big_field octets
other_link = refl

pub cut_packet : imported_of (take 42 (header false 105 ++ (packet false 5 0 1 (1 ∷ []) ++ packet false 9 0 1 (1 ∷ [])))) ≡
    record { items = frame (1 ∷ []) ∷ []; counts = record { packets = 1; left = 0 }; refusal = 3 }
unfolding file_of numbered linked big_of number_in big_field walk_from whole_at time_at keeps_of walked_of items_from moved_of due_of paid_of steps_then full_steps rest_of counts_from counted_of number_after octets
cut_packet = refl
