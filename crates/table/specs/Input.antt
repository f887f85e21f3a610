-- 01, "The bench program": "Standard input holds records: mark 0B 03, kind (1 octet), length (2), body; numbers little-endian."
-- Assumes nothing.
use Rattle.std.specs.Prelude.{ℕ, ◌+◌, ◌-◌, ◌*◌, Bool, not, ◌&&◌, List, [], ltb, leb, eqb, length, take, drop}
use Rattle.octets.specs.Pick.{pick}
use Rattle.octets.specs.Field.{field}
use Rattle.table.specs.Boundary.{settings_in, settings_length}
use Rattle.table.specs.declared.rules.event.Event.{Event}
use Rattle.table.specs.declared.rules.event.Event.TheVariants.{Frame, Ask, Links, Clock}
use Rattle.table.specs.declared.host.input.Taken.{Taken}
use Rattle.table.specs.declared.host.input.Taken.TheVariants.{Cut, Fault, First, Next}

-- mark 0B 03
unfoldable pub marked : List ℕ → Bool
marked xs = eqb (field 2 0 xs) 0x030b

-- "Kind 0, first and only there: .. 12 octets", or 14 (02, K2). "Kind 1: .. 9. Kind 2: a frame, 0 to 4,096. Kind 3: clock step, 2."
-- 02, K11: "kind 4, 7 + 6 × count octets", for a count of 0 to 255; which count it is stands in the body.
abbrev pub event_length : ℕ → ℕ → Bool
event_length kind size =
    pick (eqb kind 1) (eqb size 9) (pick (eqb kind 2) (leb size 4096)
    (pick (eqb kind 3) (eqb size 2) (eqb kind 4 && (leb 7 size && leb size 1537))))

unfoldable pub length_allowed : Bool → ℕ → ℕ → Bool
length_allowed first kind size = pick first (eqb kind 0 && settings_length size) (event_length kind size)

-- A record of kind 4 whose length is not that of its count: octet 6 of the body.
unfoldable pub miscounted : List ℕ → Bool
miscounted xs = eqb (field 1 2 xs) 4 && not (eqb (field 2 3 xs) (7 + 6 * field 1 11 xs))

-- "primitive, address, code"; a frame; a clock step; "device address, count, links"
unfoldable pub event_at : List ℕ → ℕ → Event
event_at xs kind =
    pick (eqb kind 1) (Ask (field 1 5 xs) (field 6 6 xs) (field 2 12 xs)) (pick (eqb kind 2) Frame
    (pick (eqb kind 3) (Clock (field 2 5 xs)) Links))

-- The octets of a record: its head of 5 and its body. Its body, none where it is not there whole.
abbrev pub size_of : List ℕ → ℕ
size_of xs = field 2 3 xs + 5

unfoldable pub body_of : List ℕ → List ℕ
body_of xs = pick (leb (size_of xs) (length xs)) (take (field 2 3 xs) (drop 5 xs)) []

-- What stands at the front of the input. "A fault in mark, kind or length, or a cut record"
unfoldable pub taken_of : List ℕ → Bool → Taken
taken_of xs first =
    pick (ltb (length xs) 5) Cut
    (pick (not (marked xs)) Fault
    (pick (not (length_allowed first (field 1 2 xs) (field 2 3 xs))) Fault
    (pick (ltb (length xs - 5) (field 2 3 xs)) Cut
    (pick first (First (settings_in (body_of xs)))
    (pick (miscounted xs) Fault (Next (event_at xs (field 1 2 xs))))))))
