-- 01, A received frame, 1 to 5: what is settled before a record is looked up.
-- Assumes nothing.
use Rattle.std.specs.Prelude.{ℕ, Bool, not, ◌||◌, List, eqb}
use Rattle.octets.specs.Pick.{pick}
use Rattle.octets.specs.Address.{valid_of, group_of}
use Rattle.octets.specs.Element.{broken_of}
use Rattle.octets.specs.Field.{field}
use Rattle.octets.specs.Heard.{heard_of}
use Rattle.octets.specs.Shape.{shape_of}
use Rattle.octets.specs.Sort.{sort_of}
use Rattle.octets.specs.declared.shape.Shape.{Shape}
use Rattle.octets.specs.declared.shape.Shape.TheVariants.{Misfit, Classless, Bare, Full}
use Rattle.table.specs.declared.rules.read.Reading.{Reading}
use Rattle.table.specs.declared.rules.read.Reading.TheVariants.{Refused, Discarded, Admitted, From}

-- "Address 1 is neither own nor a group address"
unfoldable pub for_us : ℕ → ℕ → Bool
for_us own to = eqb to own || group_of to

-- 4. "Address 1 (octets 4-9) foreign: 4. CTS and ACK: admit, done, no peer."
unfoldable pub read_bare : ℕ → List ℕ → Reading
read_bare own xs = pick (for_us own (field 6 4 xs)) Admitted (Refused 4)

-- 02, K7: "A (re)association response, at either role, whose elements do not end with the frame is refused. .. Refusals: 3, given after Address 2
-- has been checked and before the class." How the class is known goes by whether there are access points (02, K3 and K10).
unfoldable pub read_from : Bool → ℕ → ℕ → List ℕ → Reading
read_from infrastructure peer to xs = pick (broken_of xs) (Refused 3) (From peer (group_of to) (sort_of infrastructure xs) (heard_of xs))

-- 4., then 5. "Address 2 (octets 10-15) invalid or own: 3. It names the peer."
unfoldable pub read_full : ℕ → Bool → List ℕ → Reading
read_full own infrastructure xs =
    pick (not (for_us own (field 6 4 xs))) (Refused 4)
    (pick (eqb (field 6 10 xs) own || not (valid_of (field 6 10 xs))) (Refused 3)
    (read_from infrastructure (field 6 10 xs) (field 6 4 xs) xs))

-- 1. to 3. are the frame's shape: "Under 10 or over 4,096 bytes: 3"; "Version not 0, or no class: discard, nothing else"; "Below its least
-- length: 3".
abbrev pub read_as : Shape → ℕ → Bool → List ℕ → Reading
read_as Misfit own infrastructure xs = Refused 3
read_as Classless own infrastructure xs = Discarded
read_as Bare own infrastructure xs = read_bare own xs
read_as Full own infrastructure xs = read_full own infrastructure xs

unfoldable pub read_of : ℕ → Bool → List ℕ → Reading
read_of own infrastructure xs = read_as (shape_of xs) own infrastructure xs
