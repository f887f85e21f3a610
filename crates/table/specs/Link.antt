-- 02, K11: primitive 12 names the links of a device: "one to four link addresses, named beforehand by a new primitive 12 for a peer in State 1 (bench
-- kind 4, 7 + 6 × count octets: device address, count, links ..)". Its octets xs stand beside the event.
-- Assumes nothing.
use Rattle.std.specs.Prelude.{ℕ, ◌+◌, ◌*◌, Bool, false, not, ◌&&◌, ◌||◌, List, [], ◌∷◌, ltb, leb, eqb, length, take, Option}
use Rattle.octets.specs.Address.{valid_of}
use Rattle.octets.specs.Field.{field}
use Rattle.octets.specs.Frame.{longest}
use Rattle.octets.specs.Links.{links_at, links_of}
use Rattle.octets.specs.declared.links.Links.{Links}
use Rattle.peer.specs.Settings.{ap}
use Rattle.peer.specs.Turn.{linking_of}
use Rattle.peer.specs.declared.settings.Settings.{Settings}
use Rattle.peer.specs.declared.record.Record.{Record}
use Rattle.table.specs.Places.{on_found, is_found, addresses_of, all_of, find_of, find_link_of}
use Rattle.table.specs.Fit.{distinct_of, well_formed}
use Rattle.table.specs.Refusals.{first_of, unless}
use Rattle.table.specs.Seat.{peer_of, turn_in}
use Rattle.table.specs.declared.rules.answer.Met.{Met}

-- "device address, count, links". (Slots behind the last link have no octets, and are 0.)
abbrev pub device_in : List ℕ → ℕ
device_in xs = field 6 0 xs

abbrev pub count_in : List ℕ → ℕ
count_in xs = field 1 6 xs

abbrev pub links_in : List ℕ → Links
links_in xs = links_at 7 xs

-- The links that are given.
abbrev pub given_in : List ℕ → List ℕ
given_in xs = take (count_in xs) (links_of (links_in xs))

-- "7 + 6 × count octets"; 3 for "a count over 4"
unfoldable pub count_fits : List ℕ → Bool
count_fits xs = leb (count_in xs) 4 && eqb (length xs) (7 + 6 * count_in xs)

-- Whether an address is used by another record than the one at a place: as a device, found at dev, or as a link, found at link. A device's own
-- links may be named again.
unfoldable pub used_elsewhere : Option ℕ → Option ℕ → Option ℕ → Bool
used_elsewhere at dev link = is_found dev || on_found link false (λ j. not (on_found at false (λ i. eqb i j)))

-- 3 for "an address invalid, own, .. or in use elsewhere"
unfoldable pub link_allowed : Settings → Option ℕ → Option ℕ → Option ℕ → ℕ → Bool
link_allowed s at dev link l = valid_of l && (not (eqb l s.own) && not (used_elsewhere at dev link))

-- 3: the device's address, and each link's; "given twice", the device's own address too
unfoldable pub may_link : Settings → List Record → List ℕ → Option ℕ → List ℕ → Bool
may_link s t ads at xs =
    count_fits xs
    && (valid_of (device_in xs)
    && (not (eqb (device_in xs) s.own)
    && (not (is_found (find_link_of t (device_in xs)))
    && (distinct_of (device_in xs ∷ links_of (links_in xs))
    && all_of (λ l. link_allowed s at (find_of ads l) (find_link_of t l) l) (given_in xs)))))

-- "5 away from an access point; 7 outside State 1; 6 without a place": count 0 "makes no record"
abbrev pub link_refusals : Settings → Record → Bool → Option ℕ → Option ℕ → ℕ → List (ℕ × Bool)
link_refusals s p may at free count =
    (3, not may)
    ∷ (5, not (eqb s.role ap))
    ∷ (7, not (eqb p.state 1))
    ∷ (6, not (eqb count 0) && (not (is_found at) && not (is_found free)))
    ∷ []

-- With what a table with these addresses has of the device.
unfoldable pub linked_at : Settings → List Record → List ℕ → List ℕ → Met
linked_at s t ads xs =
    let at = find_of ads (device_in xs) in
    let free = find_of ads 0 in
    let p = peer_of t at (device_in xs) in
    let turn = linking_of s p (links_in xs) in
    unless (first_of (link_refusals s p (may_link s t ads at xs) at free (count_in xs))) t (turn_in t at free turn turn)

-- Lent a buffer of n octets: "Order 1, 2, 3, 5, 7, 6".
unfoldable pub linked_of : Settings → List Record → List ℕ → ℕ → Met
linked_of s t xs n =
    unless (first_of ((1, ltb n longest) ∷ (2, not (well_formed s t)) ∷ [])) t
    (linked_at s t (addresses_of t) xs)
