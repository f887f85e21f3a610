-- What a frame, a primitive or a device's links give: the refusal of its list, or what has no refusal. For RefusedExactly and RefusedKeeps.
-- Assumes nothing.
use Prim.Native.Nat.{ℕ}
use mathlib.Core.Path.{◌≡◌, refl}
use mathlib.Core.Bool.{Bool, not, ◌||◌}
use mathlib.Core.List.{List}
use lib.Dec.{ltb, eqb}
use lib.ListN.{length}
use borrow.Author.Tests.{eqb-true}
use Rattle.octets.specs.Address.{valid_of}
use Rattle.octets.specs.Element.{broken_of}
use Rattle.octets.specs.Field.{field}
use Rattle.octets.specs.Class.{class_of, classless}
use Rattle.octets.specs.Shape.{is_bare, least_of, shape_of}
use Rattle.octets.specs.Frame.{longest}
use Rattle.octets.proofs.Branch.{by_bool}
use Rattle.octets.specs.Sort.{class_by}
use Rattle.peer.specs.Authentication.{full_of}
use Rattle.peer.specs.Hear.{hear_of}
use Rattle.peer.specs.Ask.{ask_of}
use Rattle.peer.specs.Record.{spoken_at}
use Rattle.peer.specs.Turn.{linking_of, towards_of}
use Rattle.peer.specs.Settings.{role_associates}
use Rattle.peer.specs.declared.settings.Settings.{Settings}
use Rattle.peer.specs.declared.record.Record.{Record}
use Rattle.peer.specs.declared.turn.Turn.{Turn}
use Rattle.table.specs.Places.{on_found, addresses_of, find_of, seek_of}
use Rattle.table.specs.Fit.{well_formed}
use Rattle.table.specs.Others.{others_of}
use Rattle.table.specs.Answer.{settled_of, refused_of}
use Rattle.table.specs.Refusals.{first_of, unless}
use Rattle.table.specs.Seat.{seated_of, stranger_of, starts_of, newcomer_of, turn_in, peer_of, aid_of}
use Rattle.table.specs.Read.{for_us, read_bare, read_from, read_full, read_of}
use Rattle.table.specs.Receive.{heard_from, heard_at, received_of}
use Rattle.table.specs.Ask.{asked_at, asked_of}
use Rattle.table.specs.Exactly.{read_refusals, frame_refusals, ask_refusals, link_refusals}
use Rattle.table.specs.Link.{device_in, linked_at, linked_of, links_in}
use Rattle.table.proofs.Theorems.Worded.{ruled_at, ruled_list, worded}
use Rattle.table.proofs.Theorems.WordedLinks.{ruled_links_at, worded_links}
use Rattle.std.specs.Prelude.{Option, Some, None}
use Rattle.table.specs.declared.rules.read.Reading.{Reading}
use Rattle.table.specs.declared.rules.read.Reading.TheVariants.{Refused, Discarded, Admitted, From}
use Rattle.table.specs.declared.rules.answer.Met.{Met}

-- m is the refusal n of the table t; or n is 0, and m has no refusal
pub data Gives (t : List Record) : ℕ → Met → Type 0 where
  refuses : {n : ℕ} → Gives t n (refused_of t n)
  acts : {m : Met} → m.answer.refusal ≡ 0 → Gives t 0 m

-- a turn refuses nothing
turn_gives : (t : List Record) (at free : Option ℕ) (turn full : Turn) → Gives t 0 (turn_in t at free turn full)
unfolding seated_of stranger_of newcomer_of
turn_gives t (Some i) free turn full = acts refl
turn_gives t None free turn full = by_bool (starts_of turn) (λ e. rw e (found free)) (λ e. rw e (acts refl))
  where
    found : (free : Option ℕ) → Gives t 0 (on_found free (stranger_of t full) (λ i. seated_of t i turn))
    found (Some i) = acts refl
    found None = acts refl

unless_gives : {t : List Record} {m : Met} (n : ℕ) → Gives t 0 m → Gives t n (unless n t m)
unfolding unless
unless_gives n g = by_bool (eqb n 0) (λ e. rw (e, eqb-true n 0 e) g) (λ e. rw e refuses)

-- the refusal of a reading
abbrev read_refusal : Reading → ℕ
read_refusal (Refused n) = n
read_refusal Discarded = 0
read_refusal Admitted = 0
read_refusal (From peer group k h) = 0

heard_gives : (s : Settings) (t : List Record) (r : Reading) → Gives t (read_refusal r) (heard_at s t (addresses_of t) r)
unfolding settled_of heard_from
heard_gives s t (Refused n) = refuses
heard_gives s t Discarded = acts refl
heard_gives s t Admitted = acts refl
heard_gives s t (From peer group k h) =
    let at = seek_of t (addresses_of t) peer in
    turn_gives t at (find_of (addresses_of t) 0) (towards_of peer (hear_of s (peer_of t at peer) (class_by k) group h)) (towards_of peer (full_of s (peer_of t at peer)))

read_refusal_lem : (own : ℕ) (infrastructure : Bool) (xs : List ℕ) → read_refusal (read_of own infrastructure xs) ≡ first_of (read_refusals own xs)
unfolding read_of shape_of read_bare read_full read_from first_of
read_refusal_lem own infrastructure xs =
    by_bool (ltb (length xs) 10 || ltb 4096 (length xs)) (λ a. simp a) (λ a.
    by_bool (classless (class_of xs)) (λ b. simp (a, b)) (λ b.
    by_bool (ltb (length xs) (least_of (field 1 0 xs))) (λ c. simp (a, b, c)) (λ c.
    by_bool (for_us own (field 6 4 xs))
    (λ d. by_bool (is_bare (field 1 0 xs)) (λ e. simp (a, b, c, d, e)) (λ e.
    by_bool (eqb (field 6 10 xs) own || not (valid_of (field 6 10 xs))) (λ f. simp (a, b, c, d, e, f)) (λ f.
    by_bool (broken_of xs) (λ g. simp (a, b, c, d, e, f, g)) (λ g. simp (a, b, c, d, e, f, g)))))
    (λ d. by_bool (is_bare (field 1 0 xs)) (λ e. simp (a, b, c, d, e)) (λ e. simp (a, b, c, d, e))))))

pub received_gives : (s : Settings) (t : List Record) (xs : List ℕ) (n : ℕ) → Gives t (first_of (frame_refusals s t xs n)) (received_of s t xs n)
unfolding received_of first_of
received_gives s t xs n =
    by_bool (ltb n longest) (λ a. simp a refuses) (λ a.
    by_bool (well_formed s t) (λ b. simp (a, b) (rw (read_refusal_lem s.own (role_associates s.role) xs) at (heard_gives s t (read_of s.own (role_associates s.role) xs)))) (λ b. simp (a, b) refuses))

asked_at_gives : (s : Settings) (t : List Record) (ads : List ℕ) (q a c : ℕ) → Gives t (first_of (ruled_at s t ads q a c)) (asked_at s t ads q a c)
unfolding asked_at
asked_at_gives s t ads q a c =
    let at = find_of ads a in
    let turn = towards_of (spoken_at (peer_of t at a)) (ask_of s (aid_of at) (peer_of t at a) (others_of s t) q c) in
    unless_gives _ (turn_gives t at (find_of ads 0) turn turn)

ruled_gives : (s : Settings) (t : List Record) (q a c n : ℕ) → Gives t (first_of (ruled_list s t q a c n)) (asked_of s t q a c n)
unfolding asked_of first_of unless
ruled_gives s t q a c n =
    by_bool (ltb n longest) (λ e. simp e refuses) (λ e.
    by_bool (well_formed s t) (λ b. simp (e, b) (asked_at_gives s t (addresses_of t) q a c)) (λ b. simp (e, b) refuses))

pub asked_gives : (s : Settings) (t : List Record) (q a c n : ℕ) → Gives t (first_of (ask_refusals s t q a c n)) (asked_of s t q a c n)
asked_gives s t q a c n = rw (worded s t q a c n) (ruled_gives s t q a c n)

linked_at_gives : (s : Settings) (t : List Record) (ads xs : List ℕ) → Gives t (first_of (ruled_links_at s t ads xs)) (linked_at s t ads xs)
unfolding linked_at
linked_at_gives s t ads xs =
    let at = find_of ads (device_in xs) in
    let turn = linking_of s (peer_of t at (device_in xs)) (links_in xs) in
    unless_gives _ (turn_gives t at (find_of ads 0) turn turn)

pub linked_gives : (s : Settings) (t : List Record) (xs : List ℕ) (n : ℕ) → Gives t (first_of (link_refusals s t xs n)) (linked_of s t xs n)
unfolding linked_of first_of unless
linked_gives s t xs n = rw (worded_links s t xs n) (
    by_bool (ltb n longest) (λ e. simp e refuses) (λ e.
    by_bool (well_formed s t) (λ b. simp (e, b) (linked_at_gives s t (addresses_of t) xs)) (λ b. simp (e, b) refuses)))
