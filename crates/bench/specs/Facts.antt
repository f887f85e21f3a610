-- 02, K12: what is counted of one event, by its answer: 23 numbers, in the order of a block (sums, specs/Block.antt). And the same as 25 octets, as the run
-- hands them on.
-- Assumes nothing.
use Rattle.std.specs.Prelude.{ℕ, zero, suc, ◌+◌, Bool, false, not, ◌&&◌, ◌||◌, List, [], ◌∷◌, ◌++◌, eqb, get_or, take}
use Rattle.octets.specs.Element.{comeback_of}
use Rattle.octets.specs.Field.{field, octets}
use Rattle.octets.specs.Pick.{pick}
use Rattle.octets.specs.declared.heard.Kind.TheVariants.{Association, Reassociation}
use Rattle.peer.specs.Association.{comeback_hold}
use Rattle.peer.specs.Record.{default_hold}
use Rattle.peer.specs.Settings.{station}
use Rattle.peer.specs.Turn.{confirm_of, discard, disassociation_indication}
use Rattle.table.specs.Why.{no_class}
use Rattle.table.specs.declared.rules.answer.Answer.{Answer}
use Rattle.table.specs.declared.rules.event.Event.{Event}
use Rattle.table.specs.declared.rules.event.Event.TheVariants as event

-- 1 where it is so, else 0.
abbrev pub one : Bool → ℕ
one b = pick b 1 0

-- n numbers, for the values from k on: 1 for v, else 0.
unfoldable pub ones_from : ℕ → ℕ → ℕ → List ℕ
ones_from k zero v = []
ones_from k (suc n) v = one (eqb v k) ∷ ones_from (k + 1) n v

-- "discards by reason": of a frame whose verdict is discard the number of the first rule that decided (K4), else 0.
abbrev pub dropped_by : Event → ℕ → ℕ → ℕ
dropped_by event.Frame verdict reason = pick (eqb verdict discard) reason 0
dropped_by (event.Ask q a c) verdict reason = 0
dropped_by event.Links verdict reason = 0
dropped_by (event.Clock d) verdict reason = 0

-- "events, refusals by number, discards by reason, joins, leaves": the reasons are no class, class filter and group rule, one behind the other; the
-- word to the distribution system is 1 joined, 2 left.
unfoldable pub answer_numbers : Answer → ℕ → List ℕ
answer_numbers a dropped = (1 ∷ []) ++ ones_from 1 9 a.refusal ++ ones_from no_class 3 dropped ++ ones_from 1 2 a.ds

-- "timeouts by kind": 01, "8 bytes: place, kind .., address" for each report of a clock step. How many reports among octets are of a kind, with j octets to
-- pass before the next kind.
unfoldable pub reports_in : ℕ → ℕ → List ℕ → ℕ
reports_in kind j [] = 0
reports_in kind (suc j) (x ∷ xs) = reports_in kind j xs
reports_in kind zero (x ∷ xs) = one (eqb x kind) + reports_in kind 7 xs

-- The octets that a clock step wrote; of another event none.
abbrev pub reported_by : Event → ℕ → List ℕ → List ℕ
reported_by event.Frame written scratch = []
reported_by (event.Ask q a c) written scratch = []
reported_by event.Links written scratch = []
reported_by (event.Clock d) written scratch = take written scratch

unfoldable pub timeout_numbers : List ℕ → List ℕ
timeout_numbers xs = reports_in 1 1 xs ∷ reports_in 2 1 xs ∷ reports_in 3 1 xs ∷ reports_in 4 1 xs ∷ reports_in 5 1 xs ∷ []

-- "the longest and the total hold set": 01 has two rules that set one, both at a station and by a frame. "Other status: State 2, hold set", told by a confirm
-- with that status; "Disassociation in State 3 or 4: .. indication with reason; a station sets the hold to 1,954 TU".
unfoldable pub is_rejected : Answer → Bool
is_rejected a = not (eqb a.code 0) && (eqb a.notice (confirm_of Association) || eqb a.notice (confirm_of Reassociation))

unfoldable pub is_parted : Answer → Bool
is_parted a = eqb a.notice disassociation_indication

unfoldable pub frame_sets : ℕ → Answer → Bool
frame_sets role a = eqb role station && (is_rejected a || is_parted a)

abbrev pub sets_hold : ℕ → Event → Answer → Bool
sets_hold role event.Frame a = frame_sets role a
sets_hold role (event.Ask q x c) a = false
sets_hold role event.Links a = false
sets_hold role (event.Clock d) a = false

-- What it sets, by the octets of the frame: "the first element of id 56, length 5, type 3 gives its 4-octet value in TU; without one, 1,954"; "0 may be set".
unfoldable pub hold_set : List ℕ → Answer → ℕ
hold_set xs a = pick (is_parted a) default_hold (comeback_hold (comeback_of xs))

unfoldable pub hold_of : Bool → List ℕ → Answer → ℕ
hold_of set xs a = pick set (hold_set xs a) 0

-- The first 21 numbers of an event: its answer, the rule that dropped it, its reports, whether it set a hold. Behind them stand the longest hold and the total: its
-- hold, both.
unfoldable pub front_numbers : Answer → ℕ → List ℕ → Bool → List ℕ
front_numbers a dropped reports set = answer_numbers a dropped ++ timeout_numbers reports ++ (one set ∷ [])

unfoldable pub numbers_of : Answer → ℕ → List ℕ → Bool → ℕ → List ℕ
numbers_of a dropped reports set hold = front_numbers a dropped reports set ++ (hold ∷ hold ∷ [])

-- As octets: each of the 21 is one, the hold is four. The numbers that such octets stand for.
unfoldable pub facts_of : Answer → ℕ → List ℕ → Bool → ℕ → List ℕ
facts_of a dropped reports set hold = front_numbers a dropped reports set ++ octets 4 hold

unfoldable pub numbers_in : List ℕ → List ℕ
numbers_in fs =
    get_or fs 0 0 ∷ get_or fs 1 0 ∷ get_or fs 2 0 ∷ get_or fs 3 0 ∷ get_or fs 4 0 ∷ get_or fs 5 0 ∷ get_or fs 6 0 ∷ get_or fs 7 0 ∷ get_or fs 8 0 ∷ get_or fs 9 0 ∷ get_or fs 10 0
    ∷ get_or fs 11 0 ∷ get_or fs 12 0 ∷ get_or fs 13 0 ∷ get_or fs 14 0 ∷ get_or fs 15 0 ∷ get_or fs 16 0 ∷ get_or fs 17 0 ∷ get_or fs 18 0 ∷ get_or fs 19 0 ∷ get_or fs 20 0
    ∷ field 4 21 fs ∷ field 4 21 fs ∷ []

-- By the role, the event, the octets beside it, the answer, the number of the first rule that decided, and the scratch after it.
abbrev pub on_counts : {A : Type 0} → (Answer → ℕ → List ℕ → Bool → ℕ → A) → ℕ → Event → List ℕ → Answer → ℕ → List ℕ → A
on_counts f role e xs a reason scratch =
    f a (dropped_by e a.verdict reason) (reported_by e a.written scratch) (sets_hold role e a) (hold_of (sets_hold role e a) xs a)
