-- The importer, fed in pieces: where it stands, what is still to come of the octets not yet taken, and what one turn does with those at hand.
-- Assumes nothing.
use Rattle.std.specs.Prelude.{ℕ, ◌+◌, ◌-◌, ◌≡◌, Bool, true, false, not, List, [], ◌∷◌, ◌++◌, ltb, leb, eqb, length, take, drop, Result, Ok, Err}
use Rattle.octets.specs.Pick.{pick}
use Rattle.octets.specs.Stored.{Stored}
use Rattle.bench.specs.Capture.{big_of, numbered, linked, keeps_of, time_at, captured_at, original_at, walk_from}
use Rattle.bench.specs.Import.{Item, step, frame, rest_of, written_of, moved_of, due_of, paid_of, counted_of, Imported, stops_at, walked_of, file_of, unstarted, none}
use Rattle.bench.specs.declared.importer.Refusal.{Refusal}
use Rattle.bench.specs.declared.importer.Refusal.TheVariants.{OtherNumber, OtherLink, CutShort, Other}
use Rattle.bench.specs.declared.importer.Stage.{Stage}
use Rattle.bench.specs.declared.importer.Stage.TheVariants.{Head, Between, Passing, Over}
use Rattle.bench.specs.declared.passed.Clock.{Clock}
use Rattle.bench.specs.declared.passed.Counts.{Counts}
use Rattle.bench.specs.declared.importer.State.{State}
use Rattle.bench.specs.declared.importer.After.{After}

abbrev pub state_of : Stage → Bool → Clock → Counts → State
state_of g big c k = record { stage = g; big = big; clock = c; counts = k }

-- Before any octet.
abbrev pub start_of : State
start_of = state_of Head false unstarted none

-- "Refusals of the importer: 3 cut header or packet, else 1 other number, 2 other link type". 0 is none.
abbrev pub refusal_number : Refusal → ℕ
refusal_number OtherNumber = 1
refusal_number OtherLink = 2
refusal_number CutShort = 3
refusal_number (Other n) = n

-- What is still to come of the octets not yet taken, by the stage: before the file's header, between packets, within a packet that is left out
-- with n octets still to pass, and after a refusal.
abbrev pub coming_at : Stage → State → List ℕ → Imported
coming_at Head s xs = file_of s.clock s.counts xs
coming_at Between s xs = walked_of s.clock s.counts (walk_from s.big 0 xs)
coming_at (Passing n) s xs =
    pick (leb n (length xs)) (walked_of s.clock (counted_of false s.counts) (walk_from s.big n xs)) (stops_at s.counts 3)
coming_at (Over r) s xs = stops_at s.counts (refusal_number r)

abbrev pub coming_from : State → List ℕ → Imported
coming_from s xs = coming_at s.stage s xs

-- The same, with what was written before it.
abbrev pub before : List Item → Imported → Imported
before is m = record { items = is ++ m.items; counts = m.counts; refusal = m.refusal }

-- A turn: the state after it, how many of the octets at hand it took, what it writes, and whether it wants more octets to go on.
pub record Front : Type 0 where
  pub after : State
  pub taken : ℕ
  pub items : List Item
  pub wants : Bool

abbrev pub ahead : State → ℕ → List Item → Front
ahead s n is = record { after = s; taken = n; items = is; wants = false }

abbrev pub wanting : State → ℕ → Front
wanting s n = record { after = s; taken = n; items = []; wants = true }

unfoldable pub head_front : State → List ℕ → Front
head_front s xs =
    pick (ltb (length xs) 24) (wanting s 0)
    (pick (not (numbered xs)) (ahead (state_of (Over OtherNumber) false s.clock s.counts) 24 [])
    (pick (not (linked xs)) (ahead (state_of (Over OtherLink) false s.clock s.counts) 24 [])
    (ahead (state_of Between (big_of xs) s.clock s.counts) 24 [])))

-- A packet that is kept, once it is there whole. Over 65,535 TU due: one step of them, and the packet stays at the front, so a gap of any length
-- is put out a step at a time. Else what is due, and the frame.
unfoldable pub kept_front : State → Clock → List ℕ → ℕ → Front
kept_front s c vs n =
    pick (ltb 65535 n)
    (ahead (state_of Between s.big (paid_of c 65535) s.counts) 0 (step 65535 ∷ []))
    (ahead (state_of Between s.big (paid_of c n) (counted_of true s.counts)) (length vs + 16) (rest_of n (frame vs ∷ [])))

unfoldable pub between_front : State → List ℕ → Front
between_front s xs =
    pick (ltb (length xs) 16) (wanting s 0)
    (pick (not (keeps_of (captured_at s.big xs) (original_at s.big xs)))
    (ahead (state_of (Passing (captured_at s.big xs)) s.big (moved_of s.clock (time_at s.big xs)) s.counts) 16 [])
    (pick (ltb (length xs - 16) (captured_at s.big xs)) (wanting s 0)
    (kept_front s (moved_of s.clock (time_at s.big xs)) (take (captured_at s.big xs) (drop 16 xs)) (due_of (moved_of s.clock (time_at s.big xs))))))

-- A packet that is left out is never held: its octets are passed as they come.
unfoldable pub passing_front : State → ℕ → List ℕ → Front
passing_front s n xs =
    pick (leb n (length xs))
    (ahead (state_of Between s.big s.clock (counted_of false s.counts)) n [])
    (wanting (state_of (Passing (n - length xs)) s.big s.clock s.counts) (length xs))

abbrev pub front_at : Stage → State → List ℕ → Front
front_at Head s xs = head_front s xs
front_at Between s xs = between_front s xs
front_at (Passing n) s xs = passing_front s n xs
front_at (Over r) s xs = wanting s 0

-- Where there is too little room for the longest thing that a turn writes, a step and a frame of 4,096 octets, it does nothing.
unfoldable pub turn_of : Bool → State → List ℕ → Front
turn_of room s xs = pick room (front_at s.stage s xs) (ahead s 0 [])

-- The input has come to its end, with n octets at hand that no turn takes.
unfoldable pub end_at : Stage → ℕ → ℕ
end_at Head n = 3
end_at Between n = pick (eqb n 0) 0 3
end_at (Passing k) n = 3
end_at (Over r) n = refusal_number r

-- The same, as the program has it: a good end, or the refusal.
unfoldable pub ending_of : Stage → ℕ → Result Unit Refusal
ending_of Head n = Err CutShort
ending_of Between n = pick (eqb n 0) (Ok tt) (Err CutShort)
ending_of (Passing k) n = Err CutShort
ending_of (Over r) n = Err r

-- Whether nothing more of the file is looked at.
unfoldable pub is_over : Stage → Bool
is_over Head = false
is_over Between = false
is_over (Passing n) = false
is_over (Over r) = true

-- The code's turn, where it writes nothing: r, with the output filled up to `at` as before.
abbrev pub turned_of : ℕ → Front → After
turned_of at f = record { state = f.after; taken = f.taken; out = at; wants = f.wants }

-- What a turn leaves: r, and the output o, filled up to `at`, became k.
pub record Fronted (f : Front) (at : ℕ) (o : List ℕ) (r : After) (k : List ℕ) : Type 0 where
  pub state : r.state ≡ f.after
  pub taken : r.taken ≡ f.taken
  pub wants : r.wants ≡ f.wants
  pub out : r.out ≡ at + length (written_of f.items)
  pub put : Stored o at (written_of f.items) k

-- The same of the state s and the octets xs at hand.
abbrev pub Turned : State → List ℕ → ℕ → List ℕ → After → List ℕ → Type 0
Turned s xs at o r k = Fronted (turn_of (leb (at + 4108) (length o)) s xs) at o r k
