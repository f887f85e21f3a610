-- The events of an input, in order, each with what it is played on: what is printed is each event's lines, and `stop` where the input has a fault.
-- Numbers of an input, and comparisons with it, are made of this list. proofs/PlaysPrinted.antt proves `plays_printed`.
-- Assumes nothing.
use Rattle.std.specs.Prelude.{ℕ, zero, suc, Bool, true, false, List, [], ◌∷◌, ◌++◌}
use Rattle.peer.specs.declared.record.Record.{Record}
use Rattle.peer.specs.declared.settings.Settings.{Settings}
use Rattle.table.specs.Step.{step_of}
use Rattle.table.specs.declared.rules.answer.Answer.{Answer}
use Rattle.table.specs.declared.rules.event.Event.{Event}
use Rattle.table.specs.Input.{body_of, taken_of}
use Rattle.bench.specs.Output.{said}
use Rattle.bench.specs.Play.{number_after}
use Rattle.bench.specs.Printed.{Shown, Standing, at_start, begun_with, behind_first, on_taken, played_on}

-- An event: its number, the settings, the table before it, the event itself and the octets beside it.
pub record Play : Type 0 where
  pub number : ℕ
  pub settings : Settings
  pub table : List Record
  pub event : Event
  pub octets : List ℕ

abbrev pub play_on : Standing → Event → List ℕ → Play
play_on s e xs = record { number = number_after s.number; settings = s.settings; table = s.table; event = e; octets = xs }

-- "the output scratch is 256 zero bytes for each event"
abbrev pub answer_of : Play → Answer
answer_of p = (step_of p.settings p.table p.event p.octets 256).answer

-- The events up to the first fault or cut record, or to the end; with k octets of the record before still to pass.
unfoldable pub plays_from : ℕ → Standing → List ℕ → List Play
plays_from (suc k) s [] = []
plays_from (suc k) s (x ∷ xs) = plays_from k s xs
plays_from zero s [] = []
plays_from zero s (x ∷ xs) =
    on_taken (taken_of (x ∷ xs) s.first) []
    (λ t. plays_from (behind_first (x ∷ xs)) (begun_with s t) xs)
    (λ e. play_on s e (body_of (x ∷ xs)) ∷ plays_from (behind_first (x ∷ xs)) (played_on s e (body_of (x ∷ xs))) xs)

-- Whether there is a fault or a cut record.
unfoldable pub stops_from : ℕ → Standing → List ℕ → Bool
stops_from (suc k) s [] = false
stops_from (suc k) s (x ∷ xs) = stops_from k s xs
stops_from zero s [] = false
stops_from zero s (x ∷ xs) =
    on_taken (taken_of (x ∷ xs) s.first) true
    (λ t. stops_from (behind_first (x ∷ xs)) (begun_with s t) xs)
    (λ e. stops_from (behind_first (x ∷ xs)) (played_on s e (body_of (x ∷ xs))) xs)

abbrev pub plays_of : List ℕ → List Play
plays_of xs = plays_from 0 at_start xs

abbrev pub stops : List ℕ → Bool
stops xs = stops_from 0 at_start xs

-- The lines of events, one behind the other.
unfoldable pub lines_of : Shown → List Play → List ℕ
lines_of w [] = []
lines_of w (p ∷ ps) = said (w p.number p.settings p.table p.event p.octets) ++ lines_of w ps
