-- 01, "How narrowly each call is bound": "an invented bytes-written number: it is the frame's length, or eight times the timeouts"; "Refusal
-- numbers": "Bytes beyond those written stay as they were."
-- Assumes nothing.
use Rattle.std.specs.Prelude.{ℕ, ◌≤◌, ◌≡◌, Bool, not, ◌&&◌, ◌||◌, List, [], leb, eqb, length, take, drop, Option, None, Some}
use Rattle.octets.specs.Pick.{pick}
use Rattle.octets.specs.Frame.{longest, bytes_of}
use Rattle.octets.specs.declared.frame.Frame.{Frame}
use Rattle.peer.specs.Query.{is_running, query_left, reaches}
use Rattle.peer.specs.declared.query.Query.{Query}
use Rattle.peer.specs.declared.settings.Settings.{Settings}
use Rattle.peer.specs.declared.record.Record.{Record}
use Rattle.table.specs.Refusals.{first_of}
use Rattle.table.specs.Receive.{received_of}
use Rattle.table.specs.Ask.{asked_of}
use Rattle.table.specs.Link.{linked_of}
use Rattle.table.specs.Pass.{pass_refusals, reports_of}
use Rattle.table.specs.declared.rules.event.Event.{Event}
use Rattle.table.specs.declared.rules.event.Event.TheVariants as event

-- The frame replied, in octets.
abbrev pub reply_bytes : Option Frame → List ℕ
reply_bytes None = []
reply_bytes (Some f) = bytes_of f

-- What an event writes, lent a buffer of n octets: the frame replied; of a clock step that is not refused, the reports.
abbrev pub step_bytes : Settings → List Record → Event → List ℕ → ℕ → List ℕ
step_bytes s t event.Frame xs n = reply_bytes (received_of s t xs n).reply
step_bytes s t (event.Ask q a c) xs n = reply_bytes (asked_of s t q a c n).reply
step_bytes s t event.Links xs n = reply_bytes (linked_of s t xs n).reply
step_bytes s t (event.Clock d) xs n = pick (eqb (first_of (pass_refusals s t d n)) 0) (reports_of s d 0 t) []

-- 02, K5: "1 now below 37 bytes but for the clock"; "(256 for a clock step)"
abbrev pub most_of : Event → ℕ
most_of event.Frame = longest
most_of (event.Ask q a c) = longest
most_of event.Links = longest
most_of (event.Clock d) = 256

-- The buffer k is l with the octets vs at its front, w is their number and at most so many, and the others are l's.
pub record Written (most : ℕ) (vs l k : List ℕ) (w : ℕ) : Type 0 where
  pub count : w ≡ length vs
  pub few : w ≤ most
  pub inside : w ≤ length l
  pub same : length k ≡ length l
  pub front : take w k ≡ vs
  pub rest : drop w k ≡ drop w l

-- "An exchange whose time falls to 0 from above ends", in a clock step of d TU.
abbrev pub times_out : ℕ → Record → Bool
times_out d p = not (eqb p.left 0) && leb p.left d

-- 02, K5: "A clock step that reaches a retry reports kind 4; one that reaches the maximum reports kind 5", of a query that runs.
abbrev pub comes_due : Settings → ℕ → Query → Bool
comes_due s d q = is_running q && (leb (query_left q) d || reaches s (query_left q) d)

-- "one report a record"
abbrev pub reports : Settings → ℕ → Record → Bool
reports s d p = times_out d p || comes_due s d p.query
