-- 02, K5: an SA Query to a peer, as a value. What it makes of a frame or a primitive is in Challenge.
-- Assumes nothing.
use Rattle.std.specs.Prelude.{ℕ, ◌+◌, ◌-◌, ◌/◌, ◌%◌, Bool, true, false, not, ◌&&◌, ◌||◌, ◌==◌, nat_le, nat_lt}
use Rattle.octets.specs.Pick.{pick}
use Rattle.peer.specs.declared.query.Query.TheVariants.{None, Running, TimedOut}
use Rattle.peer.specs.declared.query.Query.{Query}
use Rattle.peer.specs.declared.settings.Settings.{Settings}

-- One number for a query, where a table is shown: 0 none, 1 running, 2 running and due, 3 timed out.
unfoldable pub running_number : Bool → ℕ
running_number due = pick due 2 1

abbrev pub query_number : Query → ℕ
query_number None = 0
query_number (Running left due) = running_number due
query_number TimedOut = 3

-- "the query's remaining TU", 0 where none runs
abbrev pub query_left : Query → ℕ
query_left None = 0
query_left (Running left due) = left
query_left TimedOut = 0

-- The query of a number and a time left, and none where it is no query's number.
unfoldable pub query_of : ℕ → ℕ → Query
query_of n left =
    pick (n == 1) (Running left false)
    (pick (n == 2) (Running left true)
    (pick (n == 3) TimedOut None))

abbrev pub is_running : Query → Bool
is_running None = false
is_running (Running left due) = true
is_running TimedOut = false

-- "A query is due at its start and at each multiple of the retry time until a new primitive 11 (AP, code 0) sends the request."
abbrev pub is_due : Query → Bool
is_due None = false
is_due (Running left due) = due
is_due TimedOut = false

abbrev pub is_timed_out : Query → Bool
is_timed_out None = false
is_timed_out (Running left due) = false
is_timed_out TimedOut = true

-- "Leaving State 4 clears both", the query and the mark.
unfoldable pub query_in : ℕ → Query → Query
query_in state q = pick (state == 4) q None

-- "a query starts, at the maximum, if none runs"
unfoldable pub running_of : Settings → Query → Query
running_of s q = pick (is_running q) q (Running s.maximum true)

-- "The identifier starts at 0, goes up by one as a query starts and passes from 65,535 to 0"
unfoldable pub stepped_of : Query → ℕ → ℕ
stepped_of q identifier = pick (is_running q) identifier ((identifier + 1) % 65536)

-- "the next request passes and clears the mark": a query that runs goes on
unfoldable pub unmarked_of : Query → Query
unmarked_of q = pick (is_timed_out q) None q

-- The request of a query was sent: it is no longer due.
abbrev pub sent_query : Query → Query
sent_query None = None
sent_query (Running left due) = Running left false
sent_query TimedOut = TimedOut

-- ---- the clock

-- "at each multiple of the retry time", counted from the start: whether a step of d, where so much is left, reaches one or more
unfoldable pub reaches : Settings → ℕ → ℕ → Bool
reaches s left d =
    not (s.retry == 0) && nat_lt ((s.maximum - left) / s.retry) ((s.maximum - left + d) / s.retry)

-- "one that reaches the maximum .. ends the query and leaves the timed-out mark"; one that reaches a retry makes it due again
unfoldable pub running_timed : Settings → ℕ → Bool → ℕ → Query
running_timed s left due d = pick (nat_le left d) TimedOut (Running (left - d) (due || reaches s left d))

abbrev pub query_timed : Settings → Query → ℕ → Query
query_timed s None d = None
query_timed s (Running left due) d = running_timed s left due d
query_timed s TimedOut d = TimedOut

-- "A clock step that reaches a retry reports kind 4; one that reaches the maximum reports kind 5, ..; one report a record, kind 5 winning."
unfoldable pub running_report : Settings → ℕ → ℕ → ℕ
running_report s left d = pick (nat_le left d) 5 (pick (reaches s left d) 4 0)

abbrev pub query_report : Settings → Query → ℕ → ℕ
query_report s None d = 0
query_report s (Running left due) d = running_report s left d
query_report s TimedOut d = 0

-- 02, K6: "sums that reach no retry": whether so many TU, in one step or in several, reach a retry. A query ends at its maximum: what is a multiple
-- of the retry time there or behind it is no retry.
unfoldable pub running_retried : Settings → ℕ → ℕ → Bool
running_retried s left d = reaches s left (pick (nat_le left d) (left - 1) d)

abbrev pub query_retried : Settings → ℕ → Query → Bool
query_retried s d None = false
query_retried s d (Running left due) = running_retried s left d
query_retried s d TimedOut = false
