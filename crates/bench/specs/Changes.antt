-- What `bench changes` shows of an event behind its line: the octets written and the current AP as a trace does, why it came to that where a rule
-- decided, and the places that are not as they were. A place that is not shown is as it was: proofs/ChangesTold.antt, `unshown_same`.
-- Assumes nothing.
use Rattle.std.specs.Prelude.{ℕ, ◌+◌, Bool, ◌&&◌, List, [], ◌∷◌, ◌++◌, eqb}
use Rattle.octets.specs.Pick.{pick}
use Rattle.octets.specs.declared.links.Links.{Links}
use Rattle.peer.specs.Query.{query_left, query_number}
use Rattle.peer.specs.Record.{exchange_number, is_free}
use Rattle.peer.specs.declared.record.Record.{Record}
use Rattle.table.specs.Why.{reason_number}
use Rattle.table.specs.declared.rules.answer.Answer.{Answer}
use Rattle.table.specs.declared.rules.why.Reason.{Reason}
use Rattle.table.specs.declared.rules.why.Why.{Why}
use Rattle.bench.specs.Output.{Line, short}
use Rattle.bench.specs.Text.{tens}
use Rattle.bench.specs.Trace.{current_lines, octets_lines, place_lines}
use Rattle.bench.specs.Why.{word_of}

-- "  because ", the reason's word and the value beside it, as 02, K4 has them
abbrev pub because_word : List ℕ
because_word = 32 ∷ 32 ∷ 98 ∷ 101 ∷ 99 ∷ 97 ∷ 117 ∷ 115 ∷ 101 ∷ 32 ∷ []

unfoldable pub because_text : Reason → ℕ → List ℕ
because_text reason value = because_word ++ word_of reason ++ tens 20 value ++ (10 ∷ [])

abbrev pub because_line : Why → List ℕ
because_line w = because_text w.reason w.value

-- where the reason is another than none
unfoldable pub because_lines : Why → List Line
because_lines w = pick (eqb (reason_number w.reason) 0) [] (short (because_line w) ∷ [])

-- "  free " and the place
abbrev pub free_word : List ℕ
free_word = 32 ∷ 32 ∷ 102 ∷ 114 ∷ 101 ∷ 101 ∷ 32 ∷ []

unfoldable pub free_line : ℕ → List ℕ
free_line place = free_word ++ tens 2 place ++ (10 ∷ [])

-- Whether two records are the same in all that a trace shows.
unfoldable pub same_links : Links → Links → Bool
same_links a b = eqb a.one b.one && (eqb a.two b.two && (eqb a.three b.three && eqb a.four b.four))

unfoldable pub same_times : Record → Record → Bool
same_times p q = eqb (exchange_number p.exchange) (exchange_number q.exchange) && (eqb p.left q.left && eqb p.hold q.hold)

unfoldable pub same_query : Record → Record → Bool
same_query p q =
    eqb p.identifier q.identifier && (eqb (query_number p.query) (query_number q.query) && eqb (query_left p.query) (query_left q.query))

unfoldable pub same_record : Record → Record → Bool
same_record p q =
    eqb p.address q.address && (eqb p.state q.state && (same_times p q && (same_query p q && same_links p.links q.links)))

-- A place whose record was p and is q: nothing where that is the same, that it is free now, or what a trace shows of it.
unfoldable pub moved_lines : ℕ → Record → Record → List Line
moved_lines i p q = pick (same_record p q) [] (pick (is_free q) (short (free_line i) ∷ []) (place_lines i q))

-- The places from i on of a table that was t and is u, in rising order.
unfoldable pub changed_lines : ℕ → List Record → List Record → List Line
changed_lines i [] u = []
changed_lines i (p ∷ t) [] = []
changed_lines i (p ∷ t) (q ∷ u) = moved_lines i p q ++ changed_lines (i + 1) t u

-- What is shown of an event: its answer, the scratch, why, and the table before and after it.
unfoldable pub changes_lines : Answer → List ℕ → Why → List Record → List Record → List Line
changes_lines a scratch w t u = octets_lines a.written scratch ++ current_lines a ++ because_lines w ++ changed_lines 0 t u
