-- The trace: lines behind an event's line, for what it does not show.
-- Assumes nothing.
use Rattle.std.specs.Prelude.{ℕ, ◌+◌, ◌*◌, Bool, not, ◌||◌, List, [], ◌∷◌, ◌++◌, ltb, eqb, length, take}
use Rattle.octets.specs.Pick.{pick}
use Rattle.octets.specs.Field.{octets}
use Rattle.octets.specs.Links.{no_links}
use Rattle.peer.specs.Query.{query_left, query_number}
use Rattle.peer.specs.Record.{exchange_number, is_free}
use Rattle.peer.specs.declared.record.Record.{Record}
use Rattle.table.specs.declared.rules.answer.Answer.{Answer}
use Rattle.bench.specs.Output.{Line, short}
use Rattle.bench.specs.Text.{tens, field_of, hex_of}

-- "  octets " and the octets written
abbrev pub octets_word : List ℕ
octets_word = 32 ∷ 32 ∷ 111 ∷ 99 ∷ 116 ∷ 101 ∷ 116 ∷ 115 ∷ 32 ∷ []

unfoldable pub octets_line : List ℕ → List ℕ
octets_line vs = octets_word ++ hex_of vs ++ (10 ∷ [])

-- "  current " and the current AP of a reassociation's indication
abbrev pub current_word : List ℕ
current_word = 32 ∷ 32 ∷ 99 ∷ 117 ∷ 114 ∷ 114 ∷ 101 ∷ 110 ∷ 116 ∷ 32 ∷ []

unfoldable pub current_line : ℕ → List ℕ
current_line a = current_word ++ hex_of (octets 6 a) ++ (10 ∷ [])

-- "  place ", the place, its address, state, exchange, time left and hold
abbrev pub place_word : List ℕ
place_word = 32 ∷ 32 ∷ 112 ∷ 108 ∷ 97 ∷ 99 ∷ 101 ∷ 32 ∷ []

unfoldable pub name_of : ℕ → Record → List ℕ
name_of place p = place_word ++ field_of 2 place ++ hex_of (octets 6 p.address) ++ (32 ∷ [])

unfoldable pub times_of : Record → List ℕ
times_of p =
    field_of 3 p.state ++ field_of 3 (exchange_number p.exchange) ++ field_of 5 p.left ++ tens 10 p.hold ++ (10 ∷ [])

unfoldable pub place_line : ℕ → Record → List ℕ
place_line place p = name_of place p ++ times_of p

-- "  query ", the place, the identifier, the query's number and what is left of it
abbrev pub query_word : List ℕ
query_word = 32 ∷ 32 ∷ 113 ∷ 117 ∷ 101 ∷ 114 ∷ 121 ∷ 32 ∷ []

unfoldable pub query_name : ℕ → Record → List ℕ
query_name place p = query_word ++ field_of 2 place ++ field_of 5 p.identifier

unfoldable pub query_times : Record → List ℕ
query_times p = field_of 3 (query_number p.query) ++ tens 5 (query_left p.query) ++ (10 ∷ [])

unfoldable pub query_line : ℕ → Record → List ℕ
query_line place p = query_name place p ++ query_times p

-- "  links ", the place, and each link behind a blank
abbrev pub links_word : List ℕ
links_word = 32 ∷ 32 ∷ 108 ∷ 105 ∷ 110 ∷ 107 ∷ 115 ∷ 32 ∷ []

unfoldable pub link_text : ℕ → List ℕ
link_text l = pick (eqb l 0) [] (32 ∷ hex_of (octets 6 l))

unfoldable pub links_line : ℕ → Record → List ℕ
links_line place p =
    links_word ++ tens 2 place ++ link_text p.links.one ++ link_text p.links.two ++ link_text p.links.three
    ++ link_text p.links.four ++ (10 ∷ [])

-- A line of n octets in hexadecimal is under 2 n + 64 octets long.
abbrev pub octets_put : List ℕ → Line
octets_put vs = record { room = 2 * length vs + 64; text = octets_line vs }

-- "octets written": where an event wrote any
unfoldable pub octets_lines : ℕ → List ℕ → List Line
octets_lines written scratch =
    pick (eqb written 0) []
    (pick (ltb 256 written) [] (octets_put (take written scratch) ∷ []))

-- "current": a reassociation's indication, notice 7
unfoldable pub current_lines : Answer → List Line
current_lines a = pick (eqb a.notice 7) (short (current_line a.current) ∷ []) []

-- "query": where there is one, or was
unfoldable pub has_query : Record → Bool
has_query p = not (eqb p.identifier 0) || not (eqb (query_number p.query) 0)

unfoldable pub query_lines : ℕ → Record → List Line
query_lines i p = pick (has_query p) (short (query_line i p) ∷ []) []

-- "links": where there are any
unfoldable pub links_lines : ℕ → Record → List Line
links_lines i p = pick (no_links p.links) [] (short (links_line i p) ∷ [])

-- "place": those that are not free, in rising order
unfoldable pub place_lines : ℕ → Record → List Line
place_lines i p = pick (is_free p) [] (short (place_line i p) ∷ (links_lines i p ++ query_lines i p))

unfoldable pub table_lines : ℕ → List Record → List Line
table_lines i [] = []
table_lines i (p ∷ t) = place_lines i p ++ table_lines (i + 1) t

-- What the trace shows of an event: its answer, the scratch and the table after it.
unfoldable pub trace_lines : Answer → List ℕ → List Record → List Line
trace_lines a scratch t = octets_lines a.written scratch ++ current_lines a ++ table_lines 0 t
