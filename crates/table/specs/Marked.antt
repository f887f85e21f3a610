-- 01, "Either side of each line": "Marked for proof are the nine steps above and: ..". 02, K5: "marked case: 36, 37".
-- One table of cases, `marked`; proofs/Theorems/MarkedCases.antt proves `all_of comes_out marked ≡ true`.
-- Assumes nothing.
use Rattle.std.specs.Prelude.{ℕ, List, [], ◌∷◌, ◌++◌}
use Rattle.octets.specs.Links.{unlinked}
use Rattle.octets.specs.declared.heard.Kind.TheVariants as kind
use Rattle.peer.specs.Moves.{ds_none, ds_joined, ds_left}
use Rattle.peer.specs.Turn.{none, admit, discard}
use Rattle.peer.specs.declared.exchange.Exchange.{Exchange}
use Rattle.peer.specs.declared.exchange.Exchange.TheVariants as exchange
use Rattle.peer.specs.declared.query.Query.TheVariants as query
use Rattle.peer.specs.declared.record.Record.{Record}
use Rattle.peer.specs.declared.settings.Settings.{Settings}
use Rattle.table.specs.Case.{Case, Line}
use Rattle.table.specs.declared.rules.answer.Answer.{Answer}
use Rattle.table.specs.declared.rules.event.Event.TheVariants as event

-- What the cases are written with

-- We are 02:00:00:00:00:01, the peer is 02:00:00:00:00:0a: as octets, and as numbers, the first octet lowest.
abbrev pub ours : List ℕ
ours = 0x02 ∷ 0 ∷ 0 ∷ 0 ∷ 0 ∷ 0x01 ∷ []

abbrev pub theirs : List ℕ
theirs = 0x02 ∷ 0 ∷ 0 ∷ 0 ∷ 0 ∷ 0x0a ∷ []

abbrev pub us : ℕ
us = 0x010000000002

abbrev pub them : ℕ
them = 0x0a0000000002

-- RSNA not required, timeouts of 100 TU; the first edition, and the times of a query that settings of 12 octets mean.
abbrev pub as_ap : Settings
as_ap = record { own = us; network = 0; authentication = 100; association = 100; role = 1; rsna = 0; edition = 1; protection = 0; retry = 201; maximum = 1000 }

abbrev pub as_station : Settings
as_station = record { own = us; network = 0; authentication = 100; association = 100; role = 2; rsna = 0; edition = 1; protection = 0; retry = 201; maximum = 1000 }

-- Frame Control, duration 0, Address 1, Address 2, Address 3, sequence control 0, body.
abbrev pub frame_of : ℕ → ℕ → List ℕ → List ℕ → List ℕ → List ℕ → List ℕ
frame_of first second to from third body =
    (first ∷ second ∷ 0 ∷ 0 ∷ []) ++ to ++ from ++ third ++ (0 ∷ 0 ∷ []) ++ body

-- Between the peer and us where we are the AP, and where the peer is.
abbrev pub heard_ap : ℕ → ℕ → List ℕ → List ℕ
heard_ap first second body = frame_of first second ours theirs ours body

abbrev pub said_ap : ℕ → List ℕ → List ℕ
said_ap first body = frame_of first 0 theirs ours ours body

abbrev pub heard_station : ℕ → List ℕ → List ℕ
heard_station first body = frame_of first 0 ours theirs theirs body

abbrev pub said_station : ℕ → List ℕ → List ℕ
said_station first body = frame_of first 0 theirs ours theirs body

-- An answer, its fields in the order of the bench program's line after the event's number: refusal; verdict A `admit`, D `discard` or
-- - `none`; notice; its code; bytes written; DS J `ds_joined`, L `ds_left` or - `ds_none`; the peer's state. The current AP, not printed, is none.
abbrev pub prints : ℕ → ℕ → ℕ → ℕ → ℕ → ℕ → ℕ → Answer
prints refusal verdict notice code written ds state =
    record {
      current = 0;
      code = code;
      written = written;
      refusal = refusal;
      verdict = verdict;
      notice = notice;
      ds = ds;
      state = state;
    }

-- Taken, and nothing to tell.
abbrev pub nothing : Answer
nothing = prints 0 none 0 0 0 ds_none 0

-- "A refusal returns its number with everything else zero"
abbrev pub refused : ℕ → Answer
refused n = prints n none 0 0 0 ds_none 0

-- A frame heard, and a primitive (number, code) to the peer: the buffer's length; then the answer, and the octets said.
abbrev pub hears_in : ℕ → List ℕ → Answer → List ℕ → Line
hears_in room xs answer said =
    record { event = event.Frame; frame = xs; room = room; answer = answer; said = said }

abbrev pub asks_in : ℕ → ℕ → ℕ → Answer → List ℕ → Line
asks_in room q code answer said =
    record { event = event.Ask q them code; frame = []; room = room; answer = answer; said = said }

-- "the output scratch is 256 zero bytes for each event"
abbrev pub hears : List ℕ → Answer → List ℕ → Line
hears = hears_in 256

abbrev pub asks : ℕ → ℕ → Answer → List ℕ → Line
asks = asks_in 256

-- A clock step in which no exchange ends: nothing is said.
abbrev pub waits : ℕ → Answer → Line
waits d answer = record { event = event.Clock d; frame = []; room = 256; answer = answer; said = [] }

-- The peer's record, without a query.
abbrev pub peer_in : ℕ → Exchange → ℕ → ℕ → Record
peer_in state e left hold =
    record { address = them; state = state; exchange = e; left = left; hold = hold; query = query.None; identifier = 0; links = unlinked }

-- The frames. Algorithm, transaction, status; capability, listen interval; reason; capability, status, AID, elements.
abbrev pub authentication_request : List ℕ
authentication_request = heard_ap 0xb0 0 (0 ∷ 0 ∷ 1 ∷ 0 ∷ 0 ∷ 0 ∷ [])

abbrev pub association_request : List ℕ
association_request = heard_ap 0x00 0 (0x01 ∷ 0 ∷ 10 ∷ 0 ∷ [])

-- To DS
abbrev pub data_frame : List ℕ
data_frame = heard_ap 0x08 0x01 []

abbrev pub deauthentication : List ℕ
deauthentication = heard_ap 0xc0 0 (3 ∷ 0 ∷ [])

abbrev pub authentication_response : List ℕ
authentication_response = heard_station 0xb0 (0 ∷ 0 ∷ 2 ∷ 0 ∷ 0 ∷ 0 ∷ [])

abbrev pub refused_association : List ℕ → List ℕ
refused_association elements = heard_station 0x10 ((0x01 ∷ 0 ∷ 17 ∷ 0 ∷ 0 ∷ 0 ∷ []) ++ elements)

-- What we say: authentication, transaction 2, status 0; association response, status 0, AID 1; disassociation, reason 7.
abbrev pub authentication_said : List ℕ
authentication_said = said_ap 0xb0 (0 ∷ 0 ∷ 2 ∷ 0 ∷ 0 ∷ 0 ∷ [])

abbrev pub association_said : List ℕ
association_said = said_ap 0x10 (0x01 ∷ 0 ∷ 0 ∷ 0 ∷ 0x01 ∷ 0xc0 ∷ [])

abbrev pub disassociation_said : List ℕ
disassociation_said = said_ap 0xa0 (7 ∷ 0 ∷ [])

-- "authentication request; primitive 2 code 0; association request; primitive 7 code 0; data frame; primitive 10 code 1; same data frame;
-- deauthentication reason 3; clock 1", and the line of each. The table ends empty.
abbrev pub nine_steps : Case
nine_steps =
    record {
      settings = as_ap;
      before = [];
      lines =
          -- 1 0 A 1 0 0 - 1
          hears authentication_request (prints 0 admit 1 0 0 ds_none 1) []
          -- 2 0 - 0 0 30 - 2
          ∷ asks 2 0 (prints 0 none 0 0 30 ds_none 2) authentication_said
          -- 3 0 A 5 0 0 - 2
          ∷ hears association_request (prints 0 admit 5 0 0 ds_none 2) []
          -- 4 0 - 0 0 30 - 2
          ∷ asks 7 0 (prints 0 none 0 0 30 ds_none 2) association_said
          -- 5 0 D 0 0 26 - 2
          ∷ hears data_frame (prints 0 discard 0 0 26 ds_none 2) disassociation_said
          -- 6 0 - 0 0 0 J 4
          ∷ asks 10 1 (prints 0 none 0 0 0 ds_joined 4) []
          -- 7 0 A 0 0 0 - 4
          ∷ hears data_frame (prints 0 admit 0 0 0 ds_none 4) []
          -- 8 0 A 3 3 0 L 1
          ∷ hears deauthentication (prints 0 admit 3 3 0 ds_left 1) []
          -- 9 0 - 0 0 0 - 0
          ∷ waits 1 (prints 0 none 0 0 0 ds_none 0)
          ∷ [];
      after = [];
    }

-- Primitive 4 sends: capability, listen interval 10.
abbrev pub associate_sent : Line
associate_sent = asks 4 0 (prints 0 none 0 0 28 ds_none 2) (said_station 0x00 (0x01 ∷ 0 ∷ 10 ∷ 0 ∷ []))

-- A station authenticates and asks to associate.
abbrev pub asks_first : List Line → List Line
asks_first then =
    asks 1 0 (prints 0 none 0 0 30 ds_none 1) (said_station 0xb0 (0 ∷ 0 ∷ 1 ∷ 0 ∷ 0 ∷ 0 ∷ []))
    ∷ hears authentication_response (prints 0 admit 2 0 0 ds_none 2) []
    ∷ associate_sent
    ∷ then

-- It hears status 17 with these elements.
abbrev pub turned_away : List ℕ → List Line → List Line
turned_away elements then =
    asks_first (hears (refused_association elements) (prints 0 admit 6 17 0 ds_none 2) [] ∷ then)

-- "status 17, no element: after 1,953 TU primitive 4 is refused 8, after one more it sends"
abbrev pub house_time : Case
house_time =
    record {
      settings = as_station;
      before = [];
      lines =
          turned_away []
          (waits 1953 nothing
          ∷ asks 4 0 (refused 8) []
          ∷ waits 1 nothing
          ∷ associate_sent
          ∷ []);
      after = peer_in 2 (exchange.Sent kind.Association) 100 0 ∷ [];
    }

-- "element 56 type 3 value 0: sends at once"
abbrev pub zero_time : Case
zero_time =
    record {
      settings = as_station;
      before = [];
      lines = turned_away (0x38 ∷ 0x05 ∷ 0x03 ∷ 0 ∷ 0 ∷ 0 ∷ 0 ∷ []) (associate_sent ∷ []);
      after = peer_in 2 (exchange.Sent kind.Association) 100 0 ∷ [];
    }

-- "elements `38 05 03 00` cut short", amended by 02, K7: refusal 3; the exchange goes on and there is no hold, so primitive 4 is 9.
abbrev pub cut_short : Case
cut_short =
    record {
      settings = as_station;
      before = [];
      lines =
          asks_first
          (hears (refused_association (0x38 ∷ 0x05 ∷ 0x03 ∷ 0x00 ∷ [])) (refused 3) []
          ∷ asks 4 0 (refused 9) []
          ∷ []);
      after = peer_in 2 (exchange.Sent kind.Association) 100 0 ∷ [];
    }

-- "buffer 33 refused, 34 taken", amended by 02, K5: 36 and 37. A frame, then a primitive.
abbrev pub small_buffer : Case
small_buffer =
    record {
      settings = as_ap;
      before = [];
      lines =
          hears_in 36 authentication_request (refused 1) []
          ∷ hears_in 37 authentication_request (prints 0 admit 1 0 0 ds_none 1) []
          ∷ asks_in 36 2 0 (refused 1) []
          ∷ asks_in 37 2 0 (prints 0 none 0 0 30 ds_none 2) authentication_said
          ∷ [];
      after = peer_in 2 exchange.None 0 0 ∷ [];
    }

-- The marked cases.
unfoldable pub marked : List Case
marked = nine_steps ∷ house_time ∷ zero_time ∷ cut_short ∷ small_buffer ∷ []
