-- Histories for K9, each with a class 3 frame at its end: who sends it, what each event is for the sender, and whether it is admitted.
-- One table, `histories`; proofs/Joining/JoinedExamples.antt proves `all_of holds histories ≡ true`.
-- Assumes nothing.
use Rattle.std.specs.Prelude.{ℕ, Bool, ◌&&◌, List, [], ◌∷◌, ◌++◌, map, eqb}
use Rattle.octets.specs.Class.{class_of, number_of}
use Rattle.octets.specs.Pick.{pick}
use Rattle.peer.specs.Settings.{role_associates}
use Rattle.peer.specs.Turn.{admit, discard}
use Rattle.peer.specs.declared.record.Record.{Record}
use Rattle.peer.specs.declared.settings.Settings.{Settings}
use Rattle.table.specs.Case.{same}
use Rattle.table.specs.History.{Happening, Moment, empty_table, left_by, run_from}
use Rattle.table.specs.Joined.{is_association, is_authentication, is_deauthentication, is_teardown, of_octets, sender_in}
use Rattle.table.specs.Marked.{as_ap, as_station, association_request, authentication_request, authentication_response, data_frame, deauthentication, frame_of, ours, theirs, them, us}
use Rattle.table.specs.Places.{all_of}
use Rattle.table.specs.Step.{step_of}
use Rattle.table.specs.declared.rules.event.Event.TheVariants as event

-- What an event is for a device, as a number: nothing, an accepted authentication, an accepted association, a teardown, or one that is a deauthentication.
abbrev pub nothing : ℕ
nothing = 0

abbrev pub authenticated : ℕ
authenticated = 1

abbrev pub associated : ℕ
associated = 2

abbrev pub torn : ℕ
torn = 3

abbrev pub deauthenticated : ℕ
deauthenticated = 4

unfoldable pub mark_of : Settings → ℕ → Moment → ℕ
mark_of s d m =
    pick (is_deauthentication s d m) deauthenticated
    (pick (is_teardown s d m) torn
    (pick (is_association s d m) associated
    (pick (is_authentication s d m) authenticated nothing)))

-- Settings and events from an empty table; a frame behind them; then what must come out: the frame's sender, the mark of each event, and the verdict.
pub record History : Type 0 where
  pub settings : Settings
  pub events : List Happening
  pub frame : List ℕ
  pub sender : ℕ
  pub marks : List ℕ
  pub verdict : ℕ

abbrev pub table_after : History → List Record
table_after c = left_by c.settings empty_table c.events

-- What `ClassThree` asks for is met, and what must come out does.
unfoldable pub holds : History → Bool
holds c =
    role_associates c.settings.role
    && (all_of of_octets c.events
    && (eqb (number_of (class_of c.frame)) 3
    && (eqb (step_of c.settings (table_after c) event.Frame c.frame 37).answer.refusal 0
    && (eqb (sender_in (table_after c) c.frame) c.sender
    && (same (map (mark_of c.settings c.sender) (run_from c.settings empty_table c.events)) c.marks
    && eqb (step_of c.settings (table_after c) event.Frame c.frame 37).answer.verdict c.verdict)))))

-- What the histories are written with

abbrev pub hear : List ℕ → Happening
hear xs = record { event = event.Frame; octets = xs; room = 37 }

abbrev pub ask : ℕ → ℕ → ℕ → Happening
ask q a code = record { event = event.Ask q a code; octets = []; room = 37 }

abbrev pub wait : ℕ → Happening
wait tu = record { event = event.Clock tu; octets = []; room = 256 }

-- Another AP, 02:00:00:00:00:0b; and the links 02:00:00:00:00:1a and 1b of a tablet.
abbrev pub others : List ℕ
others = 0x02 ∷ 0 ∷ 0 ∷ 0 ∷ 0 ∷ 0x0b ∷ []

abbrev pub other : ℕ
other = 0x0b0000000002

abbrev pub link : ℕ → List ℕ
link n = 0x02 ∷ 0 ∷ 0 ∷ 0 ∷ 0 ∷ n ∷ []

-- "The nine steps" as far as the acknowledgement: a peer joins at an access point.
abbrev pub joins_ap : List Happening
joins_ap = hear authentication_request ∷ ask 2 them 0 ∷ hear association_request ∷ ask 7 them 0 ∷ ask 10 them 1 ∷ []

-- A station joins an AP, by an association, and by a reassociation where it has one: status 0 and AID 1.
abbrev pub answered : ℕ → List ℕ → List ℕ
answered first from = frame_of first 0 ours from from (1 ∷ 0 ∷ 0 ∷ 0 ∷ 1 ∷ 0xc0 ∷ [])

abbrev pub joins_station : List Happening
joins_station = ask 1 them 0 ∷ hear authentication_response ∷ ask 4 them 0 ∷ hear (answered 0x10 theirs) ∷ []

abbrev pub roams : List Happening
roams =
    joins_station
    ++ (ask 1 other 0 ∷ hear (frame_of 0xb0 0 ours others others (0 ∷ 0 ∷ 2 ∷ 0 ∷ 0 ∷ 0 ∷ [])) ∷ ask 5 other 0 ∷ hear (answered 0x30 others) ∷ [])

-- From DS
abbrev pub data_from : List ℕ → List ℕ
data_from from = frame_of 0x08 0x02 ours from from []

-- Editions and protection; RSNA required.
abbrev pub as_edition : ℕ → ℕ → ℕ → Settings
as_edition edition protection rsna =
    record { own = us; network = 0; authentication = 100; association = 100; role = 1; rsna = rsna; edition = edition; protection = protection; retry = 201; maximum = 1000 }

-- At an access point.
abbrev pub at_ap : Settings → List Happening → List ℕ → List ℕ → ℕ → History
at_ap s events frame marks verdict = record { settings = s; events = events; frame = frame; sender = them; marks = marks; verdict = verdict }

abbrev pub histories : List History
histories =
    -- a join, and data: not before the acknowledgement, and after it; to a group address too
    at_ap as_ap (hear authentication_request ∷ ask 2 them 0 ∷ hear association_request ∷ ask 7 them 0 ∷ []) data_frame (0 ∷ 1 ∷ 0 ∷ 0 ∷ []) discard
    ∷ at_ap as_ap joins_ap data_frame (0 ∷ 1 ∷ 0 ∷ 0 ∷ 2 ∷ []) admit
    ∷ at_ap as_ap joins_ap (frame_of 0x08 0x01 (255 ∷ 255 ∷ 255 ∷ 255 ∷ 255 ∷ 255 ∷ []) theirs ours []) (0 ∷ 1 ∷ 0 ∷ 0 ∷ 2 ∷ []) admit
    -- where RSNA is required
    ∷ at_ap (as_edition 1 0 1) joins_ap data_frame (0 ∷ 1 ∷ 0 ∷ 0 ∷ 2 ∷ []) admit
    -- a deauthentication, and an authentication after it; a deauthentication that is refused for its buffer; a disassociation from our own side
    ∷ at_ap as_ap (joins_ap ++ (hear deauthentication ∷ hear authentication_request ∷ ask 2 them 0 ∷ [])) data_frame (0 ∷ 1 ∷ 0 ∷ 0 ∷ 2 ∷ 4 ∷ 0 ∷ 1 ∷ []) discard
    ∷ at_ap as_ap (joins_ap ++ (record { event = event.Ask 3 them 1; octets = []; room = 36 } ∷ [])) data_frame (0 ∷ 1 ∷ 0 ∷ 0 ∷ 2 ∷ 0 ∷ []) admit
    ∷ at_ap as_ap (joins_ap ++ (ask 6 them 8 ∷ [])) data_frame (0 ∷ 1 ∷ 0 ∷ 0 ∷ 2 ∷ 3 ∷ []) discard
    -- a rejection, in edition 1 and in edition 2
    ∷ at_ap as_ap (joins_ap ++ (hear association_request ∷ ask 7 them 17 ∷ [])) data_frame (0 ∷ 1 ∷ 0 ∷ 0 ∷ 2 ∷ 0 ∷ 3 ∷ []) discard
    ∷ at_ap (as_edition 2 0 0) (joins_ap ++ (hear association_request ∷ ask 7 them 17 ∷ [])) data_frame (0 ∷ 1 ∷ 0 ∷ 0 ∷ 2 ∷ 0 ∷ 0 ∷ []) admit
    -- a forged request under protection: status 30, and no teardown
    ∷ at_ap (as_edition 2 1 0) (joins_ap ++ (hear association_request ∷ [])) data_frame (0 ∷ 1 ∷ 0 ∷ 0 ∷ 2 ∷ 0 ∷ []) admit
    -- a tablet: its links named, asked by the first, associated by the second
    ∷ at_ap as_ap
    (record { event = event.Links; octets = theirs ++ (2 ∷ link 0x1a) ++ link 0x1b; room = 37 }
    ∷ hear (frame_of 0xb0 0 ours (link 0x1a) ours (0 ∷ 0 ∷ 1 ∷ 0 ∷ 0 ∷ 0 ∷ []))
    ∷ ask 2 them 0
    ∷ hear (frame_of 0x00 0 ours (link 0x1b) ours (0x01 ∷ 0 ∷ 10 ∷ 0 ∷ []))
    ∷ ask 7 them 0
    ∷ ask 10 them 1
    ∷ [])
    (frame_of 0x08 0x01 ours (link 0x1b) ours []) (0 ∷ 0 ∷ 1 ∷ 0 ∷ 0 ∷ 2 ∷ []) admit
    -- a station that roams: the AP that it left, and the one that it came to
    ∷ record { settings = as_station; events = roams; frame = data_from theirs; sender = them; marks = 0 ∷ 1 ∷ 0 ∷ 2 ∷ 0 ∷ 0 ∷ 0 ∷ 3 ∷ []; verdict = discard }
    ∷ record { settings = as_station; events = roams; frame = data_from others; sender = other; marks = 0 ∷ 0 ∷ 0 ∷ 3 ∷ 0 ∷ 1 ∷ 0 ∷ 2 ∷ []; verdict = admit }
    -- an association asked again: a TU before its time is up, and when it is
    ∷ record { settings = as_station; events = joins_station ++ (ask 4 them 0 ∷ wait 99 ∷ []); frame = data_from theirs; sender = them; marks = 0 ∷ 1 ∷ 0 ∷ 2 ∷ 0 ∷ 0 ∷ []; verdict = admit }
    ∷ record { settings = as_station; events = joins_station ++ (ask 4 them 0 ∷ wait 100 ∷ []); frame = data_from theirs; sender = them; marks = 0 ∷ 1 ∷ 0 ∷ 2 ∷ 0 ∷ 3 ∷ []; verdict = discard }
    ∷ []
