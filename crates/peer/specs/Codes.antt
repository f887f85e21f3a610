-- The standard's status and reason codes that are sent, and its highest AID.
-- Assumes nothing.
use Rattle.std.specs.Prelude.{ℕ}

-- status 1: unspecified failure; 13: algorithm not supported; 17: no room for another station; 30: refused for now,
-- try again later
abbrev pub status_refused : ℕ
status_refused = 1

abbrev pub status_algorithm : ℕ
status_algorithm = 13

abbrev pub status_full : ℕ
status_full = 17

abbrev pub status_later : ℕ
status_later = 30

-- reason 6: class 2 frame from a station that is not authenticated; 7: class 3 frame from one that is not associated
abbrev pub reason_class2 : ℕ
reason_class2 = 6

abbrev pub reason_class3 : ℕ
reason_class3 = 7

-- "AID (low 14 bits) outside 1-2007"
abbrev pub last_aid : ℕ
last_aid = 2007
