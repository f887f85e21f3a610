-- 01: a clock step, in the table: "clock 1, 2, 3".
-- Assumes nothing.
use Rattle.std.specs.Prelude.{ℕ, ◌+◌, Bool, not, List, [], ◌∷◌, ◌++◌, map, ltb, eqb, length}
use Rattle.std.proofs.lemmas.List.Edits.{sets}
use Rattle.octets.specs.Pick.{pick}
use Rattle.octets.specs.Report.{report_bytes}
use Rattle.peer.specs.Tick.{tick_of}
use Rattle.peer.specs.declared.settings.Settings.{Settings}
use Rattle.peer.specs.declared.record.Record.{Record}
use Rattle.table.specs.Fit.{well_formed}
use Rattle.table.specs.Refusals.{first_of}
use Rattle.table.specs.Answer.{refusal_answer, count_answer}
use Rattle.table.specs.declared.rules.answer.Stepped.{Stepped}
use Rattle.table.specs.declared.records.pass.Clocked.{Clocked}

-- The report of a place, or nothing where no exchange ended there.
unfoldable pub report_for : ℕ → ℕ → ℕ → List ℕ
report_for place kind address = pick (eqb kind 0) [] (report_bytes place kind address)

-- "For each, in rising place, 8 bytes", counted from place n.
unfoldable pub reports_of : Settings → ℕ → ℕ → List Record → List ℕ
reports_of s d n [] = []
reports_of s d n (p ∷ ps) = report_for n (tick_of s p d).report p.address ++ reports_of s d (n + 1) ps

abbrev pub after_of : Settings → ℕ → Record → Record
after_of s d p = (tick_of s p d).peer

unfoldable pub clocked_of : Settings → List Record → ℕ → Clocked
clocked_of s t d = record { table = map (after_of s d) t; written = length (reports_of s d 0 t) }

-- 1 "(256 for a clock step)", 2, 3 "clock step 0"
abbrev pub pass_refusals : Settings → List Record → ℕ → ℕ → List (ℕ × Bool)
pass_refusals s t d n = (1, ltb n 256) ∷ (2, not (well_formed s t)) ∷ (3, eqb d 0) ∷ []

-- A clock step of d TU, lent a buffer of n octets: table and answer.
unfoldable pub passed_of : Settings → List Record → ℕ → ℕ → Stepped
passed_of s t d n =
    pick (eqb (first_of (pass_refusals s t d n)) 0)
    (record { table = (clocked_of s t d).table; answer = count_answer (refusal_answer 0) (clocked_of s t d).written })
    (record { table = t; answer = refusal_answer (first_of (pass_refusals s t d n)) })

-- The buffer l after it: the reports at its front, or as it was.
unfoldable pub passed_in : Settings → List Record → ℕ → List ℕ → List ℕ
passed_in s t d l =
    pick (eqb (first_of (pass_refusals s t d (length l))) 0) (sets l 0 (reports_of s d 0 t)) l
