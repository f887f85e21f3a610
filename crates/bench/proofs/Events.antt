-- What an event makes of a run and of the output, put together from what was played, counted and put.
-- Assumes nothing.
use Prim.Native.Nat.{ℕ, ◌≤◌}
use mathlib.Core.Path.{◌≡◌, refl, ap}
use mathlib.Core.Bool.{Bool, true}
use mathlib.Core.List.{List}
use native.Mathlib.Omega.{arith}
use lib.Dec.{eqb}
use borrow.Author.Tests.{eqb-true}
use Rattle.octets.proofs.Branch.{by_bool}
use Rattle.peer.specs.declared.record.Record.{Record}
use Rattle.peer.specs.declared.settings.Settings.{Settings}
use Rattle.table.proofs.Theorems.DiscardLeaves.{discard_leaves}
use Rattle.table.specs.Answer.{stepped_of}
use Rattle.table.specs.Host.{host_answer, host_in, host_table}
use Rattle.table.specs.Lent.{room_of}
use Rattle.table.specs.Receive.{received_of}
use Rattle.table.specs.Rows.{is_table, records_of}
use Rattle.table.specs.Step.{step_in, step_of}
use Rattle.table.specs.Why.{host_why, reason_number, why_of}
use Rattle.table.specs.declared.rules.answer.Answer.{Answer}
use Rattle.table.specs.declared.rules.why.Why.{Why}
use Rattle.table.specs.declared.rules.event.Event.{Event}
use Rattle.table.specs.declared.rules.event.Event.TheVariants as event
use Rattle.bench.specs.Changes.{changes_lines}
use Rattle.bench.specs.Facts.{dropped_by, facts_of, hold_of, on_counts, reported_by, sets_hold}
use Rattle.bench.specs.Line.{line_of}
use Rattle.bench.specs.Output.{Output, short, up_to, put_of, put_all}
use Rattle.bench.specs.Play.{number_after, zeros}
use Rattle.bench.specs.Printed.{shown_by}
use Rattle.bench.specs.Run.{behind_of, played_of, scratch_of, event_lines, event_output, event_of}
use Rattle.bench.specs.Trace.{trace_lines}
use Rattle.bench.specs.Turn.{Made}
use Rattle.bench.proofs.TableTrip.{trip}
use Rattle.bench.specs.Why.{why_line}
use Rattle.bench.specs.declared.run.Prints.TheVariants as prints
use Rattle.bench.specs.declared.run.Run.{Run}

-- what a table's octets answer is what its records do
host_answer_lem : (ts : List ℕ) (s : Settings) (e : Event) (xs : List ℕ) → is_table ts ≡ true → host_answer ts s e xs zeros ≡ (step_of s (records_of ts) e xs 256).answer
unfolding host_answer
host_answer_lem ts s e xs i = rw i

host_in_lem : (ts : List ℕ) (s : Settings) (e : Event) (xs : List ℕ) → is_table ts ≡ true → host_in ts s e xs zeros ≡ step_in s (records_of ts) e xs zeros
unfolding host_in
host_in_lem ts s e xs i = rw i

pub host_why_lem : (ts : List ℕ) (s : Settings) (e : Event) (xs : List ℕ) → is_table ts ≡ true → host_why ts s e xs 256 ≡ why_of s (records_of ts) e xs 256
unfolding host_why
host_why_lem ts s e xs i = rw i

-- 256 octets are room for every event
pub room_small : (e : Event) → room_of e ≤ 256
room_small event.Frame = omega arith
room_small (event.Ask q a c) = omega arith
room_small event.Links = omega arith
room_small (event.Clock d) = omega arith

-- A frame that is dropped leaves the table as it was, so the rule that dropped it may be asked of the table after it.
dropped_same : (s : Settings) (ts : List ℕ) (e : Event) (xs : List ℕ) → is_table ts ≡ true → Made ts → Made xs →
    dropped_by e (step_of s (records_of ts) e xs 256).answer.verdict (reason_number (host_why (host_table ts s e xs zeros) s e xs 256).reason)
    ≡ dropped_by e (step_of s (records_of ts) e xs 256).answer.verdict (reason_number (why_of s (records_of ts) e xs 256).reason)
unfolding stepped_of host_why
dropped_same s ts (event.Ask q a c) xs i m n = refl
dropped_same s ts event.Links xs i m n = refl
dropped_same s ts (event.Clock d) xs i m n = refl
dropped_same s ts event.Frame xs i m n =
    let t = records_of ts in
    let g = trip s ts event.Frame xs (host_table ts s event.Frame xs zeros) i m n refl in
    by_bool (eqb (received_of s t xs 256).answer.verdict 2)
    (λ h.
    let same = discard_leaves s t xs 256 (eqb-true (received_of s t xs 256).answer.verdict 2 h) in
    rw (g.table, g.records, same))
    (λ h. rw h)

-- What was played, asked and put, in the words of the host's step.
pub noted_put : (s : Settings) (e : Event) (xs ts us ls : List ℕ) (a : Answer) (dropped : ℕ) (reports : List ℕ) (set : Bool) (hold : ℕ) (o o' : Output) →
    (a ≡ host_answer ts s e xs zeros) × (us ≡ host_table ts s e xs zeros) × (ls ≡ host_in ts s e xs zeros) →
    dropped ≡ dropped_by e a.verdict (reason_number (host_why us s e xs 256).reason) → reports ≡ reported_by e a.written ls → set ≡ sets_hold s.role e a → hold ≡ hold_of set xs a →
    o' ≡ put_of (short (facts_of a dropped reports set hold)) o →
    o' ≡ put_of (short (on_counts facts_of s.role e xs (host_answer ts s e xs zeros) (reason_number (host_why (host_table ts s e xs zeros) s e xs 256).reason) (host_in ts s e xs zeros))) o
noted_put s e xs ts us ls a dropped reports set hold o o' p d r f h q = rw (q, h, f, r, d, p.0, p.1, p.2)

-- the line of an event, played in place, and the lines with what the records lent gave behind it
module _ (r : Run) (ts : List ℕ) (e : Event) (xs l : List ℕ) (number : ℕ) (counted : number ≡ number_after r.number) (o : Output) where
  pub plain_output : is_table ts ≡ true → r.prints ≡ prints.Lines → o ≡ put_of (short (line_of number (host_answer ts r.settings e xs zeros))) (up_to l r.out) → o ≡ event_output r (records_of ts) e xs l
  unfolding event_output event_lines shown_by put_all
  plain_output i f p = rw (f, p, counted, host_answer_lem ts r.settings e xs i)

  pub traced_output : r.prints ≡ prints.Trace →
      o ≡ put_all (trace_lines (played_of r (records_of ts) e xs).answer (scratch_of r (records_of ts) e xs) (played_of r (records_of ts) e xs).table) (put_of (short (line_of number (played_of r (records_of ts) e xs).answer)) (up_to l r.out)) →
      o ≡ event_output r (records_of ts) e xs l
  unfolding event_output event_lines shown_by put_all
  traced_output f p = rw (f, p, counted)

  pub changed_output : r.prints ≡ prints.Changes →
      o ≡ put_all (changes_lines (played_of r (records_of ts) e xs).answer (scratch_of r (records_of ts) e xs) (why_of r.settings (records_of ts) e xs 256) (records_of ts) (played_of r (records_of ts) e xs).table) (put_of (short (line_of number (played_of r (records_of ts) e xs).answer)) (up_to l r.out)) →
      o ≡ event_output r (records_of ts) e xs l
  unfolding event_output event_lines shown_by put_all
  changed_output f p = rw (f, p, counted)

  pub why_output_lem : r.prints ≡ prints.Why →
      o ≡ put_of (short (why_line number (why_of r.settings (records_of ts) e xs 256))) (up_to l r.out) →
      o ≡ event_output r (records_of ts) e xs l
  unfolding event_output event_lines shown_by put_all
  why_output_lem f p = rw (f, p, counted)

  pub facts_output : is_table ts ≡ true → Made ts → Made xs → r.prints ≡ prints.Facts →
      o ≡ put_of (short (on_counts facts_of r.settings.role e xs (host_answer ts r.settings e xs zeros) (reason_number (host_why (host_table ts r.settings e xs zeros) r.settings e xs 256).reason) (host_in ts r.settings e xs zeros))) (up_to l r.out) →
      o ≡ event_output r (records_of ts) e xs l
  unfolding event_output event_lines shown_by put_all
  facts_output i m n f p = rw (f, p, host_answer_lem ts r.settings e xs i, host_in_lem ts r.settings e xs i, dropped_same r.settings ts e xs i m n)

-- what the records lent gave, put line by line
pub traced_lines : (r : Run) (ts : List ℕ) (e : Event) (xs : List ℕ) (number : ℕ) (t u : List Record) (a : Answer) (scratch : List ℕ) (o o₁ o₂ : Output) → t ≡ records_of ts →
    (u ≡ (step_of r.settings t e xs 256).table) × (a ≡ (step_of r.settings t e xs 256).answer) × (scratch ≡ step_in r.settings t e xs zeros) →
    o₁ ≡ put_of (short (line_of number a)) o → o₂ ≡ put_all (trace_lines a scratch u) o₁ →
    o₂ ≡ put_all (trace_lines (played_of r (records_of ts) e xs).answer (scratch_of r (records_of ts) e xs) (played_of r (records_of ts) e xs).table) (put_of (short (line_of number (played_of r (records_of ts) e xs).answer)) o)
traced_lines r ts e xs number t u a scratch o o₁ o₂ h p f g = rw (g, f, p.0, p.1, p.2, h)

-- the same of the table's octets before and after, with why
pub changed_lines_lem : (r : Run) (ts us : List ℕ) (e : Event) (xs : List ℕ) (number : ℕ) (w : Why) (a : Answer) (scratch before after : List ℕ) (o o₁ o₂ : Output) → is_table ts ≡ true → Made ts → Made xs →
    before ≡ ts → after ≡ us → w ≡ host_why ts r.settings e xs 256 →
    (a ≡ host_answer ts r.settings e xs zeros) × (us ≡ host_table ts r.settings e xs zeros) × (scratch ≡ host_in ts r.settings e xs zeros) →
    o₁ ≡ put_of (short (line_of number a)) o → o₂ ≡ put_all (changes_lines a scratch w (records_of before) (records_of after)) o₁ →
    o₂ ≡ put_all (changes_lines (played_of r (records_of ts) e xs).answer (scratch_of r (records_of ts) e xs) (why_of r.settings (records_of ts) e xs 256) (records_of ts) (played_of r (records_of ts) e xs).table) (put_of (short (line_of number (played_of r (records_of ts) e xs).answer)) o)
changed_lines_lem r ts us e xs number w a scratch before after o o₁ o₂ i m n b f h p g k =
    let t = trip r.settings ts e xs us i m n p.1 in
    rw (k, g, b, f, h, p.0, p.2, host_answer_lem ts r.settings e xs i, host_in_lem ts r.settings e xs i, host_why_lem ts r.settings e xs i, t.records)

-- the run behind it, with the output k filled up to n
pub event_run : (r : Run) (t : List Record) (e : Event) (xs l : List ℕ) (size number at n : ℕ) (k : List ℕ) → number ≡ number_after r.number →
    at ≡ behind_of r.at size r.have → up_to k n ≡ event_output r t e xs l →
    ◌≡◌ {A = Run} (record { settings = r.settings; fit = r.fit; number = number; at = at; have = r.have; out = n; first = r.first; over = r.over; done = r.done; prints = r.prints }) (event_of r t e xs size l)
unfolding event_of
event_run r t e xs l size number at n k c b h =
    let f : n ≡ (event_output r t e xs l).filled = ap (λ (o : Output). o.filled) h in
    rw (c, b, f)
